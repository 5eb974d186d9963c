-- Steps in a row.
-- Assumes nothing.
use mathlib.Core.Path.{◌≡◌, refl, sym, ap, subst, ◌∙◌}
use mathlib.Core.Bool.{true}
use mathlib.Core.List.{List}
use Prim.Native.Nat.{ℕ}
use lib.ListN.{length, drop}
use Rattle.model.specs.Doc.{Doc}
use Rattle.layout.specs.declared.Limits.{Limits}
use Rattle.layout.specs.declared.Document.{Document}
use Rattle.layout.specs.Layout.{limits_of, document_words, memory_ok}
use Rattle.memory.specs.Decode.{decode}
use Rattle.memory.specs.declared.lent.Lent.{Lent}
use Rattle.memory.specs.Lent.{Becomes, Stepped}
use Rattle.memory.specs.Step.{Step}

-- nothing is written
pub step-none : (d : Document) (mem : List ℕ) (D : Doc) → decode d mem ≡ D → Step d mem d mem D
step-none d mem D e = record { document = e; limits = refl; size = refl; past = refl }

-- the same document, said otherwise
pub step-as : (d : Document) (mem : List ℕ) (r : Document) (mem' : List ℕ) (D E : Doc) → Step d mem r mem' D → D ≡ E → Step d mem r mem' E
step-as d mem r mem' D E s e = record { document = s.document ∙ e; limits = s.limits; size = s.size; past = s.past }

module _ (d : Document) (mem : List ℕ) (e : Document) (mem₁ : List ℕ) (D : Doc) (s : Step d mem e mem₁ D) where
  -- test 4 is passed as before
  pub step-memory : memory_ok d (length mem) ≡ true → memory_ok e (length mem₁) ≡ true
  unfolding memory_ok
  step-memory ok = rw (s.limits, s.size) ok

  -- a second step, which is a function of the document that the first left
  pub step-next : (f : Doc → Doc) (r : Document) (mem₂ : List ℕ) → Step e mem₁ r mem₂ (f (decode e mem₁)) → Step d mem r mem₂ (f D)
  step-next f r mem₂ t =
      record {
        document = t.document ∙ ap f s.document;
        limits = t.limits ∙ s.limits;
        size = t.size ∙ s.size;
        past = subst (λ (l : Limits). drop (document_words (limits_of l)) mem₂ ≡ drop (document_words (limits_of l)) mem₁) s.limits t.past ∙ s.past;
      }

-- the last write over lent memory leaves the record and the words of a step
pub stepped : (a b c : Lent) (e : Document) (mem : List ℕ) (D : Doc) → b.words.ghost_name ≡ a.words.ghost_name → Becomes b c e mem
    → Step a.document a.words.now e mem D → Stepped a c D
stepped a b c e mem D g w s =
    record {
      step =
          subst (λ (x : Document). Step a.document a.words.now x c.words.now D) (sym w.record_is)
          (subst (λ (x : List ℕ). Step a.document a.words.now e x D) (sym w.words_are) s);
      reference = w.reference ∙ g;
    }
