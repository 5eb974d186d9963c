-- Text slots pushed on the free text list one after the other, those of a node among them, and the bytes given back after.
-- Assumes nothing.
use Rattle.std.specs.Prelude.{Option, None, Some}
use mathlib.Core.Path.{◌≡◌, refl, sym, ap, ap₂, subst, ◌∙◌}
use mathlib.Core.List.{List, [], ◌∷◌, ◌++◌}
use Prim.Native.Nat.{ℕ, ◌+◌, ◌<◌}
use native.Mathlib.Omega.{arith}
use lib.ListN.{length, length-append}
use lib.Dec.{eqb}
use Rattle.words.specs.Lists.{count_of}
use Rattle.texts.specs.Pool.{Pool, pushed, reclaimed}
use Rattle.releasing.proofs.Released.{reclaimed-pushed}
use Rattle.records.specs.Records.{first_text, second_text}
use Rattle.words.specs.declared.TextSlot.{TextSlot}
use Rattle.records.specs.declared.Node.{Node}
use Rattle.records.specs.declared.NodeData.{NodeData}
use Rattle.records.specs.declared.NodeData.TheVariants as given
use Rattle.model.specs.Kinds.{Kind, root, texts_of}
use Rattle.model.specs.Doc.{Doc, or_else, kind_in}
use Rattle.model.specs.Rules.{slots_held}
use Rattle.model.specs.Edits.{released_all}
use Rattle.laws.proofs.Freeing.{slots_held-append}
use Rattle.layout.specs.declared.Document.{Document}
use Rattle.memory.specs.Decode.{slot_of, kind_of, kind_loaded, loaded_at, slots_part, slots_made, pool_in, names_in, lengths_add, decode}
use Rattle.memory.specs.Step.{Step}
use Rattle.memory.proofs.Columns.{kind-column, kind-found}
use Rattle.edits.specs.Pooled.{set_pool}
use Rattle.edits.proofs.Composed.{step-none, step-as, step-next}
use Rattle.freeing.specs.Freed.{pushed_all}
use Rattle.freeing.specs.Asked.{Releasable}

pub pushed_all-append : (a b : List (Option ℕ)) (p : Pool) → pushed_all p (a ++ b) ≡ pushed_all (pushed_all p a) b
pushed_all-append [] b p = refl
pushed_all-append (t ∷ a) b p = pushed_all-append a b (pushed p t)

pub pushed_all-free : (l : List (Option ℕ)) (p : Pool) → length (pushed_all p l).free ≡ length p.free + length (slots_held l)
unfolding pushed
pushed_all-free [] p = omega arith
pushed_all-free (None ∷ l) p = pushed_all-free l p
pushed_all-free (Some s ∷ l) p = pushed_all-free l (pushed p (Some s)) ∙ omega arith

-- no text changes
pub pushed_all-texts : (l : List (Option ℕ)) (p : Pool) → (pushed_all p l).texts ≡ p.texts
unfolding pushed
pushed_all-texts [] p = refl
pushed_all-texts (None ∷ l) p = pushed_all-texts l p
pushed_all-texts (Some s ∷ l) p = pushed_all-texts l (pushed p (Some s))

-- what stands on the free text list
pub pushed_all-count : (l : List (Option ℕ)) (p : Pool) (x : ℕ) → count_of (eqb x) (pushed_all p l).free ≡ count_of (eqb x) (slots_held l) + count_of (eqb x) p.free
unfolding pushed
pushed_all-count [] p x = omega arith
pushed_all-count (None ∷ l) p x = pushed_all-count l p x
pushed_all-count (Some s ∷ l) p x = pushed_all-count l (pushed p (Some s)) x ∙ omega arith

-- the bytes given back after all are pushed: each was released in turn
pub reclaimed-all : (l : List (Option ℕ)) (p : Pool) → reclaimed (pushed_all p l) ≡ released_all (reclaimed p) l
reclaimed-all [] p = refl
reclaimed-all (t ∷ l) p = reclaimed-all l (pushed p t) ∙ ap (λ (q : Pool). released_all q l) (reclaimed-pushed p t)

module _ (D : Doc) where
  pub releasable-same : (a b : List (Option ℕ)) → slots_held a ≡ slots_held b → Releasable D a → Releasable D b
  releasable-same a b e r =
      record {
        counts = r.counts;
        lengths = r.lengths;
        room = omega (arith, r.room, ap length e);
      }

  module _ (a b : List (Option ℕ)) (r : Releasable D (a ++ b)) where
    held-length : length (slots_held (a ++ b)) ≡ length (slots_held a) + length (slots_held b)
    held-length = ap length (slots_held-append a b) ∙ length-append (slots_held a) (slots_held b)

    pub releasable-next : Releasable (set_pool D (pushed_all D.pool a)) b
    unfolding set_pool
    releasable-next =
        record {
          counts = r.counts;
          lengths = r.lengths;
          room = omega (arith, r.room, held-length, pushed_all-free a D.pool);
        }

  -- none of them has a slot
  pub none-pushed : set_pool D (pushed_all D.pool []) ≡ D
  unfolding set_pool
  none-pushed = refl

  pub pushed-next : (a b : List (Option ℕ)) → set_pool (set_pool D (pushed_all D.pool a)) (pushed_all (set_pool D (pushed_all D.pool a)).pool b) ≡ set_pool D (pushed_all D.pool (a ++ b))
  unfolding set_pool
  pushed-next a b = ap (set_pool D) (sym (pushed_all-append a b D.pool))

-- ---- the text of a field

module _ (d : Document) (mem : List ℕ) (field : Option TextSlot) where
  pub nothing-pushed : field ≡ None → Step d mem d mem (set_pool (decode d mem) (pushed_all (decode d mem).pool (slot_of field ∷ [])))
  unfolding pushed
  nothing-pushed e =
      step-none d mem (set_pool (decode d mem) (pushed_all (decode d mem).pool (slot_of field ∷ [])))
      (sym (none-pushed (decode d mem)) ∙ ap (λ (f : Option TextSlot). set_pool (decode d mem) (pushed_all (decode d mem).pool (slot_of f ∷ []))) (sym e))

  module _ (t : TextSlot) (e : field ≡ Some t) where
    pub field-pushed : (r : Document) (mem' : List ℕ) → Step d mem r mem' (set_pool (decode d mem) (pushed_all (decode d mem).pool (Some t.0 ∷ [])))
        → Step d mem r mem' (set_pool (decode d mem) (pushed_all (decode d mem).pool (slot_of field ∷ [])))
    field-pushed r mem' s = subst (λ (f : Option TextSlot). Step d mem r mem' (set_pool (decode d mem) (pushed_all (decode d mem).pool (slot_of f ∷ [])))) (sym e) s

-- ---- the texts of a node

-- of two fields; one that a node does not have is empty
abbrev pub fields_of : Option TextSlot → Option TextSlot → List (Option ℕ)
fields_of first second = slot_of first ∷ (slot_of second ∷ [])

one-held : (t : Option ℕ) → slots_held (t ∷ (None ∷ [])) ≡ slots_held (t ∷ [])
one-held None = refl
one-held (Some s) = refl

fields-held : (m : NodeData) → slots_held (fields_of (first_text m) (second_text m)) ≡ slots_held (texts_of (kind_of m))
fields-held given.Root = refl
fields-held (given.Element n a s) = refl
fields-held (given.Attr n v) = one-held (slot_of v)
fields-held (given.Text v) = one-held (slot_of v)
fields-held (given.Comment v) = one-held (slot_of v)
fields-held (given.Namespace p u) = refl
fields-held (given.ProcessingInstruction t c) = refl

fields-pushed : (p : Pool) (m : NodeData) → pushed_all p (fields_of (first_text m) (second_text m)) ≡ pushed_all p (texts_of (kind_of m))
unfolding pushed
fields-pushed p given.Root = refl
fields-pushed p (given.Element n a s) = refl
fields-pushed p (given.Attr n v) = refl
fields-pushed p (given.Text v) = refl
fields-pushed p (given.Comment v) = refl
fields-pushed p (given.Namespace q u) = refl
fields-pushed p (given.ProcessingInstruction t c) = refl

module _ (d : Document) (mem : List ℕ) (m : NodeData) (r : Releasable (decode d mem) (texts_of (kind_of m))) (first second : Option TextSlot) (e : first ≡ first_text m) (f : second ≡ second_text m) where
  abbrev D : Doc
  D = decode d mem

  both : Releasable (decode d mem) (fields_of first second)
  both = releasable-same (decode d mem) (texts_of (kind_of m)) (fields_of first second) (sym (ap₂ (λ (a b : Option TextSlot). slots_held (fields_of a b)) e f ∙ fields-held m)) r

  module _ (d₁ : Document) (mem₁ : List ℕ) (s : Step d mem d₁ mem₁ (set_pool (decode d mem) (pushed_all (decode d mem).pool (slot_of first ∷ [])))) where
    pub second-releasable : Releasable (decode d₁ mem₁) (slot_of second ∷ [])
    second-releasable =
        subst (λ (x : Doc). Releasable x (slot_of second ∷ [])) (sym s.document)
        (releasable-next (decode d mem) (slot_of first ∷ []) (slot_of second ∷ []) both)

    pub data-pushed : (d₂ : Document) (mem₂ : List ℕ) → Step d₁ mem₁ d₂ mem₂ (set_pool (decode d₁ mem₁) (pushed_all (decode d₁ mem₁).pool (slot_of second ∷ [])))
        → Step d mem d₂ mem₂ (set_pool (decode d mem) (pushed_all (decode d mem).pool (texts_of (kind_of m))))
    data-pushed d₂ mem₂ t =
        let E = set_pool D (pushed_all D.pool (slot_of first ∷ [])) in
        step-as d mem d₂ mem₂ (set_pool E (pushed_all E.pool (slot_of second ∷ []))) (set_pool D (pushed_all D.pool (texts_of (kind_of m))))
        (step-next d mem d₁ mem₁ E s (λ (x : Doc). set_pool x (pushed_all x.pool (slot_of second ∷ []))) d₂ mem₂ t)
        (pushed-next D (slot_of first ∷ []) (slot_of second ∷ [])
        ∙ ap₂ (λ (a b : Option TextSlot). set_pool D (pushed_all D.pool (fields_of a b))) e f
        ∙ ap (set_pool D) (fields-pushed D.pool m))

-- the texts of the node in a slot
module _ (d : Document) (mem : List ℕ) (s : ℕ) (b : s < slots_made d) (l : Option Node) (e : l ≡ loaded_at d.limits.nodes (slots_part d mem) s) where
  module _ (m : Node) (f : l ≡ Some m) where
    kind-is : kind_in (decode d mem) s ≡ kind_of m.«data»
    kind-is = kind-found (pool_in d mem) (names_in d mem) (lengths_add d mem) d mem s b m (sym e ∙ f)

    pub node-releasable : Releasable (decode d mem) (texts_of (kind_in (decode d mem) s)) → Releasable (decode d mem) (texts_of (kind_of m.«data»))
    node-releasable r = subst (λ (k : Kind ℕ (Option ℕ)). Releasable (decode d mem) (texts_of k)) kind-is r

    pub node_pushed : (r : Document) (mem' : List ℕ) → Step d mem r mem' (set_pool (decode d mem) (pushed_all (decode d mem).pool (texts_of (kind_of m.«data»))))
        → Step d mem r mem' (set_pool (decode d mem) (pushed_all (decode d mem).pool (texts_of (kind_in (decode d mem) s))))
    node_pushed r mem' t = subst (λ (k : Kind ℕ (Option ℕ)). Step d mem r mem' (set_pool (decode d mem) (pushed_all (decode d mem).pool (texts_of k)))) (sym kind-is) t

  pub no-node-pushed : l ≡ None → Step d mem d mem (set_pool (decode d mem) (pushed_all (decode d mem).pool (texts_of (kind_in (decode d mem) s))))
  no-node-pushed f =
      let k : kind_in (decode d mem) s ≡ root =
      ap (λ (x : Option (Kind ℕ (Option ℕ))). or_else root x) (kind-column (pool_in d mem) (names_in d mem) (lengths_add d mem) d mem s b ∙ ap kind_loaded (sym e ∙ f)) in
      step-none d mem (set_pool (decode d mem) (pushed_all (decode d mem).pool (texts_of (kind_in (decode d mem) s))))
      (sym (none-pushed (decode d mem)) ∙ ap (λ (x : Kind ℕ (Option ℕ)). set_pool (decode d mem) (pushed_all (decode d mem).pool (texts_of x))) (sym k))
