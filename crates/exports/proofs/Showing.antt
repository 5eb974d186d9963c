-- Words that are copied out.
-- Assumes nothing.
use Rattle.std.specs.Prelude.{Result, Ok, Err, None, Option}
use Rattle.model.specs.declared.Refusal.{Refusal}
use mathlib.Core.Path.{◌≡◌, refl, sym, ap, ◌∙◌}
use mathlib.Core.Bool.{Bool, true, false, cond, true≢false, false≢true}
use mathlib.Core.List.{List, [], ◌∷◌, ◌++◌}
use Prim.Native.Nat.{ℕ, ◌≤◌, ◌<◌}
use native.Mathlib.Omega.{arith}
use native.Mathlib.Nat.{zero-add}
use lib.ListN.{length, get_or, take, drop}
use borrow.Author.Tests.{le-leb, lt-leb, ne_eqb}
use Rattle.words.specs.Parts.{put}
use Rattle.words.proofs.Parts.{put-nil}
use Rattle.blocks.specs.Arena.{Block}
use Rattle.layout.specs.declared.Document.{Document}
use Rattle.model.specs.Kinds.{children, attributes, namespaces}
use Rattle.reading.specs.Answers.{entries_shown}
use Rattle.reading.specs.Contract.{NodesRead}
use Rattle.editing.proofs.Numbers.{never-zero}
use Rattle.model.specs.Refusals.{number_of}
use Rattle.model.specs.Calls.{every_node}
use Rattle.encoding.specs.Records.{document_of, is_lent, lent_record}
use Rattle.encoding.specs.Given.{status_of, given_to, count_words}
use Rattle.exports.specs.Contract.{shown_to, shown_for, entries_told, ExportedShow, ExportedNodes}
use Rattle.encoding.proofs.Records.{Whole, not-lent}
use Rattle.exports.proofs.Exporting.{told-refused, returned-words, returned-none}

-- ---- the copy

pub copied : (ws out front : List ℕ) → front ≡ ws → front ++ drop (length ws) out ≡ put 0 ws out
unfolding put
copied ws out front e = rw (e, zero-add) refl

pub shown-all : (ws out out' : List ℕ) → length ws ≤ length out → out' ≡ put 0 ws out → out' ≡ shown_to ws out
unfolding shown_to
shown-all ws out out' h e = e ∙ sym (rw (le-leb (length ws) (length out) h))

pub shown-none : (ws out : List ℕ) → length out < length ws → out ≡ shown_to ws out
unfolding shown_to
shown-none ws out h = sym (rw (lt-leb (length ws) (length out) h))

-- ---- the arenas by number

module _ (d : Document) (mem : List ℕ) (a : ℕ) (b : Block) where
  pub entries-children : a ≡ 0 → (r : List ℕ) → r ≡ entries_shown d mem children b → r ≡ entries_told a b d mem
  unfolding entries_told
  entries-children q r e = rw q e

  pub entries-attributes : a ≡ 1 → (r : List ℕ) → r ≡ entries_shown d mem attributes b → r ≡ entries_told a b d mem
  unfolding entries_told
  entries-attributes q r e = rw q e

  pub entries-namespaces : a ≡ 2 → (r : List ℕ) → r ≡ entries_shown d mem namespaces b → r ≡ entries_told a b d mem
  unfolding entries_told
  entries-namespaces q r e = rw q e

  pub entries-other : (a ≡ 0 → ⊥) → (a ≡ 1 → ⊥) → (a ≡ 2 → ⊥) → [] ≡ entries_told a b d mem
  unfolding entries_told
  entries-other x y z = sym (rw (ne_eqb a 0 x, ne_eqb a 1 y, ne_eqb a 2 z))

-- ---- the promise

module _ (words : List ℕ) where
  shown-for : (vs : List ℕ) (t : Bool) → is_lent words 0 0 ≡ t → shown_for words vs ≡ cond t vs []
  unfolding shown_for
  shown-for vs t e = rw e

  pub shows-none : (vs out : List ℕ) (l : Option Document) → l ≡ lent_record words 0 0 → l ≡ None → ExportedShow words vs out 0 out
  shows-none vs out l e s =
      let q : shown_for words vs ≡ [] = shown-for vs false (not-lent words 0 0 l e s) in
      record {
        number = rw q;
        written = rw q (shown-all [] out out (omega arith) (sym (put-nil out 0 [])));
      }

  pub shows-part : (d : Document) → Whole words 0 0 d → (f : Document → List ℕ) (vs out : List ℕ) (count : ℕ) (out' : List ℕ)
      → vs ≡ f d → (count ≡ length vs) × (out' ≡ shown_to vs out) → ExportedShow words (f (document_of words)) out count out'
  shows-part d l f vs out count out' e q =
      let r : shown_for words (f (document_of words)) ≡ vs = shown-for (f (document_of words)) true l.lent ∙ sym (e ∙ ap f l.is) in
      record { number = rw r q.0; written = rw r q.1 }

-- ---- every live node

module _ (words mem list out : List ℕ) where
  pub nodes-short : (l : Option Document) → l ≡ lent_record words (length out) 1 → l ≡ None → ExportedNodes words mem list out 4 list out
  nodes-short l e s =
      let f = not-lent words (length out) 1 l e s in
      record {
        short = λ z. (refl, refl, refl);
        shows = λ t. absurd (false≢true (sym f ∙ t));
        listed = λ t. absurd (false≢true (sym f ∙ t));
        answer = returned-none out 1 4 (λ z. omega arith);
      }

  pub nodes-shown : (d : Document) → Whole words (length out) 1 d → (r : Result ℕ Refusal) (status : ℕ) (list' out' : List ℕ) → NodesRead d mem list list' r
      → (status ≡ status_of (count_words r)) × (out' ≡ given_to out (count_words r)) → ExportedNodes words mem list out status list' out'
  unfolding put
  nodes-shown d l (Ok n) status list' out' e q =
      rw (q.0, q.1)
      (record {
        short = λ z. absurd (true≢false (sym l.lent ∙ z));
        shows = λ t. rw (← l.is) e.answer;
        listed = λ t. rw (← l.is) e.buffer;
        answer = returned-words out (n ∷ []) l.enough;
      })
  nodes-shown d l (Err why) status list' out' e q =
      rw (q.0, q.1)
      (record {
        short = λ z. absurd (true≢false (sym l.lent ∙ z));
        shows = λ t. rw (told-refused why (every_node (take (get_or out 0 0) list')), ← l.is) e.answer;
        listed = λ t. rw (← l.is) e.buffer;
        answer = returned-none out 1 (number_of why) (λ z. never-zero why z);
      })
