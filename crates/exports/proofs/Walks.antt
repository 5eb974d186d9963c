-- The calls of a walk.
-- Assumes nothing.
use Rattle.std.specs.Prelude.{Result, None, Option}
use Rattle.model.specs.declared.Refusal.{Refusal}
use mathlib.Core.Path.{◌≡◌, refl, sym, ap, ◌∙◌}
use mathlib.Core.Bool.{Bool, true, false, ◌&&◌, true≢false, false≢true}
use mathlib.Core.List.{List}
use Prim.Native.Nat.{ℕ, ◌≤◌, ◌<◌}
use lib.ListN.{length}
use lib.Dec.{leb}
use borrow.Author.Tests.{le-leb, lt-leb}
use Rattle.records.specs.declared.NodeId.{NodeId}
use Rattle.records.specs.Handles.{word_of, id_of}
use Rattle.records.proofs.Handles.{word_of-id_of}
use Rattle.layout.specs.declared.Document.{Document}
use Rattle.steps.specs.declared.position.Position.{Position}
use Rattle.descendants.specs.Contract.{starts_of, next_of, count_below, written_below}
use Rattle.encoding.specs.Records.{document_of, is_lent, lent_record}
use Rattle.encoding.specs.Given.{status_of, given_to, count_words}
use Rattle.encoding.specs.Positions.{position_of, start_words, next_words, next_position}
use Rattle.exports.specs.Walks.{ExportedWalk, next_lent, ExportedNext, ExportedBelow}
use Rattle.encoding.proofs.Records.{Whole, not-lent}
use Rattle.encoding.proofs.Walked.{GivesNext}

-- a handle that went through its two halves
same_word : (h : ℕ) (id : NodeId) → id ≡ id_of h → word_of id ≡ h
same_word h id e = ap word_of e ∙ word_of-id_of h

-- ---- the promises

module _ (h : ℕ) (words mem at : List ℕ) where
  pub start-short : (l : Option Document) → l ≡ lent_record words (length at) 7 → l ≡ None → ExportedWalk h words mem at 4 at
  start-short l e s = record { short = λ z. (refl, refl); starts = λ t. absurd (false≢true (sym (not-lent words (length at) 7 l e s) ∙ t)) }

  pub start-given : (d : Document) → Whole words (length at) 7 d → (id : NodeId) → id ≡ id_of h → (r : Result Position Refusal) → r ≡ starts_of d mem (word_of id)
      → (status : ℕ) (at' : List ℕ) → (status ≡ status_of (start_words r)) × (at' ≡ given_to at (start_words r)) → ExportedWalk h words mem at status at'
  start-given d l id i r e status at' g =
      let q : r ≡ starts_of (document_of words) mem h = e ∙ ap (λ (x : Document). starts_of x mem (word_of id)) l.is ∙ ap (starts_of (document_of words) mem) (same_word h id i) in
      record {
        short = λ z. absurd (true≢false (sym l.lent ∙ z));
        starts = λ z. (g.0 ∙ ap (λ (x : Result Position Refusal). status_of (start_words x)) q, g.1 ∙ ap (λ (x : Result Position Refusal). given_to at (start_words x)) q);
      }

module _ (words mem at out : List ℕ) where
  none-given : next_lent words at out ≡ false → ExportedNext words mem at out 4 at out
  none-given f =
      record {
        short = λ z. (refl, refl, refl);
        returned = λ t. absurd (false≢true (sym f ∙ t));
        position = λ t. absurd (false≢true (sym f ∙ t));
        answer = λ t. absurd (false≢true (sym f ∙ t));
      }

  pub next-few : length out < 2 → ExportedNext words mem at out 4 at out
  next-few h = none-given (both (is_lent words (length at) 7) (leb 2 (length out)) (lt-leb 2 (length out) h))
    where
      both : (a b : Bool) → b ≡ false → (a && b) ≡ false
      both true b e = e
      both false b e = refl

  pub next-short : (l : Option Document) → l ≡ lent_record words (length at) 7 → l ≡ None → ExportedNext words mem at out 4 at out
  next-short l e s = none-given (ap (λ (b : Bool). b && leb 2 (length out)) (not-lent words (length at) 7 l e s))

  pub next-given : (d : Document) → Whole words (length at) 7 d → 2 ≤ length out → (p : Position) → p ≡ position_of at → (r : Result (Option Position) Refusal) → r ≡ next_of d mem p
      → (status : ℕ) (at' out' : List ℕ) → GivesNext at out r status at' out' → ExportedNext words mem at out status at' out'
  next-given d l room p i r e status at' out' g =
      let q : r ≡ next_of (document_of words) mem (position_of at) = e ∙ ap (λ (x : Document). next_of x mem p) l.is ∙ ap (next_of (document_of words) mem) i in
      let y : next_lent words at out ≡ true = rw (l.lent, le-leb 2 (length out) room) in
      record {
        short = λ z. absurd (true≢false (sym y ∙ z));
        returned = λ z. g.0 ∙ ap (λ (x : Result (Option Position) Refusal). status_of (next_words x)) q;
        position = λ z. g.1 ∙ ap (λ (x : Result (Option Position) Refusal). given_to at (next_position x)) q;
        answer = λ z. g.2 ∙ ap (λ (x : Result (Option Position) Refusal). given_to out (next_words x)) q;
      }

module _ (h : ℕ) (words mem list out : List ℕ) where
  pub below-short : (l : Option Document) → l ≡ lent_record words (length out) 1 → l ≡ None → ExportedBelow h words mem list out 4 list out
  below-short l e s =
      let f = not-lent words (length out) 1 l e s in
      record {
        short = λ z. (refl, refl, refl);
        returned = λ t. absurd (false≢true (sym f ∙ t));
        listed = λ t. absurd (false≢true (sym f ∙ t));
        answer = λ t. absurd (false≢true (sym f ∙ t));
      }

  pub below-given : (d : Document) → Whole words (length out) 1 d → (id : NodeId) → id ≡ id_of h → (r : Result ℕ Refusal) (list' : List ℕ)
      → (r ≡ count_below d mem (word_of id) list) × (list' ≡ written_below d mem (word_of id) list)
      → (status : ℕ) (out' : List ℕ) → (status ≡ status_of (count_words r)) × (out' ≡ given_to out (count_words r)) → ExportedBelow h words mem list out status list' out'
  below-given d l id i r list' e status out' g =
      let w = same_word h id i in
      let q : r ≡ count_below (document_of words) mem h list
      = e.0 ∙ ap (λ (x : Document). count_below x mem (word_of id) list) l.is ∙ ap (λ (x : ℕ). count_below (document_of words) mem x list) w in
      record {
        short = λ z. absurd (true≢false (sym l.lent ∙ z));
        returned = λ z. g.0 ∙ ap (λ (x : Result ℕ Refusal). status_of (count_words x)) q;
        listed = λ z. e.1 ∙ ap (λ (x : Document). written_below x mem (word_of id) list) l.is ∙ ap (λ (x : ℕ). written_below (document_of words) mem x list) w;
        answer = λ z. g.1 ∙ ap (λ (x : Result ℕ Refusal). given_to out (count_words x)) q;
      }
