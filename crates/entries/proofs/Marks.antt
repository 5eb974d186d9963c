-- Counting into marks, and the one law of every loop that does it: slot by slot, or entry by entry.
-- Assumes nothing.
use mathlib.Core.Path.{◌≡◌, sym, ap, ◌∙◌, subst}
use mathlib.Core.Bool.{Bool, true, false, cond, false≢true}
use mathlib.Core.List.{List, [], ◌∷◌, ◌++◌, append_assoc, append-nil}
use Prim.Native.Nat.{ℕ, ◌+◌, ◌≤◌, ◌<◌, min}
use native.Mathlib.Decide.{ℕ_discrete}
use native.Mathlib.Omega.{arith}
use lib.ListN.{length, get_or, set, replicate, get_or-replicate}
use lib.Seq.{get_or-set_same, get_or-set_other}
use lib.Dec.{eqb}
use borrow.Author.Tests.{eq-eqb, ne_eqb}
use Rattle.words.specs.Lists.{count_of, all_below}
use Rattle.words.proofs.Lists.{all_below-next, all_below-not, count_of-snoc}
use Rattle.entries.specs.Marks.{raised, Counted, Adds, Pass, gathered}
use Rattle.entries.proofs.Lists.{gathered_next}

-- ---- what is counted

pub counted_none : (made : ℕ) (marks : List ℕ) → made ≤ length marks → marks ≡ replicate (length marks) 0 → Counted made [] marks
counted_none made marks h e = record {
  mark = λ x b. ap (λ (l : List ℕ). get_or l x 0) e ∙ get_or-replicate (length marks) x 0 0 (omega arith);
}

module _ (made : ℕ) where
  pub adds_none : (marks : List ℕ) → Adds made [] marks marks
  adds_none marks = record { adds = λ k c. subst (λ (r : List ℕ). Counted made r marks) (sym (append-nil k)) c }

  pub adds_then : (l m a b c : List ℕ) → Adds made l a b → Adds made m b c → Adds made (l ++ m) a c
  adds_then l m a b c p q = record {
    adds = λ k h. subst (λ (r : List ℕ). Counted made r c) (append_assoc k l m) (q.adds (k ++ l) (p.adds k h));
  }

  pub adds_one : (marks : List ℕ) (x : ℕ) → x < length marks → Adds made (x ∷ []) marks (set marks x (raised (get_or marks x 0)))
  adds_one marks x h = record { adds = λ k c. record { mark = λ y b. go k c y b (ℕ_discrete y x) } }
    where
      go : (k : List ℕ) → Counted made k marks → (y : ℕ) → y < made → Dec (y ≡ x)
          → get_or (set marks x (raised (get_or marks x 0))) y 0 ≡ min 2 (count_of (eqb y) (k ++ (x ∷ [])))
      go k c y b (yes e) =
          let q : cond {A = ℕ} (eqb y x) 1 0 ≡ 1 = rw (eq-eqb y x e) in
          ap (λ (z : ℕ). get_or (set marks x (raised (get_or marks x 0))) z 0) e
          ∙ get_or-set_same marks x (raised (get_or marks x 0)) 0 h
          ∙ ap (λ (z : ℕ). raised (get_or marks z 0)) (sym e)
          ∙ ap raised (c.mark y b)
          ∙ omega (arith, count_of-snoc (eqb y) k x)
      go k c y b (no ne) =
          let q : cond {A = ℕ} (eqb y x) 1 0 ≡ 0 = rw (ne_eqb y x ne) in
          get_or-set_other marks x y (raised (get_or marks x 0)) 0 ne
          ∙ c.mark y b
          ∙ ap (min 2) (omega (arith, count_of-snoc (eqb y) k x))

-- ---- a loop whose turn i is a pass with the test p i over the list f i

pub record Passing (made n : ℕ) (p : ℕ → Bool) (f : ℕ → List ℕ) (before marks : List ℕ) (i : ℕ) : Type 0 where
  pub at : i ≤ n
  pub same : length marks ≡ length before
  pub sofar : all_below p i ≡ true
  pub counts : Adds made (gathered f i) before marks

module _ (made n : ℕ) (p : ℕ → Bool) (f : ℕ → List ℕ) (before : List ℕ) where
  module _ (marks after : List ℕ) (i : ℕ) (s : Passing made n p f before marks i) (r : Bool) where
    pub passing-next : i < n → length after ≡ length marks → Pass made (p i) (f i) marks after r → r ≡ true → Passing made n p f before after (i + 1)
    passing-next b l q e = record {
      at = omega arith;
      same = l ∙ s.same;
      sofar = all_below-next p i s.sofar (sym q.answer ∙ e);
      counts =
          subst (λ (k : List ℕ). Adds made k before after) (sym (gathered_next f i))
          (adds_then made (gathered f i) (f i) before marks after s.counts (q.counts e));
    }

    pub passing-not : i < n → Pass made (p i) (f i) marks after r → r ≡ false → Pass made (all_below p n) (gathered f n) before after false
    passing-not b q e = record {
      answer = sym (all_below-not p n i b (sym q.answer ∙ e));
      counts = λ z. absurd (false≢true z);
    }

  pub passing-all : (marks : List ℕ) (i : ℕ) → Passing made n p f before marks i → n ≤ i → Pass made (all_below p n) (gathered f n) before marks true
  passing-all marks i s h =
      let e : i ≡ n = omega (arith, s.at) in
      record {
        answer = sym (ap (all_below p) (sym e) ∙ s.sofar);
        counts = λ _. subst (λ (k : ℕ). Adds made (gathered f k) before marks) e s.counts;
      }

-- ---- a loop whose turn i is a test

module _ (n : ℕ) (p : ℕ → Bool) where
  pub tested-next : (i : ℕ) (r : Bool) → all_below p i ≡ true → r ≡ p i → r ≡ true → all_below p (i + 1) ≡ true
  tested-next i r h q e = all_below-next p i h (sym q ∙ e)

  pub tested-not : (i : ℕ) (r : Bool) → i < n → r ≡ p i → r ≡ false → false ≡ all_below p n
  tested-not i r b q e = sym (all_below-not p n i b (sym q ∙ e))
