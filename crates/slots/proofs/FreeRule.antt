-- The test of rule 2 says the rule, both ways, and what the functions that decide it cite.
-- Assumes nothing.
use Rattle.std.proofs.Common.{◌≡◌, ℕ, ◌+◌, ◌-◌, ◌%◌, ◌<◌, ◌≤◌, Bool, true, false, cond, eqb, ltb, List, length, get_or, take, drop, set, sym, refl, ap, ◌∙◌, add-one, arith, length-set, length-take-le, get_or-set_other, take-suc, get_or-set_same, ltb-true, le-ltb, lt-ltb, eq-eqb, ne_eqb, eqb-true}
use mathlib.Core.Bool.{false≢true}
use native.Mathlib.Nat.{sub-zero}
use native.Mathlib.Decide.{ℕ_discrete}
use Rattle.words.specs.Parts.{part}
use Rattle.words.specs.Lists.{count_of, all_below}
use Rattle.words.proofs.Parts.{lent, length_part}
use Rattle.words.proofs.Lists.{count_of-le, all_below-at, at-all_below, all_below-next, all_below-not, all_below-same, count_of-snoc}
use Rattle.words.proofs.Tests.{and_left, and_right, and_both}
use Rattle.slots.specs.FreeRule.{FreeRule, are_slots, free_rule, Counted, marks_match, generations, free_stack}

-- ---- the test says the rule

pub rule-of : (gens free : List ℕ) → free_rule gens free ≡ true → FreeRule gens free
unfolding free_rule
rule-of gens free h =
    let p : ℕ → Bool = λ s. eqb (count_of (eqb s) free) (get_or gens s 0 % 2) in
    let slots = and_left (are_slots (length gens) free) (all_below p (length gens)) h in
    let due = and_right (are_slots (length gens) free) (all_below p (length gens)) h in
    record {
      inside = λ i b. ltb-true _ _ (all_below-at _ (length free) slots i b);
      once = λ s b. eqb-true _ _ (all_below-at p (length gens) due s b);
    }

pub of-rule : (gens free : List ℕ) → FreeRule gens free → free_rule gens free ≡ true
unfolding free_rule
of-rule gens free r =
    and_both _ _ (at-all_below _ (length free) (λ i b. lt-ltb _ _ (r.inside i b))) (at-all_below _ (length gens) (λ s b. eq-eqb _ _ (r.once s b)))

-- ---- counting the entries

-- what is known of the marks after i entries
pub record Counting (made : ℕ) (free marks₀ marks : List ℕ) (i : ℕ) : Type 0 where
  pub at : i ≤ length free
  pub room : made ≤ length marks
  pub same : length marks ≡ length marks₀
  pub slots : all_below (λ k. ltb (get_or free k 0) made) i ≡ true
  pub counts : (s : ℕ) → s < made → get_or marks s 0 ≡ count_of (eqb s) (take i free)

module _ (made : ℕ) (free marks₀ : List ℕ) where
  module _ (marks : List ℕ) (i : ℕ) (k : Counting made free marks₀ marks i) where
    pub counting-next : i < length free → get_or free i 0 < made → Counting made free marks₀ (set marks (get_or free i 0) (get_or marks (get_or free i 0) 0 + 1)) (i + 1)
    counting-next h p = record {
      at = omega arith;
      room = rw (length-set marks (get_or free i 0) (get_or marks (get_or free i 0) 0 + 1)) k.room;
      same = length-set marks _ _ ∙ k.same;
      slots = all_below-next _ i k.slots (lt-ltb _ _ p);
      counts = λ s q. rw (add-one i, take-suc free i 0 h, count_of-snoc (eqb s) (take i free) (get_or free i 0), ← k.counts s q) (go s q (ℕ_discrete s (get_or free i 0)));
    }
      where
        go : (s : ℕ) → s < made → Dec (s ≡ get_or free i 0) → get_or (set marks (get_or free i 0) (get_or marks (get_or free i 0) 0 + 1)) s 0 ≡ get_or marks s 0 + cond (eqb s (get_or free i 0)) 1 0
        go s q (yes e) = rw (e, eq-eqb (get_or free i 0) (get_or free i 0) refl) (get_or-set_same marks (get_or free i 0) _ 0 (omega (arith, k.room)))
        go s q (no ne) = rw (ne_eqb s (get_or free i 0) ne) (get_or-set_other marks (get_or free i 0) s _ 0 ne ∙ omega arith)

    -- a mark is at most the number of entries, so one more fits
    pub counting-fits : (x : ℕ) → i < length free → x < made → get_or marks x 0 + 1 ≤ length free
    counting-fits x h p = omega (arith, k.counts x p, count_of-le (eqb x) (take i free), length-take-le i free k.at)

    pub counted-not : i < length free → made ≤ get_or free i 0 → Counted made free marks false
    counted-not h p = record {
      answer = sym (all_below-not _ (length free) i h (le-ltb _ _ p));
      counts = λ e. absurd (false≢true e);
    }

-- ---- comparing the marks

module _ (gens marks : List ℕ) (s : ℕ) where
  pub match_none : marks_match 0 gens marks ≡ true
  unfolding marks_match
  match_none = refl

  pub match-next : marks_match s gens marks ≡ true → get_or marks s 0 ≡ get_or gens s 0 % 2 → marks_match (s + 1) gens marks ≡ true
  unfolding marks_match
  match-next h e = all_below-next _ s h (eq-eqb _ _ e)

  pub match-not : s < length gens → (get_or marks s 0 ≡ get_or gens s 0 % 2 → ⊥) → false ≡ marks_match (length gens) gens marks
  unfolding marks_match
  match-not b ne = sym (all_below-not _ (length gens) s b (ne_eqb _ _ ne))

-- ---- both together

-- the marks that were counted match where the list does
matched : (gens free marks : List ℕ) → Counted (length gens) free marks true → marks_match (length gens) gens marks ≡ free_rule gens free
unfolding marks_match free_rule
matched gens free marks k =
    all_below-same _ _ (length gens) (λ s b. ap (λ (n : ℕ). eqb n (get_or gens s 0 % 2)) (k.counts refl s b))
    ∙ rw (← k.answer)

not-matched : (gens free marks : List ℕ) → Counted (length gens) free marks false → false ≡ free_rule gens free
unfolding free_rule
not-matched gens free marks k = rw (← k.answer)

-- over the words: the parts as they are lent
front : (w : List ℕ) (made : ℕ) → take (made - 0) w ≡ part 0 made w
unfolding part
front w made = rw (sub-zero made)

module _ (n : ℕ) (w : List ℕ) (made free : ℕ) (marks : List ℕ) (t : Bool) (k : Counted made (take (n + free - n) (drop n w)) marks t) (b : made ≤ length w) where
  counted : Counted (length (generations n w made)) (free_stack n w free) marks t
  counted = rw (length_part w 0 made (omega arith), ← lent w n free) k

  pub checked : t ≡ true → (r : Bool) → r ≡ marks_match (length (take (made - 0) w)) (take (made - 0) w) marks → r ≡ free_rule (generations n w made) (free_stack n w free)
  checked e r q = q ∙ ap (λ (l : List ℕ). marks_match (length l) l marks) (front w made) ∙ matched (generations n w made) (free_stack n w free) marks (rw e at counted)

  pub checked-not : t ≡ false → false ≡ free_rule (generations n w made) (free_stack n w free)
  checked-not e = not-matched (generations n w made) (free_stack n w free) marks (rw e at counted)
