-- Rule 2 is kept when a slot is freed, reused or made, and it leaves room on the free stack for a live slot.
-- Assumes nothing.
use Rattle.std.proofs.Common.{◌≡◌, ℕ, suc, ◌%◌, ◌<◌, ◌≤◌, eqb, List, [], ◌∷◌, ◌++◌, length, get_or, set, replicate, sym, refl, ap, ◌∙◌, arith, length-append, length-set, get_or-set_other, get_or-set_same}
use native.Mathlib.Decide.{ℕ_discrete, dec_lt}
use lib.ListN.{length-replicate, get_or-replicate, get_or-append}
use lib.Seq.{get_or_at}
use Rattle.words.specs.Lists.{count_of}
use Rattle.words.proofs.Counting.{counted_same, counted-other, once-length, once-room}
use Rattle.slots.specs.FreeRule.{FreeRule}
use Rattle.slots.specs.Slots.{up}
use Rattle.words.proofs.Lists.{count_of-snoc}

-- a generation of 32 bits changes its last bit, also from 4,294,967,295 to 0
pub up-even : (g : ℕ) → g % 2 ≡ 0 → up g % 2 ≡ 1
up-even g e = omega arith

pub up-odd : (g : ℕ) → g % 2 ≡ 1 → up g % 2 ≡ 0
up-odd g e = omega arith

-- the entries of a list with one more at the end
snoc-inside : (l : List ℕ) (x n : ℕ) → ((i : ℕ) → i < length l → get_or l i 0 < n) → x < n → (i : ℕ) → i < length (l ++ (x ∷ [])) → get_or (l ++ (x ∷ [])) i 0 < n
snoc-inside l x n h b i k = go (ℕ_discrete i (length l))
  where
    go : Dec (i ≡ length l) → get_or (l ++ (x ∷ [])) i 0 < n
    go (yes e) = rw (get_or_at l x [] 0 i (sym e)) b
    go (no ne) =
        let j : i < length l = omega (arith, length-append l (x ∷ [])) in
        rw (get_or-append l (x ∷ []) 0 i j) (h i j)

inside_snoc : (l : List ℕ) (x n : ℕ) → ((i : ℕ) → i < length (l ++ (x ∷ [])) → get_or (l ++ (x ∷ [])) i 0 < n) → (i : ℕ) → i < length l → get_or l i 0 < n
inside_snoc l x n h i b = rw (get_or-append l (x ∷ []) 0 i b) at (h i (omega (arith, length-append l (x ∷ []))))

-- ---- a slot is freed, reused, made

module _ (gens free : List ℕ) (s : ℕ) (b : s < length gens) where
  abbrev gens' : List ℕ
  gens' = set gens s (up (get_or gens s 0))

  pub rule-freed : FreeRule gens free → get_or gens s 0 % 2 ≡ 0 → FreeRule gens' (free ++ (s ∷ []))
  rule-freed r even = record {
    inside = λ i k. rw (length-set gens s (up (get_or gens s 0))) (snoc-inside free s (length gens) r.inside b i k);
    once = λ t k. go t (rw (length-set gens s (up (get_or gens s 0))) at k) (ℕ_discrete t s);
  }
    where
      go : (t : ℕ) → t < length gens → Dec (t ≡ s) → count_of (eqb t) (free ++ (s ∷ [])) ≡ get_or gens' t 0 % 2
      go t k (yes e) =
          rw (e, get_or-set_same gens s (up (get_or gens s 0)) 0 b)
          (omega (arith, count_of-snoc (eqb s) free s, counted_same s, r.once s b, up-even (get_or gens s 0) even))
      go t k (no ne) =
          rw (get_or-set_other gens s t (up (get_or gens s 0)) 0 ne)
          (omega (arith, count_of-snoc (eqb t) free s, counted-other t s ne, r.once t k))

  -- the last freed has an odd generation
  pub rule-top : FreeRule gens (free ++ (s ∷ [])) → get_or gens s 0 % 2 ≡ 1
  rule-top r = omega (arith, r.once s b, count_of-snoc (eqb s) free s, counted_same s)

  pub rule-reused : FreeRule gens (free ++ (s ∷ [])) → FreeRule gens' free
  rule-reused r = record {
    inside = λ i k. rw (length-set gens s (up (get_or gens s 0))) (inside_snoc free s (length gens) r.inside i k);
    once = λ t k. go t (rw (length-set gens s (up (get_or gens s 0))) at k) (ℕ_discrete t s);
  }
    where
      go : (t : ℕ) → t < length gens → Dec (t ≡ s) → count_of (eqb t) free ≡ get_or gens' t 0 % 2
      go t k (yes e) =
          rw (e, get_or-set_same gens s (up (get_or gens s 0)) 0 b)
          (omega (arith, count_of-snoc (eqb s) free s, counted_same s, r.once s b, up-odd (get_or gens s 0) (rule-top r)))
      go t k (no ne) =
          rw (get_or-set_other gens s t (up (get_or gens s 0)) 0 ne)
          (omega (arith, count_of-snoc (eqb t) free s, counted-other t s ne, r.once t k))

-- a number that is in no entry
absent : (x : ℕ) (l : List ℕ) → ((i : ℕ) → i < length l → get_or l i 0 < x) → count_of (eqb x) l ≡ 0
absent x [] h = refl
absent x (y ∷ l) h =
    let a : y < x = h 0 (omega arith) in
    omega (arith, counted-other x y (λ e. omega arith), absent x l (λ i b. h (suc i) (omega arith)))

pub rule-made : (gens free : List ℕ) → FreeRule gens free → FreeRule (gens ++ (0 ∷ [])) free
rule-made gens free r = record {
  inside = λ i k. omega (arith, r.inside i k, length-append gens (0 ∷ []));
  once = λ t k. go t k (ℕ_discrete t (length gens));
}
  where
    go : (t : ℕ) → t < length (gens ++ (0 ∷ [])) → Dec (t ≡ length gens) → count_of (eqb t) free ≡ get_or (gens ++ (0 ∷ [])) t 0 % 2
    go t k (yes e) = rw (get_or_at gens 0 [] 0 t (sym e), e) (absent (length gens) free r.inside)
    go t k (no ne) =
        let j : t < length gens = omega (arith, length-append gens (0 ∷ [])) in
        rw (get_or-append gens (0 ∷ []) 0 t j) (r.once t j)

-- slots of generation 0 and an empty stack
pub rule-fresh : (made : ℕ) → FreeRule (replicate made 0) []
rule-fresh made = record {
  inside = λ i k. absurd (omega arith);
  once = λ s k. ap (λ (g : ℕ). g % 2) (sym (get_or-replicate made s 0 0 (omega (arith, length-replicate {A = ℕ} made 0))));
}

-- ---- room on the stack

module _ (gens free : List ℕ) (r : FreeRule gens free) where
  below : (s : ℕ) → 0 < count_of (eqb s) free → s < length gens
  below s k = go (dec_lt s (length gens))
    where
      go : Dec (s < length gens) → s < length gens
      go (yes b) = b
      go (no b) = absurd (omega (arith, k, absent s free (λ i j. omega (arith, r.inside i j))))

  once : (s : ℕ) → s < length gens → count_of (eqb s) free ≤ 1
  once s b = omega (arith, r.once s b)

  -- the stack is no longer than the slots made, and shorter where one of them is live
  pub rule-length : length free ≤ length gens
  rule-length = once-length free (length gens) below once

  pub rule-room : (s : ℕ) → s < length gens → get_or gens s 0 % 2 ≡ 0 → length free < length gens
  rule-room s b e = once-room free (length gens) below once s b (r.once s b ∙ e)
