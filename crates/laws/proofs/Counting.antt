-- Counts of entries from membership: what a list without repetition counts, and the numbers below n as a list.
-- Assumes nothing.
use mathlib.Core.Path.{◌≡◌, refl, sym, ap, ◌∙◌, subst}
use mathlib.Core.Logic.{◌⊎◌, inl, inr}
use mathlib.Core.Bool.{Bool, true, false, cond}
use mathlib.Core.List.Memᴰ
use mathlib.Core.List.{List, [], ◌∷◌, ◌++◌, Memᴰ}
use Prim.Native.Nat.{ℕ, zero, suc, ◌+◌, ◌≤◌, ◌<◌}
use native.Mathlib.Omega.{arith}
use native.Mathlib.Decide.{dec_lt}
use borrow.Author.Tests.{eqb-true}
use lib.Dec.{eqb}
use lib.ListN.{length, get_or}
use Rattle.words.specs.Lists.{count_of, all, tabulate}
use Rattle.words.proofs.Tests.{and_left, and_right, and_both}
use Rattle.laws.proofs.Wf.{Distinct}
use Rattle.laws.proofs.Membership.{distinct_append}
use Rattle.laws.proofs.Basics.{mem-count, count-mem}

-- ---- entries by index

module _ {A : Type 0} where
  pub mem-get_or : (l : List A) (i : ℕ) (a : A) → i < length l → Memᴰ (get_or l i a) l
  mem-get_or [] i a h = absurd (omega arith)
  mem-get_or (x ∷ l) zero a h = Memᴰ.head refl
  mem-get_or (x ∷ l) (suc i) a h = Memᴰ.tail (mem-get_or l i a (omega arith))

  pub mem_index : (l : List A) (x a : A) → Memᴰ x l → (i : ℕ) × (i < length l) × (get_or l i a ≡ x)
  mem_index [] x a m = absurd (Memᴰ.not-nil m)
  mem_index (y ∷ l) x a m = go (λ n. mem_index l x a n) (Memᴰ.cases_cons m)
    where
      go : (Memᴰ x l → (i : ℕ) × (i < length l) × (get_or l i a ≡ x)) → (x ≡ y) ⊎ Memᴰ x l
          → (i : ℕ) × (i < suc (length l)) × (get_or (y ∷ l) i a ≡ x)
      go ih (inl e) = (0, omega arith, sym e)
      go ih (inr n) = let o = ih n in (suc o.0, (let h = o.1 in omega arith), o.2)

  -- below the length no default is read
  pub get_or-below : (l : List A) (i : ℕ) (a b : A) → i < length l → get_or l i a ≡ get_or l i b
  get_or-below [] i a b h = absurd (omega arith)
  get_or-below (x ∷ l) zero a b h = refl
  get_or-below (x ∷ l) (suc i) a b h = get_or-below l i a b (omega arith)

  -- ---- a test of every entry

  pub all-mem : (p : A → Bool) (l : List A) → all p l ≡ true → (x : A) → Memᴰ x l → p x ≡ true
  all-mem p [] h x m = absurd (Memᴰ.not-nil m)
  all-mem p (y ∷ l) h x m = go (λ n. all-mem p l (and_right (p y) (all p l) h) x n) (Memᴰ.cases_cons m)
    where
      go : (Memᴰ x l → p x ≡ true) → (x ≡ y) ⊎ Memᴰ x l → p x ≡ true
      go ih (inl e) = ap p e ∙ and_left (p y) (all p l) h
      go ih (inr n) = ih n

  pub mem-all : (p : A → Bool) (l : List A) → ((x : A) → Memᴰ x l → p x ≡ true) → all p l ≡ true
  mem-all p [] h = refl
  mem-all p (y ∷ l) h = and_both (p y) (all p l) (h y (Memᴰ.head refl)) (mem-all p l (λ x m. h x (Memᴰ.tail m)))

-- ---- counts

pub count-absent : (x : ℕ) (l : List ℕ) → (Memᴰ x l → ⊥) → count_of (eqb x) l ≡ 0
count-absent x l n = go (dec_lt 0 (count_of (eqb x) l))
  where
    go : Dec (0 < count_of (eqb x) l) → count_of (eqb x) l ≡ 0
    go (yes h) = absurd (n (count-mem x l h))
    go (no h) = omega arith

count_none : (p : ℕ → Bool) (l : List ℕ) → ((x : ℕ) → Memᴰ x l → p x ≡ false) → count_of p l ≡ 0
count_none p [] h = refl
count_none p (y ∷ l) h =
    let ih = count_none p l (λ x m. h x (Memᴰ.tail m)) in
    rw (h y (Memᴰ.head refl)) (omega arith)

-- at most one entry passes, and it stands there once
pub count-unique : (p : ℕ → Bool) (l : List ℕ) → Distinct l
    → ((a b : ℕ) → Memᴰ a l → Memᴰ b l → p a ≡ true → p b ≡ true → a ≡ b) → count_of p l ≤ 1
count-unique p [] u h = omega arith
count-unique p (y ∷ l) u h =
    go (count-unique p l u.1 (λ a b ma mb. h a b (Memᴰ.tail ma) (Memᴰ.tail mb))) (p y) refl
  where
    go : count_of p l ≤ 1 → (q : Bool) → p y ≡ q → cond q 1 0 + count_of p l ≤ 1
    go ih false e = omega arith
    go ih true e = omega (arith, count_none p l others)
      where
        fails : (x : ℕ) → Memᴰ x l → (q : Bool) → p x ≡ q → p x ≡ false
        fails x m false f = f
        fails x m true f = absurd (u.0 (subst (λ (z : ℕ). Memᴰ z l) (h x y (Memᴰ.tail m) (Memᴰ.head refl) f e) m))

        others : (x : ℕ) → Memᴰ x l → p x ≡ false
        others x m = fails x m (p x) refl

pub count-once : (x : ℕ) (l : List ℕ) → Distinct l → Memᴰ x l → count_of (eqb x) l ≡ 1
count-once x l u m =
    let h = count-unique (eqb x) l u (λ a b ma mb ea eb. sym (eqb-true x a ea) ∙ eqb-true x b eb) in
    let k = mem-count x l m in
    omega arith

-- ---- the numbers below n

abbrev pub below : ℕ → List ℕ
below n = tabulate (λ i. i) n

pub mem_below : (n i : ℕ) → Memᴰ i (below n) → i < n
mem_below zero i m = absurd (Memᴰ.not-nil m)
mem_below (suc n) i m = go (λ q. mem_below n i q) (Memᴰ.append_cases (below n) m)
  where
    last : (i ≡ n) ⊎ Memᴰ i [] → i < suc n
    last (inl e) = omega arith
    last (inr q) = absurd (Memᴰ.not-nil q)

    go : (Memᴰ i (below n) → i < n) → Memᴰ i (below n) ⊎ Memᴰ i (n ∷ []) → i < suc n
    go ih (inl q) = let h = ih q in omega arith
    go ih (inr q) = last (Memᴰ.cases_cons q)

pub below-mem : (n i : ℕ) → i < n → Memᴰ i (below n)
below-mem zero i h = absurd (omega arith)
below-mem (suc n) i h = go (λ q. below-mem n i q) (dec_lt i n)
  where
    go : (i < n → Memᴰ i (below n)) → Dec (i < n) → Memᴰ i (below n ++ (n ∷ []))
    go ih (yes k) = Memᴰ.append_left (n ∷ []) (ih k)
    go ih (no k) = let e : i ≡ n = omega arith in Memᴰ.append_right (below n) (Memᴰ.head e)

pub below-distinct : (n : ℕ) → Distinct (below n)
below-distinct zero = tt
below-distinct (suc n) = distinct_append (below n) (n ∷ []) (below-distinct n) ((λ m. Memᴰ.not-nil m), tt) apart
  where
    last : (y : ℕ) → y < n → (y ≡ n) ⊎ Memᴰ y [] → ⊥
    last y h (inl e) = omega arith
    last y h (inr q) = Memᴰ.not-nil q

    apart : (y : ℕ) → Memᴰ y (below n) → Memᴰ y (n ∷ []) → ⊥
    apart y m q = last y (mem_below n y m) (Memᴰ.cases_cons q)
