-- Lists laid end to end, as `compact` lays them: each owner has its list, the blocks lie inside and apart, and what was inside the arena fits.
-- Assumes nothing.
use mathlib.Core.Path.{◌≡◌, refl, sym, ap, ◌∙◌, subst}
use mathlib.Core.Logic.{◌≢◌, ◌⊎◌, inl, inr}
use mathlib.Core.List.Memᴰ
use mathlib.Core.List.{List, [], ◌∷◌, ◌++◌, Memᴰ}
use Prim.Native.Nat.{ℕ, zero, suc, ◌+◌, ◌≤◌, ◌<◌}
use native.Mathlib.Omega.{arith}
use native.Mathlib.Decide.{ℕ_discrete}
use lib.ListN.{length, get_or, length-set, length-append}
use lib.Seq.{get_or-set_same, get_or-set_other}
use Rattle.words.specs.Lists.{joined, tabulate}
use Rattle.words.proofs.Parts.{part-put-same, part-put-before, length-put}
use Rattle.words.proofs.Lists.{length-tabulate}
use Rattle.blocks.specs.Arena.{Arena, Block, block, cap_of, list_of}
use Rattle.blocks.specs.Rule.{Apart, empty_left, empty_right, before, behind, BlocksApart}
use Rattle.blocks.proofs.Capacities.{capacity-empty, capacity-some, capacity-least}
use Rattle.model.specs.Edits.{Laying, lay_list}
use Rattle.laws.proofs.Wf.{Distinct}
use Rattle.laws.proofs.Membership.{pigeonhole, distinct_append, distinct-joined, mem-joined-cases}

-- ---- numbers in a row

module _ (f : ℕ → ℕ) where
  pub mem-tabulate : (n k : ℕ) → k < n → Memᴰ (f k) (tabulate f n)
  mem-tabulate zero k lt = absurd (omega arith)
  mem-tabulate (suc n) k lt = go (λ h. mem-tabulate n k h) (ℕ_discrete k n)
    where
      go : (k < n → Memᴰ (f k) (tabulate f n)) → Dec (k ≡ n) → Memᴰ (f k) (tabulate f n ++ (f n ∷ []))
      go ih (yes e) = Memᴰ.append_right (tabulate f n) (Memᴰ.head (ap f e))
      go ih (no m) = Memᴰ.append_left (f n ∷ []) (ih (omega arith))

  pub mem-tabulate-cases : (n : ℕ) {y : ℕ} → Memᴰ y (tabulate f n) → (k : ℕ) × (k < n) × (y ≡ f k)
  mem-tabulate-cases zero m = absurd (Memᴰ.not-nil m)
  mem-tabulate-cases (suc n) {y} m = go (λ q. mem-tabulate-cases n q) (Memᴰ.append_cases (tabulate f n) m)
    where
      last : (y ≡ f n) ⊎ Memᴰ y [] → (k : ℕ) × (k < suc n) × (y ≡ f k)
      last (inl e) = (n, omega arith, e)
      last (inr q) = absurd (Memᴰ.not-nil q)

      go : (Memᴰ y (tabulate f n) → (k : ℕ) × (k < n) × (y ≡ f k)) → Memᴰ y (tabulate f n) ⊎ Memᴰ y (f n ∷ []) → (k : ℕ) × (k < suc n) × (y ≡ f k)
      go ih (inl q) = let o = ih q in (o.0, omega (arith, o.1), o.2)
      go ih (inr q) = last (Memᴰ.cases_cons q)

  pub distinct-tabulate : ((i j : ℕ) → f i ≡ f j → i ≡ j) → (n : ℕ) → Distinct (tabulate f n)
  distinct-tabulate inj zero = tt
  distinct-tabulate inj (suc n) = distinct_append (tabulate f n) (f n ∷ []) (distinct-tabulate inj n) ((λ m. Memᴰ.not-nil m), tt) (λ y m q. last y m (Memᴰ.cases_cons q))
    where
      last : (y : ℕ) → Memᴰ y (tabulate f n) → (y ≡ f n) ⊎ Memᴰ y [] → ⊥
      last y m (inl e) = let o = mem-tabulate-cases n m in let q : o.0 ≡ n = inj o.0 n (sym o.2 ∙ e) in omega (arith, o.1)
      last y m (inr q) = Memᴰ.not-nil q

-- ---- the lists of blocks that lie apart are together no longer than the arena

module _ (a : Arena) (B : ℕ → Block) (rule : BlocksApart a B) where
  places : ℕ → List ℕ
  places i = tabulate (λ k. (B i).start + k) (B i).len

  place-within : (i : ℕ) {y : ℕ} → Memᴰ y (places i) → ((B i).start ≤ y) × (y < (B i).start + (B i).len)
  unfolding places
  place-within i m = let o = mem-tabulate-cases (λ k. (B i).start + k) (B i).len m in (omega (arith, o.2), omega (arith, o.1, o.2))

  place-one : (i j y : ℕ) → Memᴰ y (places i) → Memᴰ y (places j) → i ≡ j
  place-one i j y mi mj = go (ℕ_discrete i j)
    where
      clash : Apart a (B i) (B j) → ⊥
      clash (empty_left e) = let p = place-within i mi in omega (arith, p.0, p.1)
      clash (empty_right e) = let p = place-within j mj in omega (arith, p.0, p.1)
      clash (before e) = let p = place-within i mi in let q = place-within j mj in omega (arith, p.0, p.1, q.0, q.1, capacity-least a.caps (B i))
      clash (behind e) = let p = place-within i mi in let q = place-within j mj in omega (arith, p.0, p.1, q.0, q.1, capacity-least a.caps (B j))

      go : Dec (i ≡ j) → i ≡ j
      go (yes e) = e
      go (no n) = absurd (clash (rule.apart i j n))

  pub total-within : (lst : ℕ → List ℕ) (l : List ℕ) → Distinct l → ((i : ℕ) → Memᴰ i l → length (lst i) ≡ (B i).len) → length (joined lst l) ≤ a.used
  unfolding places
  total-within lst l u len =
      let h = pigeonhole a.used (joined places l)
      (distinct-joined places l u (λ i m. distinct-tabulate (λ k. (B i).start + k) (λ j k e. omega arith) (B i).len) (λ i j y mi mj p q. place-one i j y p q))
      (λ y m. let o = mem-joined-cases places l m in let p = place-within o.0 o.2 in omega (arith, p.1, (rule.inside o.0).below, capacity-least a.caps (B o.0))) in
      omega (arith, same l len)
    where
      same : (l : List ℕ) → ((i : ℕ) → Memᴰ i l → length (lst i) ≡ (B i).len) → length (joined lst l) ≡ length (joined places l)
      same [] len = refl
      same (i ∷ l) len =
          let ih = same l (λ j m. len j (Memᴰ.tail m)) in
          let h = len i (Memᴰ.head refl) in
          omega (arith, length-append (lst i) (joined lst l), length-append (places i) (joined places l), length-tabulate (λ k. (B i).start + k) (B i).len)

-- ---- laying

abbrev pub range_of : Laying → ℕ → Block
range_of a i = get_or a.ranges i (block 0 0)

-- the owners in Met have their lists, inside and apart
pub record Packed (lst : ℕ → List ℕ) (Met : ℕ → Type 0) (a : Laying) : Type 0 where
  pub fits : a.arena.used ≤ length a.arena.ids
  pub lists : (i : ℕ) → Met i → list_of a.arena (range_of a i) ≡ lst i
  pub inside : (i : ℕ) → Met i → (range_of a i).start + (range_of a i).len ≤ a.arena.used
  pub apart : (i j : ℕ) → Met i → Met j → i ≢ j
      → ((range_of a i).start + (range_of a i).len ≤ (range_of a j).start) ⊎ ((range_of a j).start + (range_of a j).len ≤ (range_of a i).start)

module _ (lst : ℕ → List ℕ) where
  -- the lists of these owners laid in turn
  abbrev pub laid_all : List ℕ → Laying → Laying
  laid_all [] a = a
  laid_all (i ∷ l) a = laid_all l (lay_list a i (lst i))

  pub laid_all-other : (l : List ℕ) (a : Laying) (j : ℕ) → (Memᴰ j l → ⊥) → range_of (laid_all l a) j ≡ range_of a j
  laid_all-other [] a j n = refl
  laid_all-other (i ∷ l) a j n =
      laid_all-other l (lay_list a i (lst i)) j (λ m. n (Memᴰ.tail m))
      ∙ get_or-set_other a.ranges i j (block a.arena.used (length (lst i))) (block 0 0) (λ e. n (Memᴰ.head e))

  pub laid_all-caps : (l : List ℕ) (a : Laying) → (laid_all l a).arena.caps ≡ a.arena.caps
  laid_all-caps [] a = refl
  laid_all-caps (i ∷ l) a = laid_all-caps l (lay_list a i (lst i))

  pub length-laid_all : (l : List ℕ) (a : Laying) → length (laid_all l a).ranges ≡ length a.ranges
  length-laid_all [] a = refl
  length-laid_all (i ∷ l) a = length-laid_all l (lay_list a i (lst i)) ∙ length-set a.ranges i (block a.arena.used (length (lst i)))

  packed-fewer : (Met U : ℕ → Type 0) (a : Laying) → ((i : ℕ) → U i → Met i) → Packed lst Met a → Packed lst U a
  packed-fewer Met U a f P =
      record {
        fits = P.fits;
        lists = λ i u. P.lists i (f i u);
        inside = λ i u. P.inside i (f i u);
        apart = λ i j u v n. P.apart i j (f i u) (f j v) n;
      }

  -- one more list
  packed_more : (Met : ℕ → Type 0) (a : Laying) (i : ℕ) → Packed lst Met a → (Met i → ⊥) → i < length a.ranges
      → a.arena.used + length (lst i) ≤ length a.arena.ids → Packed lst (λ j. (j ≡ i) ⊎ Met j) (lay_list a i (lst i))
  packed_more Met a i P new lt room =
      record {
        fits = rw (length-put a.arena.ids a.arena.used (lst i) room) room;
        lists = lists;
        inside = inside;
        apart = apart;
      }
    where
      own : (j : ℕ) → j ≡ i → range_of (lay_list a i (lst i)) j ≡ block a.arena.used (length (lst i))
      own j e = ap (λ (k : ℕ). range_of (lay_list a i (lst i)) k) e ∙ get_or-set_same a.ranges i (block a.arena.used (length (lst i))) (block 0 0) lt

      old : (j : ℕ) → Met j → range_of (lay_list a i (lst i)) j ≡ range_of a j
      old j v = get_or-set_other a.ranges i j (block a.arena.used (length (lst i))) (block 0 0) (λ e. new (subst Met e v))

      lists : (j : ℕ) → (j ≡ i) ⊎ Met j → list_of (lay_list a i (lst i)).arena (range_of (lay_list a i (lst i)) j) ≡ lst j
      lists j (inl e) = rw (own j e) (part-put-same a.arena.ids a.arena.used (lst i) P.fits ∙ ap lst (sym e))
      lists j (inr v) = rw (old j v) (part-put-before a.arena.ids a.arena.used (lst i) (range_of a j).start (range_of a j).len (P.inside j v) P.fits ∙ P.lists j v)

      inside : (j : ℕ) → (j ≡ i) ⊎ Met j → (range_of (lay_list a i (lst i)) j).start + (range_of (lay_list a i (lst i)) j).len ≤ a.arena.used + length (lst i)
      inside j (inl e) = rw (own j e) (omega arith)
      inside j (inr v) = rw (old j v) (omega (arith, P.inside j v))

      apart : (j k : ℕ) → (j ≡ i) ⊎ Met j → (k ≡ i) ⊎ Met k → j ≢ k
          → ((range_of (lay_list a i (lst i)) j).start + (range_of (lay_list a i (lst i)) j).len ≤ (range_of (lay_list a i (lst i)) k).start)
          ⊎ ((range_of (lay_list a i (lst i)) k).start + (range_of (lay_list a i (lst i)) k).len ≤ (range_of (lay_list a i (lst i)) j).start)
      apart j k (inl e) (inl f) n = absurd (n (e ∙ sym f))
      apart j k (inl e) (inr v) n = inr (rw (own j e, old k v) (P.inside k v))
      apart j k (inr v) (inl e) n = inl (rw (own k e, old j v) (P.inside j v))
      apart j k (inr v) (inr w) n = rw (old j v, old k w) (P.apart j k v w n)

  pub packed_all : (l : List ℕ) (Met : ℕ → Type 0) (a : Laying) → Packed lst Met a → Distinct l → ((i : ℕ) → Memᴰ i l → Met i → ⊥)
      → ((i : ℕ) → Memᴰ i l → i < length a.ranges) → a.arena.used + length (joined lst l) ≤ length a.arena.ids
      → Packed lst (λ j. Memᴰ j l ⊎ Met j) (laid_all l a) × (length (laid_all l a).arena.ids ≡ length a.arena.ids)
  packed_all [] Met a P u new lt room = (packed-fewer Met (λ j. Memᴰ j [] ⊎ Met j) a (λ i m. old i m) P, refl)
    where
      old : (i : ℕ) → Memᴰ i [] ⊎ Met i → Met i
      old i (inl m) = absurd (Memᴰ.not-nil m)
      old i (inr v) = v
  packed_all (i ∷ l) Met a P u new lt room =
      let room₁ : a.arena.used + length (lst i) ≤ length a.arena.ids = omega (arith, length-append (lst i) (joined lst l)) in
      let kept = length-put a.arena.ids a.arena.used (lst i) room₁ in
      let ih = packed_all l (λ j. (j ≡ i) ⊎ Met j) (lay_list a i (lst i)) (packed_more Met a i P (new i (Memᴰ.head refl)) (lt i (Memᴰ.head refl)) room₁) u.1
      (λ j m v. fresh j m v)
      (λ j m. subst (λ (n : ℕ). j < n) (sym (length-set a.ranges i (block a.arena.used (length (lst i))))) (lt j (Memᴰ.tail m)))
      (omega (arith, kept, length-append (lst i) (joined lst l))) in
      (packed-fewer (λ j. Memᴰ j l ⊎ ((j ≡ i) ⊎ Met j)) (λ j. Memᴰ j (i ∷ l) ⊎ Met j) (laid_all l (lay_list a i (lst i))) (λ j m. where-of j m) ih.0, ih.1 ∙ kept)
    where
      fresh : (j : ℕ) → Memᴰ j l → (j ≡ i) ⊎ Met j → ⊥
      fresh j m (inl e) = u.0 (subst (λ (k : ℕ). Memᴰ k l) e m)
      fresh j m (inr v) = new j (Memᴰ.tail m) v

      cases : (j : ℕ) → (j ≡ i) ⊎ Memᴰ j l → Memᴰ j l ⊎ ((j ≡ i) ⊎ Met j)
      cases j (inl e) = inr (inl e)
      cases j (inr m) = inl m

      where-of : (j : ℕ) → Memᴰ j (i ∷ l) ⊎ Met j → Memᴰ j l ⊎ ((j ≡ i) ⊎ Met j)
      where-of j (inl m) = cases j (Memᴰ.cases_cons m)
      where-of j (inr v) = inr (inr v)

-- rule 5 of what was laid, with no capacity recorded
module _ (lst : ℕ → List ℕ) (Met : ℕ → Type 0) (a : Laying) (P : Packed lst Met a) (paired : length a.arena.caps ≡ length a.arena.ids)
    (none : (s : ℕ) → get_or a.arena.caps s 0 ≡ 0) where
  capacity : (b : Block) → cap_of a.arena b ≡ b.len
  capacity b = go (ℕ_discrete b.len 0)
    where
      go : Dec (b.len ≡ 0) → cap_of a.arena b ≡ b.len
      go (yes e) = capacity-empty a.arena.caps b e ∙ sym e
      go (no n) = capacity-some a.arena.caps b n ∙ omega (arith, none b.start)

  pub packed-blocks : (B : ℕ → Block) → ((i : ℕ) → (Met i × (B i ≡ range_of a i)) ⊎ (B i ≡ block 0 0)) → BlocksApart a.arena B
  packed-blocks B each =
      record { shaped = record { fits = P.fits; paired = paired }; inside = λ i. record { below = inside i (each i) }; apart = λ i j n. apart i j n (each i) (each j) }
    where
      inside : (i : ℕ) → (Met i × (B i ≡ range_of a i)) ⊎ (B i ≡ block 0 0) → (B i).start + cap_of a.arena (B i) ≤ a.arena.used
      inside i (inl o) = rw (capacity (B i), o.1) (P.inside i o.0)
      inside i (inr e) = rw (capacity (B i), e) (omega arith)

      apart : (i j : ℕ) → (i ≡ j → ⊥) → (Met i × (B i ≡ range_of a i)) ⊎ (B i ≡ block 0 0) → (Met j × (B j ≡ range_of a j)) ⊎ (B j ≡ block 0 0) → Apart a.arena (B i) (B j)
      apart i j n (inl o) (inl p) = go (P.apart i j o.0 p.0 n)
        where
          go : ((range_of a i).start + (range_of a i).len ≤ (range_of a j).start) ⊎ ((range_of a j).start + (range_of a j).len ≤ (range_of a i).start) → Apart a.arena (B i) (B j)
          go (inl h) = before (rw (capacity (B i), o.1, p.1) h)
          go (inr h) = behind (rw (capacity (B j), o.1, p.1) h)
      apart i j n (inl o) (inr e) = empty_right (ap (λ (b : Block). b.len) e)
      apart i j n (inr e) q = empty_left (ap (λ (b : Block). b.len) e)
