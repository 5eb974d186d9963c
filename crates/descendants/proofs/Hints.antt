-- Where a node stands in a list that holds it once: whatever the hint.
-- Assumes nothing.
use mathlib.Core.Path.{◌≡◌, refl, sym, ap, ◌∙◌, subst}
use mathlib.Core.Logic.{◌≢◌}
use mathlib.Core.Bool.{Bool, true, false, cond, ◌&&◌}
use mathlib.Core.List.{List, [], ◌∷◌, map, Memᴰ}
use Prim.Native.Nat.{ℕ, zero, suc, ◌≤◌, ◌<◌}
use native.Mathlib.Omega.{arith}
use native.Mathlib.Decide.{ℕ_discrete}
use borrow.Author.Tests.{eq-eqb, ne_eqb, eqb-true, ltb-true}
use lib.Dec.{eqb, ltb}
use lib.ListN.{length, get_or, drop}
use Rattle.words.specs.Lists.{index_of}
use Rattle.words.proofs.Tests.{and_left, and_right}
use Rattle.laws.proofs.Wf.{Distinct}
use Rattle.laws.proofs.Counting.{mem-get_or}
use Rattle.steps.specs.Next.{hinted_index}

-- what stands behind x
abbrev pub behind : ℕ → List ℕ → List ℕ
behind x l = drop (suc (index_of (eqb x) l)) l

-- x at index k of a list that holds nothing twice is found there
pub index_at : (l : List ℕ) (k : ℕ) → Distinct l → k < length l → index_of (eqb (get_or l k 0)) l ≡ k
index_at [] k u h = absurd (omega arith)
index_at (y ∷ l) zero u h = rw (eq-eqb y y refl)
index_at (y ∷ l) (suc k) u h =
    let m = mem-get_or l k 0 (omega arith) in
    let n : get_or l k 0 ≢ y = λ e. u.0 (subst (λ (z : ℕ). Memᴰ z l) e m) in
    rw (ne_eqb (get_or l k 0) y n) (ap suc (index_at l k u.1 (omega arith)))

pub hinted-is : (l : List ℕ) (x k : ℕ) → Distinct l → hinted_index l x k ≡ index_of (eqb x) l
unfolding hinted_index
hinted-is l x k u = go (ltb k (length l) && eqb x (get_or l k 0)) refl
  where
    go : (q : Bool) → (ltb k (length l) && eqb x (get_or l k 0)) ≡ q → cond q k (index_of (eqb x) l) ≡ index_of (eqb x) l
    go true e =
        let h = ltb-true k (length l) (and_left (ltb k (length l)) (eqb x (get_or l k 0)) e) in
        let f = eqb-true x (get_or l k 0) (and_right (ltb k (length l)) (eqb x (get_or l k 0)) e) in
        sym (index_at l k u h) ∙ ap (λ (z : ℕ). index_of (eqb z) l) (sym f)
    go false e = refl

drop-cons : (l : List ℕ) (k : ℕ) → k < length l → drop k l ≡ get_or l k 0 ∷ drop (suc k) l
drop-cons [] k h = absurd (omega arith)
drop-cons (y ∷ l) zero h = refl
drop-cons (y ∷ l) (suc k) h = drop-cons l k (omega arith)

drop_all : (l : List ℕ) (k : ℕ) → length l ≤ k → drop k l ≡ []
drop_all [] zero h = refl
drop_all [] (suc k) h = refl
drop_all (y ∷ l) zero h = absurd (omega arith)
drop_all (y ∷ l) (suc k) h = drop_all l k (omega arith)

-- the entry behind x, and what stands behind that
pub behind-cons : (l : List ℕ) (x : ℕ) → Distinct l → suc (index_of (eqb x) l) < length l
    → behind x l ≡ get_or l (suc (index_of (eqb x) l)) 0 ∷ behind (get_or l (suc (index_of (eqb x) l)) 0) l
behind-cons l x u h =
    let k : ℕ = suc (index_of (eqb x) l) in
    drop-cons l k h ∙ ap (λ (n : ℕ). get_or l k 0 ∷ drop (suc n) l) (sym (index_at l k u h))

pub behind-nil : (l : List ℕ) (x : ℕ) → length l ≤ suc (index_of (eqb x) l) → behind x l ≡ []
behind-nil l x h = drop_all l (suc (index_of (eqb x) l)) h

-- the first entry, and what stands behind it
pub behind-first : (l : List ℕ) → Distinct l → 0 < length l → l ≡ get_or l 0 0 ∷ behind (get_or l 0 0) l
behind-first l u h = drop-cons l 0 h ∙ ap (λ (n : ℕ). get_or l 0 0 ∷ drop (suc n) l) (sym (index_at l 0 u h))

-- the same through a renaming that keeps entries apart
pub index-map : (f : ℕ → ℕ) (l : List ℕ) (x : ℕ) → ((y : ℕ) → Memᴰ y l → f x ≡ f y → x ≡ y) → index_of (eqb (f x)) (map f l) ≡ index_of (eqb x) l
index-map f [] x inj = refl
index-map f (y ∷ l) x inj = go (λ i. index-map f l x i) (ℕ_discrete x y)
  where
    go : (((z : ℕ) → Memᴰ z l → f x ≡ f z → x ≡ z) → index_of (eqb (f x)) (map f l) ≡ index_of (eqb x) l) → Dec (x ≡ y)
        → index_of (eqb (f x)) (map f (y ∷ l)) ≡ index_of (eqb x) (y ∷ l)
    go ih (yes e) = rw (eq-eqb (f x) (f y) (ap f e), eq-eqb x y e)
    go ih (no n) = rw (ne_eqb (f x) (f y) (λ e. n (inj y (Memᴰ.head refl) e)), ne_eqb x y n) (ap suc (ih (λ z m. inj z (Memᴰ.tail m))))
