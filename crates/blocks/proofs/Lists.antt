-- Laws of lists that are not in `words`.
-- Assumes nothing.
use mathlib.Core.Path.{◌≡◌, refl, sym, ap, ◌∙◌}
use mathlib.Core.Bool.{Bool, true, false, ◌&&◌, cond, false≢true}
use mathlib.Core.List.{List, [], ◌∷◌, ◌++◌, map}
use Prim.Native.Nat.{ℕ, zero, suc, ◌+◌, ◌≤◌, ◌<◌, min}
use native.Mathlib.Omega.{arith}
use lib.ListN.{length, get_or, take, drop, replicate, length-append, length-take}
use lib.Seq.{ext_get_or, get_or_at}
use lib.Dec.{eqb}
use borrow.Author.Tests.{eq-eqb}
use Rattle.words.specs.Parts.{put}
use Rattle.words.specs.Lists.{insert_at, all, count_of, sum, tabulate}
use Rattle.words.proofs.Parts.{length-put, part-put-same, put_front, put-put}
use Rattle.words.proofs.Lists.{map-append, length-tabulate, get_or-tabulate}

module _ {A : Type 0} where
  -- two lists put one after the other
  pub put-append : (l xs ys : List A) (p : ℕ) → p + (length xs + length ys) ≤ length l → put p (xs ++ ys) l ≡ put (p + length xs) ys (put p xs l)
  put-append l xs ys p h =
      let n : length (put p xs l) ≡ length l = length-put l p xs (omega arith) in
      sym (put_front (put p xs l) (length xs) ys p (omega arith)
      ∙ ap (λ (r : List A). put p (r ++ ys) (put p xs l)) (part-put-same l p xs (omega arith))
      ∙ put-put l p (xs ++ ys) xs (omega arith) (simp length-append (omega arith)))

  pub get_or-insert_at : (k : ℕ) (x : A) (l : List A) (d : A) → get_or (insert_at k x l) (min k (length l)) d ≡ x
  unfolding insert_at
  get_or-insert_at k x l d = get_or_at (take k l) x (drop k l) d (min k (length l)) (length-take k l)

  -- a list is the table of its entries
  pub tabulate-get_or : (l : List A) (d : A) → tabulate (λ (i : ℕ). get_or l i d) (length l) ≡ l
  tabulate-get_or l d =
      ext_get_or d (tabulate (λ (i : ℕ). get_or l i d) (length l)) l (length-tabulate (λ (i : ℕ). get_or l i d) (length l))
      (λ i h. get_or-tabulate (λ (j : ℕ). get_or l j d) (length l) i d (rw (length-tabulate (λ (j : ℕ). get_or l j d) (length l)) at h))

  pub map_same : {B : Type 0} (f g : A → B) (l : List A) → ((x : A) → f x ≡ g x) → map f l ≡ map g l
  map_same f g [] h = refl
  map_same f g (x ∷ l) h = rw (h x, map_same f g l h)

  pub map-tabulate : {B : Type 0} (f : A → B) (g : ℕ → A) (n : ℕ) → map f (tabulate g n) ≡ tabulate (λ (i : ℕ). f (g i)) n
  map-tabulate f g zero = refl
  map-tabulate f g (suc n) = map-append f (tabulate g n) (g n ∷ []) ∙ rw (map-tabulate f g n)

pub sum-append : (l m : List ℕ) → sum (l ++ m) ≡ sum l + sum m
sum-append [] m = omega arith
sum-append (x ∷ l) m = omega (arith, sum-append l m)

pub all-count : {A : Type 0} (p : A → Bool) (l : List A) → all p l ≡ true → count_of p l ≡ length l
all-count p [] h = refl
all-count p (x ∷ l) h = go (p x) h (all-count p l)
  where
    go : (t : Bool) → (t && all p l) ≡ true → (all p l ≡ true → count_of p l ≡ length l) → cond t 1 0 + count_of p l ≡ suc (length l)
    go true h ih = omega (arith, ih h)
    go false h ih = absurd (false≢true h)

pub count-replicate : (x y n : ℕ) → count_of (eqb x) (replicate n y) ≡ cond (eqb x y) n 0
count-replicate x y zero = go (eqb x y)
  where
    go : (t : Bool) → ◌≡◌ {A = ℕ} 0 (cond t 0 0)
    go true = refl
    go false = refl
count-replicate x y (suc n) = go (eqb x y) (count-replicate x y n)
  where
    go : (t : Bool) → count_of (eqb x) (replicate n y) ≡ cond t n 0 → cond t 1 0 + count_of (eqb x) (replicate n y) ≡ cond t (suc n) 0
    go true e = omega arith
    go false e = omega arith

-- two places of one id make it stand there twice
pub twice_there : (l : List ℕ) (i j : ℕ) → i < j → j < length l → get_or l i 0 ≡ get_or l j 0 → 2 ≤ count_of (eqb (get_or l j 0)) l
twice_there [] i j h f e = absurd (omega arith)
twice_there (y ∷ l) i zero h f e = absurd (omega arith)
twice_there (y ∷ l) zero (suc j) h f e =
    let q : cond {A = ℕ} (eqb (get_or l j 0) y) 1 0 ≡ 1 = rw (eq-eqb (get_or l j 0) y (sym e)) in
    omega (arith, once-there l j (omega arith))
  where
    once-there : (l : List ℕ) (j : ℕ) → j < length l → 1 ≤ count_of (eqb (get_or l j 0)) l
    once-there [] j h = absurd (omega arith)
    once-there (y ∷ l) zero h =
        let q : cond {A = ℕ} (eqb y y) 1 0 ≡ 1 = rw (eq-eqb y y refl) in
        omega arith
    once-there (y ∷ l) (suc j) h = omega (arith, once-there l j (omega arith))
twice_there (y ∷ l) (suc i) (suc j) h f e = omega (arith, twice_there l i j (omega arith) (omega arith) e)
