-- Laws of lists that the pool's free stack wants: entries by their count, a list turned round, marks.
-- Assumes nothing.
use mathlib.Core.Path.{◌≡◌, refl, ap, ◌∙◌}
use mathlib.Core.Bool.{Bool, true, cond}
use mathlib.Core.List.{List, [], ◌∷◌, ◌++◌, reverse, reverse-cons, reverse-append}
use Prim.Native.Nat.{ℕ, zero, suc, ◌+◌, ◌<◌}
use native.Mathlib.Decide.{ℕ_discrete}
use native.Mathlib.Omega.{arith}
use lib.ListN.{length, get_or, set, length-set}
use lib.Seq.{get_or-set_same, get_or-set_other}
use lib.Dec.{eqb}
use borrow.Author.Tests.{eq-eqb, ne_eqb}
use Rattle.words.specs.Lists.{count_of, all}
use Rattle.words.proofs.Lists.{count_of-append}
use Rattle.words.proofs.Tests.{and_left, and_right, and_both}
use Rattle.texts.specs.Words.{marked}

one-here : (s x : ℕ) → (s ≡ x) → cond {A = ℕ} (eqb s x) 1 0 ≡ 1
one-here s x e = rw (eq-eqb s x e)

none_here : (s x : ℕ) → (s ≡ x → ⊥) → cond {A = ℕ} (eqb s x) 1 0 ≡ 0
none_here s x e = rw (ne_eqb s x e)

-- ---- a test of every entry

pub all-count : (p : ℕ → Bool) (l : List ℕ) (s : ℕ) → all p l ≡ true → 0 < count_of (eqb s) l → p s ≡ true
all-count p [] s h k = absurd (omega arith)
all-count p (x ∷ l) s h k = go (ℕ_discrete s x) (λ g. all-count p l s (and_right (p x) (all p l) h) g)
  where
    go : Dec (s ≡ x) → (0 < count_of (eqb s) l → p s ≡ true) → p s ≡ true
    go (yes e) ih = ap p e ∙ and_left (p x) (all p l) h
    go (no e) ih = ih (omega (arith, none_here s x e))

pub count-all : (p : ℕ → Bool) (l : List ℕ) → ((s : ℕ) → 0 < count_of (eqb s) l → p s ≡ true) → all p l ≡ true
count-all p [] h = refl
count-all p (x ∷ l) h = and_both (p x) (all p l) (h x (omega (arith, one-here x x refl))) (count-all p l (λ s k. h s (omega arith)))

-- ---- a list turned round

pub reverse_snoc : (l : List ℕ) (x : ℕ) → reverse (l ++ (x ∷ [])) ≡ x ∷ reverse l
reverse_snoc l x = reverse-append l (x ∷ [])

pub count_of-reverse : (p : ℕ → Bool) (l : List ℕ) → count_of p (reverse l) ≡ count_of p l
count_of-reverse p [] = refl
count_of-reverse p (x ∷ l) = ap (count_of p) (reverse-cons x l) ∙ omega (arith, count_of-append p (reverse l) (x ∷ []), count_of-reverse p l)

-- an entry stands as often as it is met
pub get_or-count : (l : List ℕ) (i : ℕ) → i < length l → 0 < count_of (eqb (get_or l i 0)) l
get_or-count [] i h = absurd (omega arith)
get_or-count (x ∷ l) zero h = omega (arith, one-here x x refl)
get_or-count (x ∷ l) (suc i) h = omega (arith, get_or-count l i (omega arith))

-- ---- marks

pub length_marked : (l marks : List ℕ) → length (marked l marks) ≡ length marks
length_marked [] marks = refl
length_marked (x ∷ l) marks = length_marked l (set marks x (get_or marks x 0 + 1)) ∙ length-set marks x (get_or marks x 0 + 1)

pub marked-snoc : (l marks : List ℕ) (s : ℕ) → marked (l ++ (s ∷ [])) marks ≡ set (marked l marks) s (get_or (marked l marks) s 0 + 1)
marked-snoc [] marks s = refl
marked-snoc (x ∷ l) marks s = marked-snoc l (set marks x (get_or marks x 0 + 1)) s

pub marked-at : (l marks : List ℕ) (s : ℕ) → s < length marks → get_or (marked l marks) s 0 ≡ get_or marks s 0 + count_of (eqb s) l
marked-at [] marks s h = omega arith
marked-at (x ∷ l) marks s h =
    marked-at l (set marks x (get_or marks x 0 + 1)) s (rw (length-set marks x (get_or marks x 0 + 1)) h) ∙ go (ℕ_discrete s x)
  where
    go : Dec (s ≡ x) → get_or (set marks x (get_or marks x 0 + 1)) s 0 + count_of (eqb s) l ≡ get_or marks s 0 + (cond (eqb s x) 1 0 + count_of (eqb s) l)
    go (yes e) =
        let q : get_or (set marks x (get_or marks x 0 + 1)) s 0 ≡ get_or marks s 0 + 1 = rw e (get_or-set_same marks x (get_or marks x 0 + 1) 0 (rw e at h)) in
        omega (arith, one-here s x e)
    go (no e) = omega (arith, none_here s x e, get_or-set_other marks x s (get_or marks x 0 + 1) 0 e)
