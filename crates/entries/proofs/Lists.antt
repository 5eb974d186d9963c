-- Laws of lists that the vocabulary of `words` lacks.
-- Assumes nothing.
use mathlib.Core.Path.{◌≡◌, refl, sym, ap, ◌∙◌}
use mathlib.Core.Bool.{Bool, true, false, ◌&&◌}
use mathlib.Core.List.{List, [], ◌∷◌, ◌++◌, map, reverse, reverse-cons, append_assoc, append-nil, Memᴰ}
use Prim.Native.Nat.{ℕ, zero, suc, ◌+◌, ◌<◌}
use native.Mathlib.Numerals.{add-one}
use native.Mathlib.Decide.{ℕ_discrete}
use native.Mathlib.Omega.{arith}
use lib.ListN.{length, get_or}
use Rattle.std.specs.List.{list_all}
use Rattle.words.specs.Lists.{count_of, all, all_below, tabulate}
use Rattle.words.proofs.Lists.{count_of-append}
use Rattle.words.proofs.Joined.{joined-append}
use Rattle.entries.specs.Marks.{gathered}

-- ---- the lists of the slots below n

module _ {A : Type 0} where
  gathered-suc : (f : ℕ → List A) (n : ℕ) → gathered f (suc n) ≡ gathered f n ++ f n
  gathered-suc f n = joined-append f (tabulate (λ i. i) n) (n ∷ []) ∙ ap (λ (r : List A). gathered f n ++ r) (append-nil (f n))

  pub gathered_next : (f : ℕ → List A) (n : ℕ) → gathered f (n + 1) ≡ gathered f n ++ f n
  gathered_next f n = ap (gathered f) (add-one n) ∙ gathered-suc f n

  gathered-front : (f : ℕ → List A) (n : ℕ) → gathered f (suc n) ≡ f 0 ++ gathered (λ i. f (suc i)) n
  gathered-front f zero = refl
  gathered-front f (suc n) =
      gathered-suc f (suc n)
      ∙ ap (λ (r : List A). r ++ f (suc n)) (gathered-front f n)
      ∙ append_assoc (f 0) (gathered (λ i. f (suc i)) n) (f (suc n))
      ∙ ap (λ (r : List A). f 0 ++ r) (sym (gathered-suc (λ i. f (suc i)) n))

  -- the entries of a list, one by one
  pub gathered-map : {B : Type 0} (g : B → A) (l : List B) (d : B) → gathered (λ k. g (get_or l k d) ∷ []) (length l) ≡ map g l
  gathered-map g [] d = refl
  gathered-map g (x ∷ l) d =
      gathered-front (λ k. g (get_or (x ∷ l) k d) ∷ []) (length l) ∙ ap (λ (r : List A). g x ∷ r) (gathered-map g l d)

-- ---- a test of each entry

and_assoc : (a b c : Bool) → ((a && b) && c) ≡ (a && (b && c))
and_assoc true b c = refl
and_assoc false b c = refl

all_below-front : (p : ℕ → Bool) (n : ℕ) → all_below p (suc n) ≡ (p 0 && all_below (λ i. p (suc i)) n)
all_below-front p zero = go (p 0)
  where
    go : (t : Bool) → (true && t) ≡ (t && true)
    go true = refl
    go false = refl
all_below-front p (suc n) =
    ap (λ (t : Bool). t && p (suc n)) (all_below-front p n) ∙ and_assoc (p 0) (all_below (λ i. p (suc i)) n) (p (suc n))

pub all_below-all : {A : Type 0} (q : A → Bool) (l : List A) (d : A) → all_below (λ k. q (get_or l k d)) (length l) ≡ all q l
all_below-all q [] d = refl
all_below-all q (x ∷ l) d = all_below-front (λ k. q (get_or (x ∷ l) k d)) (length l) ∙ ap (λ (t : Bool). q x && t) (all_below-all q l d)

-- the library's word for it
pub all-listed : {A : Type 0} (q : A → Bool) (l : List A) → list_all q l ≡ all q l
all-listed q [] = refl
all-listed q (x ∷ l) = ap (λ (t : Bool). q x && t) (all-listed q l)

-- ---- counts

module _ {A : Type 0} where
  pub count_of-same : (p q : A → Bool) (l : List A) → ((x : A) → Memᴰ x l → p x ≡ q x) → count_of p l ≡ count_of q l
  count_of-same p q [] h = refl
  count_of-same p q (x ∷ l) h =
      rw (h x (Memᴰ.head refl), count_of-same p q l (λ y m. h y (Memᴰ.tail m)))

  pub count_of-none : (p : A → Bool) (l : List A) → ((x : A) → Memᴰ x l → p x ≡ false) → count_of p l ≡ 0
  count_of-none p [] h = refl
  count_of-none p (x ∷ l) h = rw (h x (Memᴰ.head refl)) (omega (arith, count_of-none p l (λ y m. h y (Memᴰ.tail m))))

  pub count_of-map : {B : Type 0} (p : B → Bool) (g : A → B) (l : List A) → count_of p (map g l) ≡ count_of (λ x. p (g x)) l
  count_of-map p g [] = refl
  count_of-map p g (x ∷ l) = omega (arith, count_of-map p g l)

  count_of-next : (p : A → Bool) (f : ℕ → List A) (n : ℕ) → count_of p (gathered f (suc n)) ≡ count_of p (gathered f n) + count_of p (f n)
  count_of-next p f n =
      ap (count_of p) (gathered-suc f n) ∙ count_of-append p (gathered f n) (f n)

  -- lists that are joined slot by slot
  pub gathered-joined : (p : A → Bool) (f g : ℕ → List A) (n : ℕ) → count_of p (gathered (λ i. f i ++ g i) n) ≡ count_of p (gathered f n) + count_of p (gathered g n)
  gathered-joined p f g zero = refl
  gathered-joined p f g (suc n) =
      omega (arith, count_of-next p (λ i. f i ++ g i) n, count_of-append p (f n) (g n), count_of-next p f n, count_of-next p g n, gathered-joined p f g n)

  -- where no list has what is counted, and where one alone has
  pub gathered_none : (p : A → Bool) (f : ℕ → List A) (n : ℕ) → ((i : ℕ) → i < n → count_of p (f i) ≡ 0) → count_of p (gathered f n) ≡ 0
  gathered_none p f zero h = refl
  gathered_none p f (suc n) h =
      omega (arith, count_of-next p f n, gathered_none p f n (λ i b. h i (omega arith)), h n (omega arith))

  pub gathered-one : (p : A → Bool) (f : ℕ → List A) (n k : ℕ) → k < n → ((i : ℕ) → i < n → (i ≡ k → ⊥) → count_of p (f i) ≡ 0)
      → count_of p (gathered f n) ≡ count_of p (f k)
  gathered-one p f zero k b h = absurd (omega arith)
  gathered-one p f (suc n) k b h = go (λ c. gathered-one p f n k c (λ i l ne. h i (omega arith) ne)) (ℕ_discrete k n)
    where
      go : (k < n → count_of p (gathered f n) ≡ count_of p (f k)) → Dec (k ≡ n) → count_of p (gathered f (suc n)) ≡ count_of p (f k)
      go ih (yes e) =
          rw e (omega (arith, count_of-next p f n, gathered_none p f n (λ i l. h i (omega arith) (λ q. let z = q ∙ e in omega arith))))
      go ih (no ne) =
          let z : count_of p (f n) ≡ 0 = h n (omega arith) (λ q. ne (sym q)) in
          let y = ih (omega arith) in
          omega (arith, count_of-next p f n)

-- ---- tests of lists that are joined or turned round

pub and_comm : (a b : Bool) → (a && b) ≡ (b && a)
and_comm true true = refl
and_comm true false = refl
and_comm false true = refl
and_comm false false = refl

pub all_below-and : (p q : ℕ → Bool) (n : ℕ) → all_below (λ i. p i && q i) n ≡ (all_below p n && all_below q n)
all_below-and p q zero = refl
all_below-and p q (suc n) =
    ap (λ (t : Bool). t && (p n && q n)) (all_below-and p q n) ∙ go (all_below p n) (all_below q n) (p n) (q n)
  where
    go : (a b c d : Bool) → ((a && b) && (c && d)) ≡ ((a && c) && (b && d))
    go true true c d = refl
    go true false true d = refl
    go true false false d = refl
    go false b c d = refl

module _ {A : Type 0} where
  pub all_same : (p q : A → Bool) (l : List A) → ((x : A) → p x ≡ q x) → all p l ≡ all q l
  all_same p q [] h = refl
  all_same p q (x ∷ l) h = rw (h x, all_same p q l h)

  all_append : (p : A → Bool) (l m : List A) → all p (l ++ m) ≡ (all p l && all p m)
  all_append p [] m = refl
  all_append p (x ∷ l) m = ap (λ (t : Bool). p x && t) (all_append p l m) ∙ sym (and_assoc (p x) (all p l) (all p m))

  pub all-gathered : (p : A → Bool) (f : ℕ → List A) (n : ℕ) → all p (gathered f n) ≡ all_below (λ i. all p (f i)) n
  all-gathered p f zero = refl
  all-gathered p f (suc n) =
      ap (all p) (gathered-suc f n) ∙ all_append p (gathered f n) (f n) ∙ ap (λ (t : Bool). t && all p (f n)) (all-gathered p f n)

  pub all-reverse : (p : A → Bool) (l : List A) → all p (reverse l) ≡ all p l
  all-reverse p [] = refl
  all-reverse p (x ∷ l) =
      ap (all p) (reverse-cons x l)
      ∙ all_append p (reverse l) (x ∷ [])
      ∙ ap (λ (t : Bool). t && (p x && true)) (all-reverse p l)
      ∙ ap (λ (t : Bool). all p l && t) (and_comm (p x) true)
      ∙ and_comm (all p l) (p x)
