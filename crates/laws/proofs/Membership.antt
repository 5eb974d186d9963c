-- What stands in a list after an edit of it, and that nothing stands there twice.
-- Assumes nothing.
use Rattle.std.proofs.lemmas.Option.{none-some, same_Some}
use Rattle.std.specs.Prelude.{None, Some}
use mathlib.Core.Path.{◌≡◌, refl, sym, ap, ◌∙◌, subst}
use mathlib.Core.Logic.{◌≢◌, ◌⊎◌, inl, inr}
use mathlib.Core.Bool.{Bool, true, false, cond, true≢false}
use mathlib.Core.List.Memᴰ
use mathlib.Core.List.{List, [], ◌∷◌, ◌++◌, map, reverse, reverse_aux, Memᴰ}
use Prim.Native.Nat.{ℕ, zero, suc, ◌≤◌, ◌<◌}
use native.Mathlib.Omega.{arith}
use lib.Dec.{eqb}
use lib.ListN.{length, take}
use borrow.Author.Tests.{eqb-true, eqb-false}
use Rattle.words.specs.Lists.{insert_at, without, find, joined}
use Rattle.laws.proofs.Wf.{Distinct}

-- ---- an entry put in

module _ {A : Type 0} where
  pub mem-insert_at : (i : ℕ) (x : A) (l : List A) → Memᴰ x (insert_at i x l)
  unfolding insert_at
  mem-insert_at i x l = Memᴰ.append_right (take i l) (Memᴰ.head refl)

  pub mem-insert_at-old : (i : ℕ) (x : A) (l : List A) {a : A} → Memᴰ a l → Memᴰ a (insert_at i x l)
  unfolding insert_at
  mem-insert_at-old zero x l m = Memᴰ.tail m
  mem-insert_at-old (suc i) x [] m = absurd (Memᴰ.not-nil m)
  mem-insert_at-old (suc i) x (y ∷ l) {a} m = go (λ q. mem-insert_at-old i x l q) (Memᴰ.cases_cons m)
    where
      go : (Memᴰ a l → Memᴰ a (insert_at i x l)) → (a ≡ y) ⊎ Memᴰ a l → Memᴰ a (y ∷ insert_at i x l)
      go ih (inl e) = Memᴰ.head e
      go ih (inr q) = Memᴰ.tail (ih q)

  pub mem-insert_at-cases : (i : ℕ) (x : A) (l : List A) {a : A} → Memᴰ a (insert_at i x l) → (a ≡ x) ⊎ Memᴰ a l
  unfolding insert_at
  mem-insert_at-cases zero x l m = Memᴰ.cases_cons m
  mem-insert_at-cases (suc i) x [] m = Memᴰ.cases_cons m
  mem-insert_at-cases (suc i) x (y ∷ l) {a} m = go (λ q. mem-insert_at-cases i x l q) (Memᴰ.cases_cons m)
    where
      tail : (a ≡ x) ⊎ Memᴰ a l → (a ≡ x) ⊎ Memᴰ a (y ∷ l)
      tail (inl e) = inl e
      tail (inr q) = inr (Memᴰ.tail q)

      go : (Memᴰ a (insert_at i x l) → (a ≡ x) ⊎ Memᴰ a l) → (a ≡ y) ⊎ Memᴰ a (insert_at i x l) → (a ≡ x) ⊎ Memᴰ a (y ∷ l)
      go ih (inl e) = inr (Memᴰ.head e)
      go ih (inr q) = tail (ih q)

pub distinct-insert_at : (i x : ℕ) (l : List ℕ) → (Memᴰ x l → ⊥) → Distinct l → Distinct (insert_at i x l)
unfolding insert_at
distinct-insert_at zero x l n u = (n, u)
distinct-insert_at (suc i) x [] n u = (n, u)
distinct-insert_at (suc i) x (y ∷ l) n u = ((λ m. go (mem-insert_at-cases i x l m)), distinct-insert_at i x l (λ m. n (Memᴰ.tail m)) u.1)
  where
    go : (y ≡ x) ⊎ Memᴰ y l → ⊥
    go (inl e) = n (Memᴰ.head (sym e))
    go (inr m) = u.0 m

-- ---- an entry taken out

pub mem-without-old : (x : ℕ) (l : List ℕ) {a : ℕ} → Memᴰ a (without (eqb x) l) → Memᴰ a l
mem-without-old x [] m = m
mem-without-old x (y ∷ l) {a} m = go (λ q. mem-without-old x l q) (eqb x y) m
  where
    tail : (Memᴰ a (without (eqb x) l) → Memᴰ a l) → (a ≡ y) ⊎ Memᴰ a (without (eqb x) l) → Memᴰ a (y ∷ l)
    tail ih (inl e) = Memᴰ.head e
    tail ih (inr q) = Memᴰ.tail (ih q)

    go : (Memᴰ a (without (eqb x) l) → Memᴰ a l) → (b : Bool) → Memᴰ a (cond b l (y ∷ without (eqb x) l)) → Memᴰ a (y ∷ l)
    go ih true m = Memᴰ.tail m
    go ih false m = tail ih (Memᴰ.cases_cons m)

pub mem-without : (x : ℕ) (l : List ℕ) {a : ℕ} → a ≢ x → Memᴰ a l → Memᴰ a (without (eqb x) l)
mem-without x [] n m = m
mem-without x (y ∷ l) {a} n m = go (λ q. mem-without x l n q) (eqb x y) refl (Memᴰ.cases_cons m)
  where
    go : (Memᴰ a l → Memᴰ a (without (eqb x) l)) → (b : Bool) → eqb x y ≡ b → (a ≡ y) ⊎ Memᴰ a l
        → Memᴰ a (cond b l (y ∷ without (eqb x) l))
    go ih true e (inl q) = absurd (n (q ∙ sym (eqb-true x y e)))
    go ih true e (inr q) = q
    go ih false e (inl q) = Memᴰ.head q
    go ih false e (inr q) = Memᴰ.tail (ih q)

pub distinct_without : (x : ℕ) (l : List ℕ) → Distinct l → Distinct (without (eqb x) l) × (Memᴰ x (without (eqb x) l) → ⊥)
distinct_without x [] u = (tt, λ m. Memᴰ.not-nil m)
distinct_without x (y ∷ l) u = go (distinct_without x l u.1) (eqb x y) refl
  where
    go : Distinct (without (eqb x) l) × (Memᴰ x (without (eqb x) l) → ⊥) → (b : Bool) → eqb x y ≡ b
        → Distinct (cond b l (y ∷ without (eqb x) l)) × (Memᴰ x (cond b l (y ∷ without (eqb x) l)) → ⊥)
    go ih true e = (u.1, λ m. u.0 (subst (λ (z : ℕ). Memᴰ z l) (eqb-true x y e) m))
    go ih false e = (((λ m. u.0 (mem-without-old x l m)), ih.0), λ m. tail (Memᴰ.cases_cons m))
      where
        tail : (x ≡ y) ⊎ Memᴰ x (without (eqb x) l) → ⊥
        tail (inl q) = eqb-false x y e q
        tail (inr m) = ih.1 m

length-without-le : (x : ℕ) (l : List ℕ) → length l ≤ suc (length (without (eqb x) l))
length-without-le x [] = omega arith
length-without-le x (y ∷ l) = go (length-without-le x l) (eqb x y)
  where
    go : length l ≤ suc (length (without (eqb x) l)) → (b : Bool) → suc (length l) ≤ suc (length (cond b l (y ∷ without (eqb x) l)))
    go ih true = omega arith
    go ih false = omega arith

-- numbers below n, none twice, are at most n
pub pigeonhole : (n : ℕ) (l : List ℕ) → Distinct l → ((x : ℕ) → Memᴰ x l → x < n) → length l ≤ n
pigeonhole zero [] u h = omega arith
pigeonhole zero (x ∷ l) u h = absurd (let z = h x (Memᴰ.head refl) in omega arith)
pigeonhole (suc n) l u h =
    let v = distinct_without n l u in
    let ih = pigeonhole n (without (eqb n) l) v.0 below in
    omega (arith, length-without-le n l)
  where
    below : (x : ℕ) → Memᴰ x (without (eqb n) l) → x < n
    below x m =
        let lt = h x (mem-without-old n l m) in
        let ne : x ≢ n = λ e. (distinct_without n l u).1 (subst (λ (z : ℕ). Memᴰ z (without (eqb n) l)) e m) in
        omega arith

-- ---- lists joined, mapped and turned round

module _ {A B : Type 0} where
  pub mem-joined : (f : B → List A) (l : List B) {k : B} {y : A} → Memᴰ k l → Memᴰ y (f k) → Memᴰ y (joined f l)
  mem-joined f [] m n = absurd (Memᴰ.not-nil m)
  mem-joined f (x ∷ l) {k} {y} m n = go (λ q. mem-joined f l q n) (Memᴰ.cases_cons m)
    where
      go : (Memᴰ k l → Memᴰ y (joined f l)) → (k ≡ x) ⊎ Memᴰ k l → Memᴰ y (f x ++ joined f l)
      go ih (inl e) = Memᴰ.append_left (joined f l) (subst (λ (b : B). Memᴰ y (f b)) e n)
      go ih (inr q) = Memᴰ.append_right (f x) (ih q)

  pub mem-joined-cases : (f : B → List A) (l : List B) {y : A} → Memᴰ y (joined f l) → (k : B) × Memᴰ k l × Memᴰ y (f k)
  mem-joined-cases f [] m = absurd (Memᴰ.not-nil m)
  mem-joined-cases f (x ∷ l) {y} m = go (λ q. mem-joined-cases f l q) (Memᴰ.append_cases (f x) m)
    where
      go : (Memᴰ y (joined f l) → (k : B) × Memᴰ k l × Memᴰ y (f k)) → Memᴰ y (f x) ⊎ Memᴰ y (joined f l)
          → (k : B) × Memᴰ k (x ∷ l) × Memᴰ y (f k)
      go ih (inl q) = (x, Memᴰ.head refl, q)
      go ih (inr q) = let o = ih q in (o.0, Memᴰ.tail o.1, o.2)

  pub mem-map : (g : A → B) (l : List A) {x : A} → Memᴰ x l → Memᴰ (g x) (map g l)
  mem-map g [] m = absurd (Memᴰ.not-nil m)
  mem-map g (y ∷ l) {x} m = go (λ q. mem-map g l q) (Memᴰ.cases_cons m)
    where
      go : (Memᴰ x l → Memᴰ (g x) (map g l)) → (x ≡ y) ⊎ Memᴰ x l → Memᴰ (g x) (g y ∷ map g l)
      go ih (inl e) = Memᴰ.head (ap g e)
      go ih (inr q) = Memᴰ.tail (ih q)

  pub mem-map-cases : (g : A → B) (l : List A) {y : B} → Memᴰ y (map g l) → (x : A) × Memᴰ x l × (y ≡ g x)
  mem-map-cases g [] m = absurd (Memᴰ.not-nil m)
  mem-map-cases g (x ∷ l) {y} m = go (λ q. mem-map-cases g l q) (Memᴰ.cases_cons m)
    where
      go : (Memᴰ y (map g l) → (x : A) × Memᴰ x l × (y ≡ g x)) → (y ≡ g x) ⊎ Memᴰ y (map g l)
          → (z : A) × Memᴰ z (x ∷ l) × (y ≡ g z)
      go ih (inl e) = (x, Memᴰ.head refl, e)
      go ih (inr m) = let o = ih m in (o.0, Memᴰ.tail o.1, o.2)

  pub map-reverse_aux : (g : A → B) (l r : List A) → map g (reverse_aux l r) ≡ reverse_aux (map g l) (map g r)
  map-reverse_aux g [] r = refl
  map-reverse_aux g (x ∷ l) r = map-reverse_aux g l (x ∷ r)

  pub map-reverse : (g : A → B) (l : List A) → map g (reverse l) ≡ reverse (map g l)
  map-reverse g l = map-reverse_aux g l []

module _ {A : Type 0} where
  mem-reverse_aux-cases : (l r : List A) {y : A} → Memᴰ y (reverse_aux l r) → Memᴰ y l ⊎ Memᴰ y r
  mem-reverse_aux-cases [] r m = inr m
  mem-reverse_aux-cases (x ∷ l) r {y} m = go (mem-reverse_aux-cases l (x ∷ r) m)
    where
      last : (y ≡ x) ⊎ Memᴰ y r → Memᴰ y (x ∷ l) ⊎ Memᴰ y r
      last (inl e) = inl (Memᴰ.head e)
      last (inr q) = inr q

      go : Memᴰ y l ⊎ Memᴰ y (x ∷ r) → Memᴰ y (x ∷ l) ⊎ Memᴰ y r
      go (inl q) = inl (Memᴰ.tail q)
      go (inr q) = last (Memᴰ.cases_cons q)

  mem-reverse_aux : (l r : List A) {y : A} → Memᴰ y l ⊎ Memᴰ y r → Memᴰ y (reverse_aux l r)
  mem-reverse_aux [] r (inl m) = absurd (Memᴰ.not-nil m)
  mem-reverse_aux [] r (inr m) = m
  mem-reverse_aux (x ∷ l) r {y} (inl m) = mem-reverse_aux l (x ∷ r) (go (Memᴰ.cases_cons m))
    where
      go : (y ≡ x) ⊎ Memᴰ y l → Memᴰ y l ⊎ Memᴰ y (x ∷ r)
      go (inl e) = inr (Memᴰ.head e)
      go (inr q) = inl q
  mem-reverse_aux (x ∷ l) r (inr m) = mem-reverse_aux l (x ∷ r) (inr (Memᴰ.tail m))

  pub mem-reverse : (l : List A) {y : A} → Memᴰ y l → Memᴰ y (reverse l)
  mem-reverse l m = mem-reverse_aux l [] (inl m)

  pub mem-reverse-old : (l : List A) {y : A} → Memᴰ y (reverse l) → Memᴰ y l
  mem-reverse-old l {y} m = go (mem-reverse_aux-cases l [] m)
    where
      go : Memᴰ y l ⊎ Memᴰ y [] → Memᴰ y l
      go (inl q) = q
      go (inr q) = absurd (Memᴰ.not-nil q)

pub distinct_append : (a b : List ℕ) → Distinct a → Distinct b → ((y : ℕ) → Memᴰ y a → Memᴰ y b → ⊥) → Distinct (a ++ b)
distinct_append [] b u v h = v
distinct_append (x ∷ a) b u v h =
    ((λ m. go (Memᴰ.append_cases a m)), distinct_append a b u.1 v (λ y ma mb. h y (Memᴰ.tail ma) mb))
  where
    go : Memᴰ x a ⊎ Memᴰ x b → ⊥
    go (inl m) = u.0 m
    go (inr m) = h x (Memᴰ.head refl) m

-- lists that share nothing
pub distinct-joined : (f : ℕ → List ℕ) (l : List ℕ) → Distinct l → ((k : ℕ) → Memᴰ k l → Distinct (f k))
    → ((k j y : ℕ) → Memᴰ k l → Memᴰ j l → Memᴰ y (f k) → Memᴰ y (f j) → k ≡ j) → Distinct (joined f l)
distinct-joined f [] u d h = tt
distinct-joined f (k ∷ l) u d h =
    distinct_append (f k) (joined f l) (d k (Memᴰ.head refl))
    (distinct-joined f l u.1 (λ j m. d j (Memᴰ.tail m)) (λ i j y mi mj. h i j y (Memᴰ.tail mi) (Memᴰ.tail mj))) apart
  where
    apart : (y : ℕ) → Memᴰ y (f k) → Memᴰ y (joined f l) → ⊥
    apart y m n =
        let o = mem-joined-cases f l n in
        u.0 (subst (λ (z : ℕ). Memᴰ z l) (sym (h k o.0 y (Memᴰ.head refl) (Memᴰ.tail o.1) m o.2)) o.1)

pub distinct-map : (g : ℕ → ℕ) (l : List ℕ) → ((a b : ℕ) → Memᴰ a l → Memᴰ b l → g a ≡ g b → a ≡ b) → Distinct l → Distinct (map g l)
distinct-map g [] inj u = tt
distinct-map g (x ∷ l) inj u = (fresh, distinct-map g l (λ a b ma mb. inj a b (Memᴰ.tail ma) (Memᴰ.tail mb)) u.1)
  where
    fresh : Memᴰ (g x) (map g l) → ⊥
    fresh m =
        let o = mem-map-cases g l m in
        u.0 (subst (λ (z : ℕ). Memᴰ z l) (sym (inj x o.0 (Memᴰ.head refl) (Memᴰ.tail o.1) o.2)) o.1)

distinct-reverse_aux : (l r : List ℕ) → Distinct l → Distinct r → ((y : ℕ) → Memᴰ y l → Memᴰ y r → ⊥) → Distinct (reverse_aux l r)
distinct-reverse_aux [] r u v h = v
distinct-reverse_aux (x ∷ l) r u v h =
    distinct-reverse_aux l (x ∷ r) u.1 ((λ m. h x (Memᴰ.head refl) m), v) (λ y m n. go y m (Memᴰ.cases_cons n))
  where
    go : (y : ℕ) → Memᴰ y l → (y ≡ x) ⊎ Memᴰ y r → ⊥
    go y m (inl e) = u.0 (subst (λ (z : ℕ). Memᴰ z l) e m)
    go y m (inr n) = h y (Memᴰ.tail m) n

pub distinct-reverse : (l : List ℕ) → Distinct l → Distinct (reverse l)
distinct-reverse l u = distinct-reverse_aux l [] u tt (λ y m n. Memᴰ.not-nil n)

-- ---- the first entry that passes a test

module _ {A : Type 0} (p : A → Bool) where
  pub find_none : (l : List A) → find p l ≡ None → {a : A} → Memᴰ a l → p a ≡ true → ⊥
  find_none [] e m q = Memᴰ.not-nil m
  find_none (x ∷ l) e {a} m q = go (λ f n. find_none l f n q) (p x) refl e (Memᴰ.cases_cons m)
    where
      go : (find p l ≡ None → Memᴰ a l → ⊥) → (b : Bool) → p x ≡ b → cond b (Some x) (find p l) ≡ None → (a ≡ x) ⊎ Memᴰ a l → ⊥
      go ih true g f c = none-some x (sym f)
      go ih false g f (inl c) = true≢false (sym q ∙ ap p c ∙ g)
      go ih false g f (inr c) = ih f c

  pub find-some : (l : List A) (x : A) → find p l ≡ Some x → Memᴰ x l × (p x ≡ true)
  find-some [] x e = absurd (none-some x e)
  find-some (y ∷ l) x e = go (λ f. find-some l x f) (p y) refl e
    where
      go : (find p l ≡ Some x → Memᴰ x l × (p x ≡ true)) → (b : Bool) → p y ≡ b → cond b (Some y) (find p l) ≡ Some x
          → Memᴰ x (y ∷ l) × (p x ≡ true)
      go ih true g f = let q : y ≡ x = same_Some y x f in (Memᴰ.head (sym q), ap p (sym q) ∙ g)
      go ih false g f = let o = ih f in (Memᴰ.tail o.0, o.1)
