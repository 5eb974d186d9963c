-- A walk with a stack is the recursion; what it visits, and that it visits nothing twice.
-- Assumes nothing.
use Rattle.std.specs.Prelude.{Some}
use mathlib.Core.Path.{◌≡◌, refl, sym, ap, ◌∙◌, subst}
use mathlib.Core.Logic.{◌⊎◌, inl, inr}
use mathlib.Core.Bool.{true}
use mathlib.Core.List.{List, [], ◌∷◌, ◌++◌, map, append_assoc, append-nil, Memᴰ}
use Prim.Native.Nat.{ℕ, zero, suc, ◌+◌, ◌-◌, ◌≤◌, ◌<◌}
use native.Mathlib.Omega.{arith}
use native.Mathlib.Nat.{suc-add, zero-add, add_assoc}
use lib.ListN.{length, length-append}
use Rattle.words.specs.Lists.{joined}
use Rattle.words.proofs.Lists.{map-append}
use Rattle.model.specs.Edits.{walk}
use Rattle.model.specs.Tree.{Tree}
use Rattle.laws.proofs.Wf.{Distinct, Ends}
use Rattle.laws.proofs.Nested.{Nested}
use Rattle.laws.proofs.Membership.{mem-joined, mem-joined-cases, distinct-joined}
use Rattle.laws.proofs.Climb.{steps, steps_up, some-steps, steps-births, Below, below_steps, below-unique}

-- the walk by recursion, to a depth
abbrev pub visit : {A : Type 0} → (A → List A) → ℕ → A → List A
visit next zero x = []
visit next (suc f) x = x ∷ joined (λ y. visit next f y) (next x)

module _ {A : Type 0} (next : A → List A) where
  -- f is more than the height of the tree below x
  abbrev pub Tall : ℕ → A → Type 0
  Tall zero x = ⊥
  Tall (suc f) x = (y : A) → Memᴰ y (next x) → Tall f y

  -- the step for a list, from that for one item
  walk-joined : (f : ℕ)
      → ((x : A) → Tall f x → (m : ℕ) (s : List A) → walk next (length (visit next f x) + m) (x ∷ s) ≡ visit next f x ++ walk next m s)
      → (l : List A) → ((y : A) → Memᴰ y l → Tall f y) → (m : ℕ) (s : List A)
      → walk next (length (joined (λ y. visit next f y) l) + m) (l ++ s) ≡ joined (λ y. visit next f y) l ++ walk next m s
  walk-joined f one [] h m s = rw (zero-add m)
  walk-joined f one (y ∷ l) h m s =
      ap (λ (n : ℕ). walk next n (y ∷ (l ++ s)))
      (ap (λ (n : ℕ). n + m) (length-append (visit next f y) (joined (λ y. visit next f y) l))
      ∙ add_assoc (length (visit next f y)) (length (joined (λ y. visit next f y) l)) m)
      ∙ one y (h y (mathlib.Core.List.Memᴰ.head refl)) (length (joined (λ y. visit next f y) l) + m) (l ++ s)
      ∙ ap (λ (k : List A). visit next f y ++ k) (walk-joined f one l (λ z q. h z (mathlib.Core.List.Memᴰ.tail q)) m s)
      ∙ sym (append_assoc (visit next f y) (joined (λ y. visit next f y) l) (walk next m s))

  pub walk-visit : (f : ℕ) (x : A) → Tall f x → (m : ℕ) (s : List A)
      → walk next (length (visit next f x) + m) (x ∷ s) ≡ visit next f x ++ walk next m s
  walk-visit zero x h m s = absurd h
  walk-visit (suc f) x h m s =
      rw (suc-add (length (joined (λ y. visit next f y) (next x))) m)
      (ap (λ (l : List A). x ∷ l) (walk-joined f (λ x h m s. walk-visit f x h m s) (next x) h m s))

  walk-nil : (m : ℕ) → walk next m [] ≡ []
  walk-nil zero = refl
  walk-nil (suc m) = refl

  -- with as many steps as there are items, or more, the walk is the recursion
  pub walk-is-visit : (f n : ℕ) (x : A) → Tall f x → length (visit next f x) ≤ n → walk next n (x ∷ []) ≡ visit next f x
  walk-is-visit f n x h k =
      let e : n ≡ length (visit next f x) + (n - length (visit next f x)) = omega arith in
      ap (λ (n : ℕ). walk next n (x ∷ [])) e
      ∙ walk-visit f x h (n - length (visit next f x)) []
      ∙ ap (λ (l : List A). visit next f x ++ l) (walk-nil (n - length (visit next f x)))
      ∙ append-nil (visit next f x)

  pub visit-head : (f : ℕ) (x : A) → Tall f x → Memᴰ x (visit next f x)
  visit-head zero x h = absurd h
  visit-head (suc f) x h = mathlib.Core.List.Memᴰ.head refl

  -- what is visited is closed under `next`
  pub visit-closed : (f : ℕ) (x : A) → Tall f x → (p y : A) → Memᴰ p (visit next f x) → Memᴰ y (next p) → Memᴰ y (visit next f x)
  visit-closed zero x h p y m n = absurd h
  visit-closed (suc f) x h p y m n = go (λ k hk q. visit-closed f k hk p y q n) (mathlib.Core.List.Memᴰ.cases_cons m)
    where
      go : ((k : A) → Tall f k → Memᴰ p (visit next f k) → Memᴰ y (visit next f k)) → (p ≡ x) ⊎ Memᴰ p (joined (λ y. visit next f y) (next x))
          → Memᴰ y (x ∷ joined (λ y. visit next f y) (next x))
      go ih (inl e) =
          let n' : Memᴰ y (next x) = subst (λ (z : A). Memᴰ y (next z)) e n in
          mathlib.Core.List.Memᴰ.tail (mem-joined (λ y. visit next f y) (next x) n' (visit-head f y (h y n')))
      go ih (inr q) =
          let o = mem-joined-cases (λ y. visit next f y) (next x) q in
          mathlib.Core.List.Memᴰ.tail (mem-joined (λ y. visit next f y) (next x) o.1 (ih o.0 (h o.0 o.1) o.2))

-- a walk over what births are called is the walk over births
module _ {A B : Type 0} (call : B → A) (Met : B → Type 0) (outer : A → List A) (inner : B → List B)
    (agree : (x : B) → Met x → outer (call x) ≡ map call (inner x)) (on : (x y : B) → Met x → Memᴰ y (inner x) → Met y) where
  pub walk-called : (f : ℕ) (s : List B) → ((y : B) → Memᴰ y s → Met y) → walk outer f (map call s) ≡ map call (walk inner f s)
  walk-called zero s al = refl
  walk-called (suc f) [] al = refl
  walk-called (suc f) (x ∷ s) al =
      let mx = al x (mathlib.Core.List.Memᴰ.head refl) in
      ap (λ (l : List A). call x ∷ l)
      (ap (walk outer f) (ap (λ (l : List A). l ++ map call s) (agree x mx) ∙ sym (map-append call (inner x) s))
      ∙ walk-called f (inner x ++ s) (λ y m. go y mx (mathlib.Core.List.Memᴰ.append_cases (inner x) m)))
    where
      go : (y : B) → Met x → Memᴰ y (inner x) ⊎ Memᴰ y s → Met y
      go y mx (inl m) = on x y mx m
      go y mx (inr m) = al y (mathlib.Core.List.Memᴰ.tail m)

-- a walk of the plain tree along lists of births that have the visited one as parent
module _ {t : Tree} (N : Nested t) (next : ℕ → List ℕ)
    (kid : (x y : ℕ) → t.live x ≡ true → Memᴰ y (next x) → (t.live y ≡ true) × (t.parent y ≡ Some x)) where
  tall-above : (f x : ℕ) → (lx : t.live x ≡ true) (r : Ends t.parent x) → t.births < steps r + f → Tall next f x
  tall-above zero x lx r h = absurd (let q = steps-births N r lx in omega arith)
  tall-above (suc f) x lx r h =
      λ y m. let k = kid x y lx m in tall-above f y k.0 (Ends.up x k.1 r) (let u = steps_up x y r k.1 in omega arith)

  -- the births are depth enough
  pub tall : (x : ℕ) → t.live x ≡ true → Tall next t.births x
  tall x lx = tall-above t.births x lx (N.ends x lx) (let s = some-steps (N.ends x lx) in omega arith)

  pub visited : (f x : ℕ) → t.live x ≡ true → (y : ℕ) → Memᴰ y (visit next f x) → (t.live y ≡ true) × Below t.parent x y
  visited zero x lx y m = absurd (mathlib.Core.List.Memᴰ.not-nil m)
  visited (suc f) x lx y m = go (λ k lk q. visited f k lk y q) (mathlib.Core.List.Memᴰ.cases_cons m)
    where
      lower : {k z : ℕ} → t.parent k ≡ Some x → Below t.parent k z → Below t.parent x z
      lower {k} e (Below.here q) = Below.down x (ap t.parent q ∙ e) (Below.here refl)
      lower {k} e (Below.down p f b) = Below.down p f (lower e b)

      go : ((k : ℕ) → t.live k ≡ true → Memᴰ y (visit next f k) → (t.live y ≡ true) × Below t.parent k y)
          → (y ≡ x) ⊎ Memᴰ y (joined (λ y. visit next f y) (next x)) → (t.live y ≡ true) × Below t.parent x y
      go ih (inl e) = (ap t.live e ∙ lx, Below.here e)
      go ih (inr q) =
          let o = mem-joined-cases (λ y. visit next f y) (next x) q in
          let k = kid x o.0 lx o.1 in
          let b = ih o.0 k.0 o.2 in
          (b.0, lower k.1 b.1)

  pub visit-distinct : ((x : ℕ) → t.live x ≡ true → Distinct (next x)) → (f x : ℕ) → t.live x ≡ true → Distinct (visit next f x)
  visit-distinct once zero x lx = tt
  visit-distinct once (suc f) x lx =
      (no_return, distinct-joined (λ y. visit next f y) (next x) (once x lx) (λ k m. visit-distinct once f k (kid x k lx m).0) unique)
    where
      rx : Ends t.parent x
      rx = N.ends x lx

      no_return : Memᴰ x (joined (λ y. visit next f y) (next x)) → ⊥
      no_return m =
          let o = mem-joined-cases (λ y. visit next f y) (next x) m in
          let k = kid x o.0 lx o.1 in
          let q = below_steps (visited f o.0 k.0 x o.2).1 (Ends.up x k.1 rx) rx in
          omega (arith, steps_up x o.0 rx k.1)

      unique : (k j y : ℕ) → Memᴰ k (next x) → Memᴰ j (next x) → Memᴰ y (visit next f k) → Memᴰ y (visit next f j) → k ≡ j
      unique k j y mk mj a b =
          let ck = kid x k lx mk in
          let cj = kid x j lx mj in
          let va = visited f k ck.0 y a in
          below-unique va.1 (visited f j cj.0 y b).1 (Ends.up x ck.1 rx) (Ends.up x cj.1 rx) (N.ends y va.0)
          (steps_up x k rx ck.1 ∙ sym (steps_up x j rx cj.1))

  -- where `next` gives every live node with that parent, everything below is visited
  pub below-visited : ((x y : ℕ) → t.live y ≡ true → t.parent y ≡ Some x → Memᴰ y (next x))
      → (x : ℕ) → t.live x ≡ true → {y : ℕ} → Below t.parent x y → t.live y ≡ true → Memᴰ y (visit next t.births x)
  below-visited every x lx (Below.here e) ly =
      subst (λ (z : ℕ). Memᴰ z (visit next t.births x)) (sym e) (visit-head next t.births x (tall x lx))
  below-visited every x lx {y} (Below.down p e r) ly =
      visit-closed next t.births x (tall x lx) p y (below-visited every x lx r (N.upward y p ly e).0) (every p y ly e)
