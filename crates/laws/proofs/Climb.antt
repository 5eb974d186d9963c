-- Walking up: the path to the top has no node twice, so as many steps as there are births are enough for `above`.
-- Assumes nothing.
use Rattle.std.proofs.lemmas.Option.{none-some, same_Some}
use Rattle.std.specs.Prelude.{Option, Some}
use mathlib.Core.Path.{◌≡◌, refl, sym, ap, ◌∙◌, subst}
use mathlib.Core.Logic.{◌⊎◌, inl, inr}
use mathlib.Core.Bool.{true, false, true≢false}
use mathlib.Core.List.Memᴰ
use mathlib.Core.List.{List, [], ◌∷◌, Memᴰ}
use Prim.Native.Nat.{ℕ, zero, suc, ◌≤◌, ◌<◌}
use native.Mathlib.Omega.{arith}
use native.Mathlib.Decide.{ℕ_discrete}
use borrow.Author.Tests.{eq-eqb, ne_eqb}
use lib.ListN.{length}
use Rattle.model.specs.Tree.{Tree, above}
use Rattle.laws.proofs.Wf.{Distinct, Ends, Clear}
use Rattle.laws.proofs.Nested.{Nested}
use Rattle.laws.proofs.Membership.{pigeonhole}

-- ---- the path

module _ {parent : ℕ → Option ℕ} where
  unfoldable pub path : {x : ℕ} → Ends parent x → List ℕ
  path {x} (Ends.top e) = x ∷ []
  path {x} (Ends.up p e r) = x ∷ path r

  unfoldable pub steps : {x : ℕ} → Ends parent x → ℕ
  steps (Ends.top e) = 1
  steps (Ends.up p e r) = suc (steps r)

  pub length-path : {x : ℕ} (r : Ends parent x) → length (path r) ≡ steps r
  unfolding path steps
  length-path (Ends.top e) = refl
  length-path (Ends.up p e r) = ap suc (length-path r)

  pub steps_up : (x k : ℕ) (r : Ends parent x) (e : parent k ≡ Some x) → steps (Ends.up x e r) ≡ suc (steps r)
  unfolding steps
  steps_up x k r e = refl

  pub some-steps : {x : ℕ} (r : Ends parent x) → 0 < steps r
  unfolding steps
  some-steps (Ends.top e) = omega arith
  some-steps (Ends.up p e r) = omega arith

  -- two walks from one node are as long
  pub steps-unique : {x y : ℕ} (r : Ends parent x) (s : Ends parent y) → x ≡ y → steps r ≡ steps s
  unfolding steps
  steps-unique {x} {y} (Ends.top e) (Ends.top f) q = refl
  steps-unique {x} {y} (Ends.top e) (Ends.up p f s) q = absurd (none-some p (sym e ∙ ap parent q ∙ f))
  steps-unique {x} {y} (Ends.up p e r) (Ends.top f) q = absurd (none-some p (sym f ∙ ap parent (sym q) ∙ e))
  steps-unique {x} {y} (Ends.up p e r) (Ends.up p' f s) q = ap suc (steps-unique r s (same_Some p p' (sym e ∙ ap parent q ∙ f)))

  pub from-path : {x y : ℕ} (r : Ends parent x) → Memᴰ y (path r) → (s : Ends parent y) × (steps s ≤ steps r)
  unfolding path steps
  from-path {x} {y} (Ends.top e) m = go (Memᴰ.cases_cons m)
    where
      go : (y ≡ x) ⊎ Memᴰ y [] → (s : Ends parent y) × (steps s ≤ 1)
      go (inl q) = (Ends.top (ap parent q ∙ e), omega arith)
      go (inr m) = absurd (Memᴰ.not-nil m)
  from-path {x} {y} (Ends.up p e r) m = go (λ m. from-path r m) (Memᴰ.cases_cons m)
    where
      go : (Memᴰ y (path r) → (s : Ends parent y) × (steps s ≤ steps r)) → (y ≡ x) ⊎ Memᴰ y (path r)
          → (s : Ends parent y) × (steps s ≤ suc (steps r))
      go ih (inl q) = (Ends.up p (ap parent q ∙ e) r, omega arith)
      go ih (inr m) = let o = ih m in (o.0, omega arith)

  pub path-distinct : {x : ℕ} (r : Ends parent x) → Distinct (path r)
  unfolding path steps
  path-distinct {x} (Ends.top e) = ((λ m. Memᴰ.not-nil m), tt)
  path-distinct {x} (Ends.up p e r) = (no_return, path-distinct r)
    where
      no_return : Memᴰ x (path r) → ⊥
      no_return m = let o = from-path r m in let q = steps-unique (Ends.up p e r) o.0 refl in omega (arith, o.1)

  -- with enough steps `above` is membership in the path, and its negation a walk that avoids b
  pub above_cases : (b : ℕ) {x : ℕ} (r : Ends parent x) (f : ℕ) → steps r ≤ f
      → (Memᴰ b (path r) × (above f parent b x ≡ true)) ⊎ (Clear parent b x × (above f parent b x ≡ false))
  unfolding path steps
  above_cases b {x} r zero h = absurd (let s = some-steps r in omega arith)
  above_cases b {x} (Ends.top e) (suc f) h = go (ℕ_discrete x b)
    where
      go : Dec (x ≡ b) → (Memᴰ b (x ∷ []) × (above (suc f) parent b x ≡ true)) ⊎ (Clear parent b x × (above (suc f) parent b x ≡ false))
      go (yes q) = inl (Memᴰ.head (sym q), rw (eq-eqb x b q))
      go (no n) = inr (Clear.top n e, rw (ne_eqb x b n, e))
  above_cases b {x} (Ends.up p e r) (suc f) h = go (above_cases b r f (omega arith)) (ℕ_discrete x b)
    where
      go : (Memᴰ b (path r) × (above f parent b p ≡ true)) ⊎ (Clear parent b p × (above f parent b p ≡ false)) → Dec (x ≡ b)
          → (Memᴰ b (x ∷ path r) × (above (suc f) parent b x ≡ true)) ⊎ (Clear parent b x × (above (suc f) parent b x ≡ false))
      go ih (yes q) = inl (Memᴰ.head (sym q), rw (eq-eqb x b q))
      go (inl ih) (no n) = inl (Memᴰ.tail ih.0, rw (ne_eqb x b n, e) ih.1)
      go (inr ih) (no n) = inr (Clear.up p n e ih.0, rw (ne_eqb x b n, e) ih.1)

-- ---- at or below a node

-- y is x or below it
pub data Below (parent : ℕ → Option ℕ) (x : ℕ) : ℕ → Type 0 where
  here : {y : ℕ} → y ≡ x → Below parent x y
  down : {y : ℕ} (p : ℕ) → parent y ≡ Some p → Below parent x p → Below parent x y

module _ {parent : ℕ → Option ℕ} where
  pub path-below : (b : ℕ) {x : ℕ} (r : Ends parent x) → Memᴰ b (path r) → Below parent b x
  unfolding path
  path-below b {x} (Ends.top e) m = go (Memᴰ.cases_cons m)
    where
      go : (b ≡ x) ⊎ Memᴰ b [] → Below parent b x
      go (inl q) = Below.here (sym q)
      go (inr m) = absurd (Memᴰ.not-nil m)
  path-below b {x} (Ends.up p e r) m = go (λ m. path-below b r m) (Memᴰ.cases_cons m)
    where
      go : (Memᴰ b (path r) → Below parent b p) → (b ≡ x) ⊎ Memᴰ b (path r) → Below parent b x
      go ih (inl q) = Below.here (sym q)
      go ih (inr m) = Below.down p e (ih m)

  pub clear-below : {b x : ℕ} → Clear parent b x → Below parent b x → ⊥
  clear-below (Clear.top n e) (Below.here q) = n q
  clear-below (Clear.top n e) (Below.down p f r) = none-some p (sym e ∙ f)
  clear-below (Clear.up q n e c) (Below.here f) = n f
  clear-below {b} (Clear.up q n e c) (Below.down p f r) =
      clear-below c (subst (λ (z : ℕ). Below parent b z) (same_Some p q (sym f ∙ e)) r)

  pub below_steps : {k y : ℕ} → Below parent k y → (rk : Ends parent k) (ry : Ends parent y) → steps rk ≤ steps ry
  unfolding steps
  below_steps (Below.here e) rk ry = let q = steps-unique ry rk e in omega arith
  below_steps (Below.down p e b) rk (Ends.top f) = absurd (none-some p (sym f ∙ e))
  below_steps {k} (Below.down p e b) rk (Ends.up p' f r) =
      let z : p' ≡ p = same_Some p' p (sym f ∙ e) in
      let r' : Ends parent p = subst (λ (z : ℕ). Ends parent z) z r in
      let q = below_steps b rk r' in
      let u = steps-unique r r' z in
      omega arith

  -- a node below j is deeper than j
  below-deeper : (k j : ℕ) {y : ℕ} → y ≡ k → (p : ℕ) → parent y ≡ Some p → Below parent j p
      → (rk : Ends parent k) (rj : Ends parent j) (ry : Ends parent y) → steps rk ≡ steps rj → ⊥
  unfolding steps
  below-deeper k j e p f b rk rj (Ends.top g) q = none-some p (sym g ∙ f)
  below-deeper k j e p f b rk rj (Ends.up p' g r) q =
      let u = steps-unique (Ends.up p' g r) rk e in
      let v = below_steps (subst (λ (z : ℕ). Below parent j z) (same_Some p p' (sym f ∙ g)) b) rj r in
      omega arith

  -- of two nodes above y at one depth there is one
  pub below-unique : {k j y : ℕ} → Below parent k y → Below parent j y → (rk : Ends parent k) (rj : Ends parent j) (ry : Ends parent y)
      → steps rk ≡ steps rj → k ≡ j
  below-unique (Below.here e) (Below.here f) rk rj ry q = sym e ∙ f
  below-unique {k} {j} (Below.here e) (Below.down p f b) rk rj ry q = absurd (below-deeper k j e p f b rk rj ry q)
  below-unique {k} {j} (Below.down p f b) (Below.here e) rk rj ry q = absurd (below-deeper j k e p f b rj rk ry (sym q))
  below-unique {k} {j} (Below.down p f b) (Below.down p' f' b') rk rj (Ends.top g) q = absurd (none-some p (sym g ∙ f))
  below-unique {k} {j} (Below.down p f b) (Below.down p' f' b') rk rj (Ends.up z g r) q =
      below-unique b (subst (λ (z : ℕ). Below parent j z) (same_Some p' p (sym f' ∙ f)) b') rk rj
      (subst (λ (z : ℕ). Ends parent z) (same_Some z p (sym g ∙ f)) r) q

-- ---- in a nested tree

module _ {t : Tree} (N : Nested t) where
  pub path-live : {x : ℕ} (r : Ends t.parent x) → t.live x ≡ true → (y : ℕ) → Memᴰ y (path r) → t.live y ≡ true
  unfolding path
  path-live {x} (Ends.top e) lx y m = go (Memᴰ.cases_cons m)
    where
      go : (y ≡ x) ⊎ Memᴰ y [] → t.live y ≡ true
      go (inl q) = ap t.live q ∙ lx
      go (inr m) = absurd (Memᴰ.not-nil m)
  path-live {x} (Ends.up p e r) lx y m = go (λ m. path-live r (N.upward x p lx e).0 y m) (Memᴰ.cases_cons m)
    where
      go : (Memᴰ y (path r) → t.live y ≡ true) → (y ≡ x) ⊎ Memᴰ y (path r) → t.live y ≡ true
      go ih (inl q) = ap t.live q ∙ lx
      go ih (inr m) = ih m

  pub steps-births : {x : ℕ} (r : Ends t.parent x) → t.live x ≡ true → steps r ≤ t.births
  steps-births r lx =
      let h = pigeonhole t.births (path r) (path-distinct r) (λ y m. N.counted y (path-live r lx y m)) in
      omega (arith, length-path r)

  -- what `above` says of a live node
  abbrev pub AboveCases : ℕ → ℕ → Type 0
  AboveCases b x = (Below t.parent b x × (above t.births t.parent b x ≡ true)) ⊎ (Clear t.parent b x × (above t.births t.parent b x ≡ false))

  pub gone-cases : (b x : ℕ) → t.live x ≡ true → AboveCases b x
  gone-cases b x lx = go (above_cases b (N.ends x lx) t.births (steps-births (N.ends x lx) lx))
    where
      go : (Memᴰ b (path (N.ends x lx)) × (above t.births t.parent b x ≡ true)) ⊎ (Clear t.parent b x × (above t.births t.parent b x ≡ false))
          → AboveCases b x
      go (inl o) = inl (path-below b (N.ends x lx) o.0, o.1)
      go (inr o) = inr o

  pub above-clear : (b x : ℕ) → t.live x ≡ true → above t.births t.parent b x ≡ false → Clear t.parent b x
  above-clear b x lx e = go (gone-cases b x lx)
    where
      go : AboveCases b x → Clear t.parent b x
      go (inl o) = absurd (true≢false (sym o.1 ∙ e))
      go (inr o) = o.0

  pub clear_above : (b x : ℕ) → t.live x ≡ true → Clear t.parent b x → above t.births t.parent b x ≡ false
  clear_above b x lx c = go (gone-cases b x lx)
    where
      go : AboveCases b x → above t.births t.parent b x ≡ false
      go (inl o) = absurd (clear-below c o.0)
      go (inr o) = o.1
