-- A walk with a stack that meets each node once, with the list of what it visited.
-- Assumes nothing.
use Rattle.std.proofs.lemmas.Option.{same_Some}
use Rattle.std.specs.Prelude.{Option, Some}
use mathlib.Core.Path.{◌≡◌, refl, sym, ◌∙◌, subst}
use mathlib.Core.Logic.{◌⊎◌, inl, inr}
use mathlib.Core.Bool.{Bool, true, false, cond}
use mathlib.Core.List.{List, [], ◌∷◌, ◌++◌, Memᴰ}
use Prim.Native.Nat.{ℕ, ◌+◌, ◌≤◌, ◌<◌}
use native.Mathlib.Omega.{arith}
use native.Mathlib.Decide.{ℕ_discrete, dec_lt}
use lib.Dec.{eqb}
use borrow.Author.Tests.{eq-eqb, ne_eqb}
use Rattle.words.specs.Lists.{count_of}
use Rattle.words.proofs.Lists.{count_of-append}
use Rattle.laws.proofs.Basics.{count-mem}
use Rattle.laws.proofs.Counting.{count-once}
use Rattle.walks.proofs.Visits.{Nest}

one-most : (t : Bool) → cond {A = ℕ} t 1 0 ≤ 1
one-most true = omega arith
one-most false = omega arith

here-one : (x : ℕ) → cond {A = ℕ} (eqb x x) 1 0 ≡ 1
here-one x = rw (eq-eqb x x refl)

only_one : (y x : ℕ) → 0 < cond {A = ℕ} (eqb y x) 1 0 → y ≡ x
only_one y x h = go (ℕ_discrete y x)
  where
    go : Dec (y ≡ x) → y ≡ x
    go (yes e) = e
    go (no n) =
        let z : cond {A = ℕ} (eqb y x) 1 0 ≡ 0 = rw (ne_eqb y x n) in
        absurd (omega arith)

module _ (next : ℕ → List ℕ) (Live : ℕ → Type 0) (parent : ℕ → Option ℕ) (top : ℕ) where
  -- what was visited and what is on the stack, in all no node twice; each but the top was pushed after its parent was visited
  pub record Met (done stack : List ℕ) : Type 0 where
    pub once : (y : ℕ) → count_of (eqb y) done + count_of (eqb y) stack ≤ 1
    pub live : (y : ℕ) → 0 < count_of (eqb y) done + count_of (eqb y) stack → Live y
    pub pushed : (y : ℕ) → 0 < count_of (eqb y) done + count_of (eqb y) stack → (y ≡ top) ⊎ ((p : ℕ) × (0 < count_of (eqb p) done) × (parent y ≡ Some p))

  pub met-first : Nest next Live parent top → Met [] (top ∷ [])
  met-first n = record {
    once = λ y. omega (arith, one-most (eqb y top));
    live = λ y h. subst Live (sym (only_one y top (omega arith))) n.first;
    pushed = λ y h. inl (only_one y top (omega arith));
  }

  module _ (n : Nest next Live parent top) (done s : List ℕ) (x : ℕ) (m : Met done (x ∷ s)) where
    lx : Live x
    lx = m.live x (omega (arith, here-one x))

    -- what follows x was not met before
    record New (y : ℕ) : Type 0 where
      pub fresh : count_of (eqb y) done + count_of (eqb y) (x ∷ s) ≡ 0
      pub alive : Live y
      pub under : parent y ≡ Some x
      pub single : count_of (eqb y) (next x) ≡ 1

    new : (y : ℕ) → 0 < count_of (eqb y) (next x) → New y
    new y h = record { fresh = fresh (dec_lt 0 (count_of (eqb y) done + count_of (eqb y) (x ∷ s))); alive = k.0; under = k.1; single = count-once y (next x) (n.once x lx) q }
      where
        q : Memᴰ y (next x)
        q = count-mem y (next x) h

        k : Live y × (parent y ≡ Some x) × (y ≡ top → ⊥)
        k = n.child x y lx q

        visited-once : (p : ℕ) → 0 < count_of (eqb p) done → p ≡ x → ⊥
        visited-once p h e = let z = subst (λ (j : ℕ). 0 < count_of (eqb j) done) e h in omega (arith, m.once x, here-one x)

        go : (y ≡ top) ⊎ ((p : ℕ) × (0 < count_of (eqb p) done) × (parent y ≡ Some p)) → ⊥
        go (inl e) = k.2 e
        go (inr o) = visited-once o.0 o.1 (same_Some o.0 x (sym o.2 ∙ k.1))

        fresh : Dec (0 < count_of (eqb y) done + count_of (eqb y) (x ∷ s)) → count_of (eqb y) done + count_of (eqb y) (x ∷ s) ≡ 0
        fresh (yes b) = absurd (go (m.pushed y b))
        fresh (no b) = omega arith

    -- what was met: what follows x, and what was met before
    sums : (y : ℕ) → count_of (eqb y) (done ++ (x ∷ [])) + count_of (eqb y) (next x ++ s) ≡ count_of (eqb y) (next x) + (count_of (eqb y) done + count_of (eqb y) (x ∷ s))
    sums y = omega (arith, count_of-append (eqb y) done (x ∷ []), count_of-append (eqb y) (next x) s)

    pub met_next : Met (done ++ (x ∷ [])) (next x ++ s)
    met_next = record { once = λ y. once y (dec_lt 0 (count_of (eqb y) (next x))); live = λ y h. live y (dec_lt 0 (count_of (eqb y) (next x))) h; pushed = λ y h. pushed y (dec_lt 0 (count_of (eqb y) (next x))) h }
      where
        once : (y : ℕ) → Dec (0 < count_of (eqb y) (next x)) → count_of (eqb y) (done ++ (x ∷ [])) + count_of (eqb y) (next x ++ s) ≤ 1
        once y (yes h) = let o = new y h in omega (arith, sums y, o.fresh, o.single)
        once y (no h) = omega (arith, sums y, m.once y)

        live : (y : ℕ) → Dec (0 < count_of (eqb y) (next x)) → 0 < count_of (eqb y) (done ++ (x ∷ [])) + count_of (eqb y) (next x ++ s) → Live y
        live y (yes h) b = (new y h).alive
        live y (no h) b = m.live y (omega (arith, sums y))

        kept : (y : ℕ) → (y ≡ top) ⊎ ((p : ℕ) × (0 < count_of (eqb p) done) × (parent y ≡ Some p)) → (y ≡ top) ⊎ ((p : ℕ) × (0 < count_of (eqb p) (done ++ (x ∷ []))) × (parent y ≡ Some p))
        kept y (inl e) = inl e
        kept y (inr o) = inr (o.0, (let b = o.1 in omega (arith, count_of-append (eqb o.0) done (x ∷ []))), o.2)

        pushed : (y : ℕ) → Dec (0 < count_of (eqb y) (next x)) → 0 < count_of (eqb y) (done ++ (x ∷ [])) + count_of (eqb y) (next x ++ s)
            → (y ≡ top) ⊎ ((p : ℕ) × (0 < count_of (eqb p) (done ++ (x ∷ []))) × (parent y ≡ Some p))
        pushed y (yes h) b = inr (x, omega (arith, count_of-append (eqb x) done (x ∷ []), here-one x), (new y h).under)
        pushed y (no h) b = kept y (m.pushed y (omega (arith, sums y)))
