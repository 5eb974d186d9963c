-- Bools that say the same, tests one after another, and cleared words.
-- Assumes nothing.
use mathlib.Core.Path.{◌≡◌, refl, sym, ap, ◌∙◌}
use mathlib.Core.Bool.{Bool, true, false, ◌&&◌, false≢true}
use mathlib.Core.List.{List}
use Prim.Native.Nat.{ℕ}
use lib.ListN.{length, replicate, length-replicate}

-- cleared words, as long as they are
pub cleared : (m m' : List ℕ) → m' ≡ replicate (length m) 0 → m' ≡ replicate (length m') 0
cleared m m' e = e ∙ ap (λ (n : ℕ). replicate n 0) (sym (ap length e ∙ length-replicate (length m) 0))

-- two tests that follow from one another are one
pub both_ways : (a b : Bool) → (a ≡ true → b ≡ true) → (b ≡ true → a ≡ true) → a ≡ b
both_ways true b f g = sym (f refl)
both_ways false true f g = absurd (false≢true (g refl))
both_ways false false f g = refl

-- ---- tests one after another: a test that failed ends them, the last decides

module _ (a b t r : Bool) (e : t ≡ a) where
  pub ended : t ≡ false → false ≡ (a && b)
  ended q = sym (ap (λ (x : Bool). x && b) (sym e ∙ q))

  pub decided : t ≡ true → r ≡ b → r ≡ (a && b)
  decided q f = f ∙ sym (ap (λ (x : Bool). x && b) (sym e ∙ q))

-- and where there are three
module _ (a b c t u r : Bool) (e : t ≡ a) (q : t ≡ true) (f : u ≡ b) where
  pub ended-second : u ≡ false → false ≡ (a && b && c)
  ended-second p = ended (a && b) c u true (decided a b t u e q f) p

  pub decided-third : u ≡ true → r ≡ c → r ≡ (a && b && c)
  decided-third p g = decided (a && b) c u r (decided a b t u e q f) p g

pub ended-first : (a b c t : Bool) → t ≡ a → t ≡ false → false ≡ (a && b && c)
ended-first a b c t e q = ap (λ (x : Bool). x && c) (ended a b t true e q)
