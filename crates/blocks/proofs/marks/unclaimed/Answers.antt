-- `blocks::marks::unclaimed` meets its contract.
-- Assumes nothing.
use mathlib.Core.Path.{◌≡◌, ap, ◌∙◌}
use mathlib.Core.List.{List}
use Prim.Native.Nat.{ℕ, ◌-◌}
use native.Mathlib.Omega.{arith}
use lib.ListN.{length, take, drop, length-drop}
use lib.Seq.{take_all}
use lib.Dec.{eqb}
use Rattle.std.specs.List.{slice_range}
use Rattle.words.specs.Parts.{part}
use Rattle.words.specs.Lists.{all}
use Rattle.blocks.proofs.Claimable.{claimable-within, claimable-beyond}
use Rattle.blocks.proofs.marks.unclaimed.Goals as goal

-- the first n of the words behind index s
read : (m behind entries : List ℕ) (s n : ℕ) → behind ≡ slice_range m s (length m) → entries ≡ slice_range behind 0 n → entries ≡ part s n m
unfolding part
read m behind entries s n e q =
    let z : n - 0 ≡ n = omega arith in
    q ∙ ap (λ (i : ℕ). take i behind) z ∙ ap (take n) (e ∙ take_all (length m - s) (drop s m) (omega (arith, length-drop s m)))

pub returns-in_default : goal.returns-in_default
returns-in_default c = claimable-beyond _ _ _ (omega (arith, c.in_default.ensures.lookup.0))

pub returns-in-None : goal.returns-in-None
returns-in-None c = claimable-beyond _ _ _ (omega (arith, c.in-Some.ensures.lookup.0, c.in-None.ensures.lookup.0))

pub returns-in-Some-get : goal.returns-in-Some-get
returns-in-Some-get c =
    let behind = c.in-Some.ensures.lookup.0 in
    let entries = c.in-Some-get.ensures.lookup.0 in
    claimable-within _ _ _ (omega (arith, behind, entries)) _ (c.all_zero.ensures ∙ ap (all (eqb 0)) (read c.args.marks.now c.in-Some.behind.now _ c.args.start c.args.capacity behind.2 entries.2))
