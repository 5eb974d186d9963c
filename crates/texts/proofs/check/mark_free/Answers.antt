-- `texts::check::mark_free` meets its contract. After k turns the first k entries are counted.
-- Assumes nothing.
use Rattle.std.proofs.Common.{◌≡◌, List, ℕ, ◌+◌, ◌-◌, ◌≤◌, ◌<◌, length, get_or, set, take, drop, sym, ap, ◌∙◌, add-one, arith}
use lib.Seq.{take-suc, take_all, length-take-le}
use lib.Dec.{eqb}
use Rattle.words.specs.Parts.{part}
use Rattle.words.proofs.Parts.{lent}
use Rattle.words.proofs.Lists.{count_of-le}
use Rattle.texts.specs.Words.{Markable, marked}
use Rattle.texts.proofs.Lists.{length_marked, marked-at, marked-snoc}
use Rattle.texts.proofs.check.mark_free.Goals as goal

module _ (l marks₀ : List ℕ) (p n : ℕ) (m : Markable (part p n l) marks₀) where
  -- the stack, as the loop reads it
  abbrev stack : List ℕ
  stack = take (p + n - p) (drop p l)

  done : (marks : List ℕ) (k : ℕ) → length stack ≤ k → marks ≡ marked (take k stack) marks₀ → marks ≡ marked (part p n l) marks₀
  done marks k h e = e ∙ ap (λ (r : List ℕ). marked r marks₀) (take_all k stack h ∙ lent l p n)

  module _ (marks : List ℕ) (k : ℕ) (h : k < length stack) (inv : marks ≡ marked (take k stack) marks₀) where
    held : Markable stack marks₀
    held = rw (lent l p n) m

    here : get_or stack k 0 < length marks
    here = omega (arith, held.inside k h, ap length inv ∙ length_marked (take k stack) marks₀)

    fits : get_or marks (get_or stack k 0) 0 + 1 < 18446744073709551616
    fits =
        let s : ℕ = get_or stack k 0 in
        let e : get_or marks s 0 ≡ get_or (marked (take k stack) marks₀) s 0 = ap (λ (r : List ℕ). get_or r s 0) inv in
        omega (arith, e, marked-at (take k stack) marks₀ s (held.inside k h), count_of-le (eqb s) (take k stack), length-take-le k stack (omega arith), held.small s)

    turn : set marks (get_or stack k 0) (get_or marks (get_or stack k 0) 0 + 1) ≡ marked (take (k + 1) stack) marks₀
    turn = rw (inv, add-one k) (sym (ap (λ (r : List ℕ). marked r marks₀) (take-suc stack k 0 h) ∙ marked-snoc (take k stack) marks₀ (get_or stack k 0)))

pub offset_bounds-marks-slot : goal.offset_bounds-marks-slot
offset_bounds-marks-slot c =
    let loop = c.loop-slot in
    omega (arith, here _ _ _ _ c.requires.markable _ _ c.loop-slot-test.true loop.invariant)

pub bounds-marks-slot : goal.bounds-marks-slot
bounds-marks-slot c = here _ _ _ _ c.requires.markable _ _ c.loop-slot-test.true c.loop-slot.invariant

pub overflow_add-marks : goal.overflow_add-marks
overflow_add-marks c = omega (arith, fits _ _ _ _ c.requires.markable _ _ c.loop-slot-test.true c.loop-slot.invariant)

pub bounds-marks-slot-in-loop-slot : goal.bounds-marks-slot-in-loop-slot
bounds-marks-slot-in-loop-slot c = here _ _ _ _ c.requires.markable _ _ c.loop-slot-test.true c.loop-slot.invariant

pub loop-slot-preserved : goal.loop-slot-preserved
loop-slot-preserved c = turn _ _ _ _ c.requires.markable _ _ c.loop-slot-test.true c.loop-slot.invariant

pub returns : goal.returns
returns c = done _ _ _ _ c.requires.markable _ _ c.loop-slot-test.false c.loop-slot.invariant
