-- A pass over a text: what the rule finds in the whole is what it finds in what is left, from the state it has.
-- Assumes nothing.
use mathlib.Core.Path.{◌≡◌, refl, sym, ap, ◌∙◌}
use mathlib.Core.List.{List}
use Prim.Native.Nat.{ℕ, ◌+◌, ◌≤◌, ◌<◌}
use lib.ListN.{length, drop}
use Rattle.std.specs.Prelude.{Some, None, Ok, Err, Option}
use Rattle.chars.specs.declared.Point.{Point}
use Rattle.chars.specs.declared.Rule.{Rule}
use Rattle.chars.specs.declared.State.{State}
use Rattle.chars.specs.declared.State.TheVariants.{Start}
use Rattle.chars.specs.Utf8.{step_at, follows, decode}
use Rattle.chars.specs.Scan.{turn, may_end, verdict_after}
use Rattle.chars.proofs.Decoding.{decode-point, decode-bad, decode-end}

turn_more : (rule : Rule) (s : State) (code : ℕ) (o : Option (List ℕ)) → verdict_after rule s (follows code o) ≡ verdict_after rule (turn rule s code) o
unfolding verdict_after
turn_more rule s code None = refl
turn_more rule s code (Some l) = refl

module _ (l : List ℕ) (rule : Rule) (s : State) (i : ℕ) (left : verdict_after rule Start (decode l) ≡ verdict_after rule s (decode (drop i l))) where
  pub turned_left : i < length l → (p : Point) → step_at l i ≡ Some p → (t : State) → t ≡ turn rule s p.code → (j : ℕ) → j ≡ i + 1 + p.more
      → verdict_after rule Start (decode l) ≡ verdict_after rule t (decode (drop j l))
  turned_left h p e t g j ej =
      left
      ∙ ap (verdict_after rule s) (decode-point l i p h e)
      ∙ turn_more rule s p.code (decode (drop (i + 1 + p.more) l))
      ∙ ap (λ (u : State). verdict_after rule u (decode (drop (i + 1 + p.more) l))) (sym g)
      ∙ ap (λ (k : ℕ). verdict_after rule t (decode (drop k l))) (sym ej)

  pub bad-left : i < length l → step_at l i ≡ None → Err (record {}) ≡ verdict_after rule Start (decode l)
  unfolding verdict_after
  bad-left h e = sym (left ∙ ap (verdict_after rule s) (decode-bad l i h e))

  pub nothing_left : length l ≤ i → Ok (may_end rule s) ≡ verdict_after rule Start (decode l)
  unfolding verdict_after
  nothing_left h = sym (left ∙ ap (verdict_after rule s) (decode-end l i h))
