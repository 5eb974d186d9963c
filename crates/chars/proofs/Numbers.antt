-- The numbers of a text whose units may be bytes or words.
-- Assumes nothing.
use mathlib.Core.Path.{◌≡◌, sym, ap, ◌∙◌}
use mathlib.Core.List.{List, map}
use Prim.Native.Nat.{ℕ, ◌-◌}
use lib.ListN.{length, take, drop, get_or, length-map}
use Rattle.std.proofs.lemmas.List.{take_rest}
use Rattle.words.proofs.Lists.{map-drop}
use Rattle.chars.specs.Utf8.{Step, step, step_at}
use Rattle.chars.proofs.Steps.{step-there}
use Rattle.chars.proofs.Decoding.{step_at-drop}

module _ {U : Type 0} (number : U → ℕ) (numbers : List U → List ℕ) (each : (l : List U) → map number l ≡ numbers l) where
  pub numbers-length : (l : List U) → length (numbers l) ≡ length l
  numbers-length l = ap length (sym (each l)) ∙ length-map l number

  numbers-drop : (i : ℕ) (l : List U) → numbers (drop i l) ≡ drop i (numbers l)
  numbers-drop i l = sym (each (drop i l)) ∙ map-drop number i l ∙ ap (drop i) (each l)

  -- what is left from i on, as a range reads it
  rest : (i : ℕ) (l : List U) → numbers (take (length l - i) (drop i l)) ≡ drop i (numbers l)
  rest i l = ap numbers (take_rest l i) ∙ numbers-drop i l

  pub step-left : (l : List U) (i a b c d : ℕ) (s : Step) → (r : List U) → r ≡ take (length l - i) (drop i l)
      → a ≡ get_or (numbers r) 0 0 → b ≡ get_or (numbers r) 1 0 → c ≡ get_or (numbers r) 2 0 → d ≡ get_or (numbers r) 3 0
      → s ≡ step a b c d → s ≡ step_at (numbers l) i
  step-left l i a b c d s r er ea eb ec ed e =
      step-there (numbers r) 0 a b c d s ea eb ec ed e
      ∙ ap (λ (k : List ℕ). step_at k 0) (ap numbers er ∙ rest i l)
      ∙ step_at-drop (numbers l) i
