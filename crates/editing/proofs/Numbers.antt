-- A refusal's number tells the answer.
-- Assumes nothing.
use mathlib.Core.Path.{◌≡◌, sym, ap, ◌∙◌}
use Prim.Native.Nat.{ℕ}
use native.Mathlib.Omega.{arith}
use Rattle.model.specs.Refusals.{number_of}
use Rattle.model.specs.declared.Refusal.{Refusal}
use Rattle.model.specs.Arguments.{first}
use Rattle.model.specs.Calls.{Answered, refused, done, made, truth, node, listed, every_node, kind_is, name_is, key, keys}
use Rattle.verdicts.specs.Verdicts.{refusal_number}
use Rattle.verdicts.proofs.Verdicts.{refused_first}

-- no refusal's number is 0
pub never-zero : {P : Type 0} → (w : Refusal) → number_of w ≡ 0 → P
never-zero w e =
    let z : ◌≡◌ {A = ℕ} 1 0 = ap (λ (n : ℕ). first n 1) (sym e) ∙ refused_first w 1 ∙ e in
    absurd (omega arith)

abbrev pub refusing : ℕ → Answered
refusing n = refused n

pub refused_as : (w : Refusal) (a : Answered) → number_of w ≡ refusal_number a → refused (number_of w) ≡ a
refused_as w (refused n) e = ap refusing e
refused_as w done e = never-zero w e
refused_as w (made h) e = never-zero w e
refused_as w (truth b) e = never-zero w e
refused_as w (node h) e = never-zero w e
refused_as w (listed r l) e = never-zero w e
refused_as w (every_node l) e = never-zero w e
refused_as w (kind_is k a n) e = never-zero w e
refused_as w (name_is n) e = never-zero w e
refused_as w (key k) e = never-zero w e
refused_as w (keys l) e = never-zero w e
