-- `names::interning::same_name` meets its contract: the local part is compared where the namespace is the same.
-- Assumes nothing.
use mathlib.Core.Path.{◌≡◌, sym, ◌∙◌}
use mathlib.Core.Bool.{Bool, true, false, ◌&&◌}
use mathlib.Core.List.{List}
use Prim.Native.Nat.{ℕ, ◌-◌}
use lib.ListN.{take, drop}
use Rattle.words.specs.Parts.{part}
use Rattle.words.specs.Pieces.{same_bytes}
use Rattle.words.proofs.Bytes.{same_bytes-comm}
use Rattle.names.proofs.interning.same_name.Goals as goal

module _ (words namespace local : List ℕ) (at middle end : ℕ) (r : Bool) (e : r ≡ same_bytes (take (middle - at) (drop at words)) namespace) where
  first : r ≡ same_bytes namespace (part at (middle - at) words)
  unfolding part
  first = e ∙ same_bytes-comm (take (middle - at) (drop at words)) namespace

  both : (s : Bool) → r ≡ true → s ≡ same_bytes (take (end - middle) (drop middle words)) local
      → s ≡ (same_bytes namespace (part at (middle - at) words) && same_bytes local (part middle (end - middle) words))
  unfolding part
  both s t f =
      let a : same_bytes namespace (part at (middle - at) words) ≡ true = sym first ∙ t in
      rw a (f ∙ same_bytes-comm (take (end - middle) (drop middle words)) local)

  other : r ≡ false → r ≡ (same_bytes namespace (part at (middle - at) words) && same_bytes local (part middle (end - middle) words))
  other t =
      let a : same_bytes namespace (part at (middle - at) words) ≡ false = sym first ∙ t in
      rw a t

pub returns-then-same_bytes : goal.returns-then-same_bytes
returns-then-same_bytes c =
    let a = c.args in
    both a.words.now a.name.namespace.now a.name.local.now a.at a.middle a.end _ c.same_bytes.ensures _ c.if-same_bytes.true c.same_bytes-then-same_bytes.ensures

pub returns-else-same_bytes : goal.returns-else-same_bytes
returns-else-same_bytes c =
    let a = c.args in
    other a.words.now a.name.namespace.now a.name.local.now a.at a.middle a.end _ c.same_bytes.ensures c.if-same_bytes.false
