use mathlib.Core.Path.{◌≡◌}
use Prim.Native.Nat.{◌-◌, ◌*◌}
use lib.ListN.{length}
use Rattle.memory.specs.Decode.{slots_made}
use Rattle.walks.proofs.Renewing.{Renewing}
use Rattle.walks.proofs.order.number_tree.Given as goal

-- the lent memory stays that of the record, under the name that it was lent by
abbrev pub invariant-loop-word : goal.invariant-loop-word
invariant-loop-word l = record {
  record_is : l.lent.document ≡ l.initial.lent.document;
  turn : Renewing l.initial.lent.document l.initial.lent.words.now (length l.fn.words) l.lent.words.now l.stack l.key;
  reference : l.lent.words.ghost_name ≡ l.initial.lent.words.ghost_name;
}

-- each turn gives a key at least, and 524,289 at most
abbrev pub decreases-loop-word : goal.decreases-loop-word
decreases-loop-word l = slots_made l.lent.document * 524289 - l.key
