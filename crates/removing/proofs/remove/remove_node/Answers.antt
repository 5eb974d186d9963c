-- `removing::remove::remove_node` meets its contract.
-- Assumes nothing.
use mathlib.Core.Path.{◌≡◌, ap, ◌∙◌}
use Prim.Native.Nat.{ℕ}
use lib.ListN.{length, replicate}
use borrow.Author.Rules.{rules}
use Rattle.removing.proofs.remove.remove_node.Goals as goal

pub do_remove-requires : goal.do_remove-requires
do_remove-requires c = (c.requires.scratch_value, c.requires.rules, c.requires.id_value.0, c.requires.id_value.1)

pub returns : goal.returns
returns c =
    let e : length c.do_remove.new.scratch ≡ length c.args.scratch.now = search rules in
    record { step = c.do_remove.ensures; scratch_after = c.fill.ensures.after (λ y k. k) ∙ ap (λ (n : ℕ). replicate n 0) e }
