-- `structure::each::owner_holds` meets its contract.
-- Assumes nothing.
use mathlib.Core.Path.{◌∙◌}
use Rattle.entries.specs.View.{decoded_nodes}
use Rattle.structure.proofs.Owners.{owner-held, owner-none}
use Rattle.structure.proofs.each.owner_holds.Goals as goal

pub returns-then-is_only_root : goal.returns-then-is_only_root
returns-then-is_only_root c =
    let v = c.args.nodes.now.view in
    owner-held (decoded_nodes v) c.args.s c.requires _ c.is_only_root.ensures c.if-is_only_root.true _ c.parent_fits.ensures

pub returns-else-is_only_root : goal.returns-else-is_only_root
returns-else-is_only_root c =
    let v = c.args.nodes.now.view in
    c.if-is_only_root.false ∙ owner-none (decoded_nodes v) c.args.s c.requires _ c.is_only_root.ensures c.if-is_only_root.false
