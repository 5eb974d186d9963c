-- `memory::view::View::name_table` meets its contract.
-- Assumes nothing.
use Rattle.memory.proofs.PoolAndTable.{names-length}
use Rattle.memory.proofs.view.View.name_table.Goals as goal

pub invariant_of-result : goal.invariant_of-result
invariant_of-result c =
    record { sized = names-length c.args.self.now.document c.args.self.now.words.now c.name_limits.result _ c.name_limits.ensures c.names_words.ensures c.args.self.now.fits }
