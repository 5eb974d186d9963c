-- `memory::view::View::text_pool` meets its contract.
-- Assumes nothing.
use Rattle.memory.proofs.PoolAndTable.{texts-length}
use Rattle.memory.proofs.view.View.text_pool.Goals as goal

pub invariant_of-result : goal.invariant_of-result
invariant_of-result c =
    record { sized = texts-length c.args.self.now.document c.args.self.now.words.now c.text_limits.result _ c.text_limits.ensures c.texts_words.ensures c.args.self.now.fits }
