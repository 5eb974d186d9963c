-- `compaction::rebuild::replace_blocks` meets its contract.
-- Assumes nothing.
use Rattle.layout.specs.Layout.{which_of}
use Rattle.compaction.proofs.Replacing.{blocks-replaced}
use Rattle.compaction.proofs.rebuild.replace_blocks.Goals as goal

pub returns : goal.returns
returns c =
    let l = c.args.lent.now in
    let put = c.replace_blocks.ensures in
    record { record_is = put.record_is; words_are = blocks-replaced l.document (which_of c.args.arena) l.words.now c.args.used _ c.of.ensures _ put.words_are; reference = put.reference }
