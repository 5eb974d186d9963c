-- `edits::moves::detach_node` meets its contract.
-- Assumes nothing.
use Rattle.records.specs.Handles.{word_of}
use Rattle.edits.proofs.Moving.{admitted-hooked, detach-performed}
use Rattle.edits.proofs.moves.detach_node.Goals as goal

pub unhook-requires : goal.unhook-requires
unhook-requires c = admitted-hooked c.args.lent.now.document c.args.lent.now.words.now (word_of c.args.id) c.requires

pub returns : goal.returns
returns c =
    let w = c.unhook in
    record { performed = detach-performed c.args.lent.now.document c.args.lent.now.words.now (word_of c.args.id) c.requires w.new.lent.document _ w.ensures.step; reference = w.ensures.reference }
