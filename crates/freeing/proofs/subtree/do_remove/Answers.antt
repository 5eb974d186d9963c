-- `freeing::subtree::do_remove` meets its contract.
-- Assumes nothing.
use mathlib.Core.Path.{◌∙◌}
use lib.ListN.{length}
use Rattle.records.specs.Handles.{word_of}
use Rattle.freeing.proofs.Removed.{node-hooked, alone-freeable, node-removed}
use Rattle.freeing.proofs.subtree.do_remove.Goals as goal

pub unhook-requires : goal.unhook-requires
unhook-requires c =
    let a = c.args in
    node-hooked a.lent.now.document a.lent.now.words.now a.lent.now.fits c.requires.1 (word_of a.id) c.requires.2

pub free_subtree-requires : goal.free_subtree-requires
free_subtree-requires c =
    let a = c.args in
    let alone = c.unhook in
    alone-freeable a.lent.now.document a.lent.now.words.now a.lent.now.fits c.requires.1 (word_of a.id) c.requires.2 alone.new.lent.document _ alone.ensures.step (length a.scratch.now) c.requires.0

pub returns : goal.returns
returns c =
    let a = c.args in
    let alone = c.unhook in
    let freed = c.free_subtree in
    record {
      step = node-removed a.lent.now.document a.lent.now.words.now a.lent.now.fits c.requires.1 (word_of a.id) c.requires.2 alone.new.lent.document _ alone.ensures.step freed.new.lent.document _ freed.ensures.step;
      reference = freed.ensures.reference ∙ alone.ensures.reference;
    }
