-- `structure::root::check_root_element` meets its contract.
-- Assumes nothing.
use Rattle.structure.proofs.RootElement.{root-live, root-inside, root-listed, root-elements}
use Rattle.structure.proofs.root.check_root_element.Goals as goal

pub block_of-block-requires : goal.block_of-block-requires
block_of-block-requires c =
    let v = c.args.view.now in
    root-live v.document v.words.now c.requires.0

pub block_words-entries-requires : goal.block_words-entries-requires
block_words-entries-requires c =
    let v = c.args.view.now in
    root-inside v.document v.words.now c.requires.0 c.block_of-block.result c.block_of-block.ensures v.fits c.requires.1

pub count_elements-requires : goal.count_elements-requires
count_elements-requires c =
    let v = c.args.view.now in
    rw c.block_words-entries.ensures (root-listed v.document v.words.now c.requires.0 c.block_of-block.result c.block_of-block.ensures c.requires.2)

pub returns : goal.returns
returns c =
    let v = c.args.view.now in
    root-elements v.document v.words.now c.requires.0 c.block_of-block.result c.block_of-block.ensures _ (rw c.block_words-entries.ensures at c.count_elements.ensures)
