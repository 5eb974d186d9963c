-- `reading::node::root_element` meets its contract.
-- Assumes nothing.
use Rattle.model.specs.Calls.{node}
use Rattle.memory.specs.Decode.{block_of, handle_of}
use Rattle.reading.proofs.Tested.{decoded-reads}
use Rattle.reading.proofs.Elements.{root-shown}
use Rattle.reading.proofs.node.root_element.Goals as goal

pub returns : goal.returns
returns c =
    let v = c.in_ok-view.view in
    decoded-reads v c.args.d c.args.mem.now (λ d mem. node (handle_of c.first_element.result)) _ c.in_ok-view.ensures
    (root-shown v.document v.words.now (block_of c.shown_block-block.result) _ c.shown_block-block.ensures c.first_element.ensures)
