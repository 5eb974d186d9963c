-- `reading::list::list` meets its contract.
-- Assumes nothing.
use Rattle.std.specs.Prelude.{Ok}
use Rattle.records.specs.Handles.{word_of}
use Rattle.layout.specs.Layout.{which_of}
use Rattle.reading.specs.Answers.{of_list}
use Rattle.reading.proofs.Tested.{decoded-reads}
use Rattle.reading.proofs.Listed.{list-shown}
use Rattle.reading.proofs.list.list.Goals as goal

pub returns : goal.returns
returns c =
    let a = c.args in
    let v = c.in_ok-view.view in
    decoded-reads v a.d a.mem.now (λ d mem. of_list d mem (which_of a.arena) (Ok c.shown_block.result)) _ c.in_ok-view.ensures
    (list-shown v.document v.words.now (word_of a.id) (which_of a.arena) _ c.shown_block.ensures)
