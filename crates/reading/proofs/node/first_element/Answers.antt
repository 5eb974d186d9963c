-- `reading::node::first_element` meets its contract.
-- Assumes nothing.
use mathlib.Core.Path.{ap, ◌∙◌}
use Rattle.words.specs.Lists.{find}
use Rattle.model.specs.Doc.{shows_element}
use Rattle.model.specs.Calls.{node}
use Rattle.memory.specs.View.{decoded}
use Rattle.reading.proofs.Elements.{found-here, found-later}
use Rattle.reading.proofs.node.first_element.Goals as goal

pub returns-then-shows_element : goal.returns-then-shows_element
returns-then-shows_element c =
    let p = shows_element (decoded c.args.view.now) in
    ap node (found-here p _ _ c.loop-word.invariant c.loop-word-test.true _ c.from-id.ensures _ c.shows_element.ensures c.if-shows_element.true ∙ ap (find p) c.block_words-word-items.ensures)

pub loop-word-preserved : goal.loop-word-preserved
loop-word-preserved c =
    found-later (shows_element (decoded c.args.view.now)) _ _ c.loop-word.invariant c.loop-word-test.true _ c.from-id.ensures _ c.shows_element.ensures c.if-shows_element.false
