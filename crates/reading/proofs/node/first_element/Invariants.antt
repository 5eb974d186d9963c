use mathlib.Core.Path.{◌≡◌}
use lib.ListN.{drop}
use Rattle.words.specs.Lists.{find}
use Rattle.model.specs.Doc.{shows_element}
use Rattle.memory.specs.View.{decoded}
use Rattle.reading.proofs.node.first_element.Given as goal

abbrev pub invariant-loop-word : goal.invariant-loop-word
invariant-loop-word l = find (shows_element (decoded l.view)) l.word-items ≡ find (shows_element (decoded l.view)) (drop l.word-index l.word-items)
