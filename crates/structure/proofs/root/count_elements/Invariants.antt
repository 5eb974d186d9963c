use mathlib.Core.Path.{◌≡◌}
use lib.ListN.{take}
use Rattle.words.specs.Lists.{count_of}
use Rattle.entries.specs.View.{decoded_nodes}
use Rattle.structure.specs.Tests.{element_test}
use Rattle.structure.proofs.root.count_elements.Given as goal

abbrev pub invariant-loop-word : goal.invariant-loop-word
invariant-loop-word l = l.count ≡ count_of (element_test (decoded_nodes l.view)) (take l.word-index l.entries)
