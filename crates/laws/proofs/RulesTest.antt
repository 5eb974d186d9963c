-- The test passes exactly when the eight structure rules hold: Damaged is answered exactly when a rule is broken.
-- Assumes nothing.
use mathlib.Core.Path.{◌≡◌}
use mathlib.Core.Bool.{true}
use Rattle.words.proofs.Tests.{and_left, and_right}
use Rattle.model.specs.Doc.{Doc}
use Rattle.model.specs.Rules.{Shape, Rules}
use Rattle.model.specs.RulesTest.{eight_hold, rules_hold}
use Rattle.laws.proofs.RulesTestFields.{fields-of-test, test-of-fields, free-list-of-test, test-of-free-list}
use Rattle.laws.proofs.RulesTestEntries.{parents-of-test, test-of-parents, entries-of-test, test-of-entries, one-element-of-test, test-of-one-element}
use Rattle.laws.proofs.RulesTestBlocks.{blocks-of-test, test-of-blocks}
use Rattle.laws.proofs.RulesTestPaths.{ends-of-test, test-of-ends}
use Rattle.laws.proofs.RulesTestTexts.{texts-of-test, test-of-texts}

pub rules-of-test : (d : Doc) → Shape d → rules_hold d ≡ true → Rules d
unfolding rules_hold eight_hold
rules-of-test d F h = record {
  fields = fields-of-test d (search (and_left, and_right) depth 8);
  free_list = free-list-of-test d (search (and_left, and_right) depth 8);
  parents = parents-of-test d (search (and_left, and_right) depth 8);
  entries = entries-of-test d (search (and_left, and_right) depth 8);
  blocks = blocks-of-test d F (search (and_left, and_right) depth 8);
  parents_end = ends-of-test d (search (and_left, and_right) depth 8);
  one_root_element = one-element-of-test d (search (and_left, and_right) depth 8);
  texts = texts-of-test d (search (and_left, and_right) depth 8);
}

pub test-of-rules : (d : Doc) → Rules d → rules_hold d ≡ true
unfolding rules_hold eight_hold
test-of-rules d R =
    rw (
      test-of-fields d R.fields,
      test-of-free-list d R.free_list,
      test-of-parents d R.parents,
      test-of-entries d R.entries,
      test-of-blocks d R.blocks,
      test-of-ends d R.parents R.parents_end,
      test-of-one-element d R.one_root_element,
      test-of-texts d R.texts,
    )
