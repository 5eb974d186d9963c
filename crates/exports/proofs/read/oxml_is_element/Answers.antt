-- `exports::read::oxml_is_element` meets its contract.
-- Assumes nothing.
use lib.ListN.{length}
use Prim.Native.Nat.{ℕ}
use Rattle.model.specs.Calls.{is-element}
use Rattle.encoding.specs.Given.{truth_words}
use Rattle.exports.specs.Contract.{as_truth}
use Rattle.encoding.proofs.Records.{whole}
use Rattle.exports.proofs.Reading.{tells-truth, read_word, read_short, shows}
use Rattle.exports.proofs.read.oxml_is_element.Goals as goal

pub give_truth-requires : goal.give_truth-requires
give_truth-requires c =
    (whole c.args.document.now (length c.args.answer.now) 1 _ _ c.lent_record.ensures c.in-Some.is).enough

pub returns-in_default : goal.returns-in_default
returns-in_default c =
    rw c.refused.ensures (read_short (is-element c.args.id) 1 as_truth c.args.document.now c.args.memory.now c.args.answer.now _ c.lent_record.ensures c.in_default.is)

pub returns : goal.returns
returns c =
    shows (is-element c.args.id) 1 as_truth c.args.document.now c.args.memory.now c.args.answer.now c.in-Some.d (whole c.args.document.now (length c.args.answer.now) 1 _ _ c.lent_record.ensures c.in-Some.is) (truth_words c.is_element.result) _ _ _
    (tells-truth c.in-Some.d c.args.memory.now c.is_element.result)
    (read_word (λ (h : ℕ). is-element h) c.args.id _ c.from.ensures _ _ _ c.is_element.ensures)
    c.give_truth.ensures
