-- `encoding::answer::give_found` meets its contract.
-- Assumes nothing.
use mathlib.Core.Path.{ap}
use Rattle.encoding.specs.Given.{found_record, found_words}
use Rattle.encoding.proofs.Given.{one_word, given_both, refused-both}
use Rattle.encoding.proofs.answer.give_found.Goals as goal

pub returns-in-Ok : goal.returns-in-Ok
returns-in-Ok c =
    let q = given_both c.args.document.now (found_record c.args.answer) c.args.found.now (found_words c.args.answer) _ _ _ _
    (ap found_record c.in-Ok.is) (ap found_words c.in-Ok.is) c.put_record.ensures
    (one_word c.args.found.now _ _ c.truth_word.ensures c.requires.1) in
    record { value = q.0; document_after = q.1 }

pub returns-in-Err : goal.returns-in-Err
returns-in-Err c =
    let q = refused-both c.args.document.now (found_record c.args.answer) c.args.found.now (found_words c.args.answer) _ _ (ap found_record c.in-Err.is) (ap found_words c.in-Err.is) c.refused.ensures in
    record { value = q.0; document_after = q.1 }
