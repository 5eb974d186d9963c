-- `encoding::answer::give_made` meets its contract.
-- Assumes nothing.
use Rattle.encoding.proofs.Given.{one_word, given_both, refused-both}
use Rattle.encoding.specs.Given.{made_record, made_words}
use mathlib.Core.Path.{ap}
use Rattle.encoding.proofs.answer.give_made.Goals as goal

pub returns-in-Ok : goal.returns-in-Ok
returns-in-Ok c =
    let q = given_both c.args.document.now (made_record c.args.answer) c.args.made.now (made_words c.args.answer) _ _ _ _
    (ap made_record c.in-Ok.is) (ap made_words c.in-Ok.is) c.put_record.ensures
    (one_word c.args.made.now _ _ c.from.ensures c.requires.1) in
    record { value = q.0; document_after = q.1 }

pub returns-in-Err : goal.returns-in-Err
returns-in-Err c =
    let q = refused-both c.args.document.now (made_record c.args.answer) c.args.made.now (made_words c.args.answer) _ _ (ap made_record c.in-Err.is) (ap made_words c.in-Err.is) c.refused.ensures in
    record { value = q.0; document_after = q.1 }
