-- `encoding::answer::give_done` meets its contract.
-- Assumes nothing.
use mathlib.Core.Path.{ap}
use Rattle.encoding.specs.Given.{done_record}
use Rattle.encoding.proofs.Given.{given, refused}
use Rattle.encoding.proofs.answer.give_done.Goals as goal

pub returns-in-Ok : goal.returns-in-Ok
returns-in-Ok c =
    let q = given c.args.document.now (done_record c.args.answer) _ _ (ap done_record c.in-Ok.is) c.put_record.ensures in
    record { value = q.0; document_after = q.1 }

pub returns-in-Err : goal.returns-in-Err
returns-in-Err c =
    let q = refused c.args.document.now (done_record c.args.answer) _ _ (ap done_record c.in-Err.is) c.refused.ensures in
    record { value = q.0; document_after = q.1 }
