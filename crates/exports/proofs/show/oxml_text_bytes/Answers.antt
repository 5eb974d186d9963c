-- `exports::show::oxml_text_bytes` meets its contract.
-- Assumes nothing.
use Rattle.layout.specs.declared.Document.{Document}
use Rattle.encoding.specs.Records.{document_of}
use Rattle.reading.specs.Answers.{text_bytes}
use Rattle.exports.specs.Contract.{slot_told}
use Rattle.encoding.proofs.Records.{whole}
use Rattle.exports.proofs.Showing.{shows-none, shows-part}
use Rattle.exports.proofs.show.oxml_text_bytes.Goals as goal

pub returns-in_default : goal.returns-in_default
returns-in_default c =
    shows-none c.args.document.now (text_bytes (document_of c.args.document.now) c.args.memory.now (slot_told c.args.text)) c.args.out.now _ c.lent_record.ensures c.in_default.is

pub returns : goal.returns
returns c =
    shows-part c.args.document.now c.in-Some.d (whole c.args.document.now 0 0 _ _ c.lent_record.ensures c.in-Some.is) (λ (d : Document). text_bytes d c.args.memory.now (slot_told c.args.text)) _ c.args.out.now _ _
    c.show_text.ensures c.give.ensures
