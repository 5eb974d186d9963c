-- `exports::show::oxml_order_words` meets its contract.
-- Assumes nothing.
use Rattle.layout.specs.declared.Document.{Document}
use Rattle.encoding.specs.Records.{document_of}
use Rattle.reading.specs.Answers.{order_shown}
use Rattle.encoding.proofs.Records.{whole}
use Rattle.exports.proofs.Showing.{shows-none, shows-part}
use Rattle.exports.proofs.show.oxml_order_words.Goals as goal

pub returns-in_default : goal.returns-in_default
returns-in_default c =
    shows-none c.args.document.now (order_shown (document_of c.args.document.now) c.args.memory.now) c.args.out.now _ c.lent_record.ensures c.in_default.is

pub returns : goal.returns
returns c =
    shows-part c.args.document.now c.in-Some.d (whole c.args.document.now 0 0 _ _ c.lent_record.ensures c.in-Some.is) (λ (d : Document). order_shown d c.args.memory.now) _ c.args.out.now _ _
    c.order_words.ensures c.give.ensures
