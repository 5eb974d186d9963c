-- `exports::show::oxml_entries` meets its contract.
-- Assumes nothing.
use Rattle.layout.specs.declared.Document.{Document}
use Rattle.encoding.specs.Records.{document_of}
use Rattle.blocks.specs.Arena.{block}
use Rattle.exports.specs.Contract.{entries_told}
use Rattle.encoding.proofs.Records.{whole}
use Rattle.exports.proofs.Showing.{shows-none, shows-part}
use Rattle.exports.proofs.show.oxml_entries.Goals as goal

pub returns-in_default : goal.returns-in_default
returns-in_default c =
    shows-none c.args.document.now (entries_told c.args.arena (block c.args.start c.args.len) (document_of c.args.document.now) c.args.memory.now) c.args.out.now _ c.lent_record.ensures c.in_default.is

pub returns : goal.returns
returns c =
    shows-part c.args.document.now c.in-Some.d (whole c.args.document.now 0 0 _ _ c.lent_record.ensures c.in-Some.is) (λ (d : Document). entries_told c.args.arena (block c.args.start c.args.len) d c.args.memory.now) _ c.args.out.now _ _
    c.show_entries.ensures c.give.ensures
