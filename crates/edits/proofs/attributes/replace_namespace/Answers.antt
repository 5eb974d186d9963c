-- `edits::attributes::replace_namespace` meets its contract.
-- Assumes nothing.
use Rattle.records.specs.Handles.{word_of}
use Rattle.edits.proofs.ElementLists.{uri-replaceable, uri-performed}
use Rattle.edits.proofs.attributes.replace_namespace.Goals as goal

pub do_replace_text-requires : goal.do_replace_text-requires
do_replace_text-requires c = uri-replaceable c.args.lent.now.document c.args.lent.now.words.now (word_of c.args.element) c.args.prefix.now c.args.uri.now c.requires.admitted (word_of c.args.found) c.requires.prefix_value

pub returns : goal.returns
returns c =
    let w = c.do_replace_text in
    record { performed = uri-performed c.args.lent.now.document c.args.lent.now.words.now (word_of c.args.element) c.args.prefix.now c.args.uri.now c.requires.admitted (word_of c.args.found) c.requires.prefix_value w.new.lent.document _ w.ensures.step; reference = w.ensures.reference }
