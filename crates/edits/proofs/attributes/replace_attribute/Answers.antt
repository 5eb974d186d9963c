-- `edits::attributes::replace_attribute` meets its contract.
-- Assumes nothing.
use Rattle.records.specs.Handles.{word_of}
use Rattle.edits.proofs.ElementLists.{value-replaceable, value-performed}
use Rattle.edits.proofs.attributes.replace_attribute.Goals as goal

pub do_replace_text-requires : goal.do_replace_text-requires
do_replace_text-requires c = value-replaceable c.args.lent.now.document c.args.lent.now.words.now (word_of c.args.element) c.args.name.namespace.now c.args.name.local.now c.args.value.now c.requires.admitted (word_of c.args.found) c.requires.local_value

pub returns : goal.returns
returns c =
    let w = c.do_replace_text in
    record { performed = value-performed c.args.lent.now.document c.args.lent.now.words.now (word_of c.args.element) c.args.name.namespace.now c.args.name.local.now c.args.value.now c.requires.admitted (word_of c.args.found) c.requires.local_value w.new.lent.document _ w.ensures.step; reference = w.ensures.reference }
