-- `walks::order::number_node` meets its contract.
-- Assumes nothing.
use mathlib.Core.Path.{◌∙◌}
use native.Mathlib.Omega.{arith}
use Rattle.memory.proofs.Words.{live-below}
use Rattle.model.specs.Kinds.{children, attributes, namespaces}
use Rattle.walks.proofs.Numbering.{numbered-one, numbered-listed, numbered_more, listed-short}
use Rattle.walks.proofs.order.number_node.Goals as goal

pub put_key-requires : goal.put_key-requires
put_key-requires c = live-below c.args.lent.now.document c.args.lent.now.words.now _ (c.requires.0 children).held.live

pub number_list-behind-requires : goal.number_list-behind-requires
number_list-behind-requires c =
    let l = c.args.lent.now in
    let k = c.requires.1 in
    let put = c.put_key.ensures in
    let one = numbered-one l.document l.words.now l.fits c.args.key c.args.word _ put.words_are in
    rw put.record_is (numbered-listed l.document l.words.now l.fits c.args.key _ _ _ _ c.args.word one c.slot_of-slot.ensures namespaces (c.requires.0 namespaces), omega arith)

pub number_list-requires : goal.number_list-requires
number_list-requires c =
    let l = c.args.lent.now in
    let k = c.requires.1 in
    let e = c.slot_of-slot.ensures in
    let put = c.put_key.ensures in
    let one = numbered-one l.document l.words.now l.fits c.args.key c.args.word _ put.words_are in
    let x = numbered-listed l.document l.words.now l.fits c.args.key _ _ _ _ c.args.word one e namespaces (c.requires.0 namespaces) in
    let n = c.number_list-behind.ensures in
    let q = rw put.record_is at n.value in
    let two = numbered_more l.document l.words.now l.fits c.args.key _ _ _ _ c.args.word one e namespaces _ _ q (rw put.record_is at n.lent_after.words_are) in
    rw (n.lent_after.record_is, put.record_is) (numbered-listed l.document l.words.now l.fits c.args.key _ _ _ _ c.args.word two e attributes (c.requires.0 attributes), omega (arith, listed-short _ _ _ _ x))

pub returns : goal.returns
returns c =
    let l = c.args.lent.now in
    let e = c.slot_of-slot.ensures in
    let put = c.put_key.ensures in
    let one = numbered-one l.document l.words.now l.fits c.args.key c.args.word _ put.words_are in
    let n = c.number_list-behind.ensures in
    let two = numbered_more l.document l.words.now l.fits c.args.key _ _ _ _ c.args.word one e namespaces _ _ (rw put.record_is at n.value) (rw put.record_is at n.lent_after.words_are) in
    let m = c.number_list.ensures in
    let three = numbered_more l.document l.words.now l.fits c.args.key _ _ _ _ c.args.word two e attributes _ _ (rw (n.lent_after.record_is, put.record_is) at m.value) (rw (n.lent_after.record_is, put.record_is) at m.lent_after.words_are) in
    record {
      value = three.after;
      lent_after = record {
        record_is = m.lent_after.record_is ∙ n.lent_after.record_is ∙ put.record_is;
        words_are = three.memory;
        reference = m.lent_after.reference ∙ n.lent_after.reference ∙ put.reference;
      };
    }
