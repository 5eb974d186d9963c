-- `walks::order::renew_order` meets its contract.
-- Assumes nothing.
use mathlib.Core.Path.{ap, ◌∙◌}
use lib.ListN.{length}
use Rattle.layout.specs.Record.{renewed}
use Rattle.walks.proofs.Cleared.{scratch-nodes, walkable-cleared, order-renewed, decode-renewed}
use Rattle.walks.proofs.order.renew_order.Goals as goal

pub number_tree-requires : goal.number_tree-requires
number_tree-requires c =
    let l = c.args.lent.now in
    let clear = c.clear_keys.ensures in
    rw clear.record_is (scratch-nodes l.document (length c.args.scratch.now) c.requires.0, walkable-cleared l.document l.words.now l.fits c.requires.1 _ clear.words_are)

pub returns : goal.returns
returns c =
    let l = c.args.lent.now in
    let clear = c.clear_keys.ensures in
    let tree = c.number_tree.ensures in
    let put = c.put_record.ensures in
    let e = put.record_is ∙ c.renewed.ensures ∙ ap renewed (tree.record_is ∙ clear.record_is) in
    let q = put.words_are ∙ order-renewed l.document l.words.now l.fits _ _ clear.words_are (rw clear.record_is at tree.words_are) in
    record {
      document_after = decode-renewed l.document l.words.now l.fits _ _ e q;
      lent_after = record { record_is = e; words_are = q; reference = put.reference ∙ tree.reference ∙ clear.reference };
    }
