-- `walks::order::put_key` meets its contract.
-- Assumes nothing.
use Rattle.walks.proofs.Orders.{key-put}
use Rattle.walks.proofs.order.put_key.Goals as goal

pub returns : goal.returns
returns c =
    let l = c.args.lent.now in
    let put = c.put_order.ensures in
    record { record_is = put.record_is; words_are = key-put l.document l.words.now l.fits c.args.word c.args.key _ c.slot_of.ensures c.requires _ put.words_are; reference = put.reference }
