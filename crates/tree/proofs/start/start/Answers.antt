-- `tree::start::start` meets its contract.
-- Assumes nothing.
use Rattle.std.proofs.Common.{rules, arith, ◌≡◌, sym, Err}
use lib.Seq.{length-take-le}
use Rattle.tree.specs.Answers.{started_record}
use Rattle.tree.proofs.Startable.{not-started, limits-right, words_inside, words-cleared}
use Rattle.tree.proofs.start.start.Goals as goal

pub returns-in_err-of : goal.returns-in_err-of
returns-in_err-of c =
    let a = c.args in
    let e : c.from_residual.result ≡ Err c.in_err-of.field-0.0 = search rules in
    rw e (not-started a.l a.mem.now c.fresh_record-d.result c.fresh_record-d.ensures _ c.in_err-of.ensures (started_record a.l (Err c.in_err-of.field-0.0)))

pub document_words-requires : goal.document_words-requires
document_words-requires c = limits-right c.args.l c.args.mem.now c.fresh_record-d.result c.fresh_record-d.ensures c.in_ok-of.ensures.0

pub slice_bounds-fill-end : goal.slice_bounds-fill-end
slice_bounds-fill-end c =
    let z = words_inside c.args.l c.args.mem.now c.fresh_record-d.result c.fresh_record-d.ensures c.in_ok-of.ensures.0 in
    omega (arith, c.document_words.ensures)

pub slice_bounds-fill-end-2 : goal.slice_bounds-fill-end-2
slice_bounds-fill-end-2 c =
    let z = words_inside c.args.l c.args.mem.now c.fresh_record-d.result c.fresh_record-d.ensures c.in_ok-of.ensures.0 in
    sym (length-take-le c.document_words.result c.args.mem.now (omega (arith, c.document_words.ensures)))

pub returns : goal.returns
returns c =
    words-cleared c.args.l c.args.mem.now c.fresh_record-d.result c.fresh_record-d.ensures c.in_ok-of.ensures.0 _ c.document_words.ensures _ (c.fill.ensures.after (λ y k. search rules))
