-- `edits::replace::replace_in` meets its contract.
-- Assumes nothing.
use native.Mathlib.Omega.{arith}
use Rattle.edits.proofs.Replaced.{empty-ready, empty-step, slot-ready, slot_step}
use Rattle.edits.proofs.replace.replace_in.Goals as goal

pub fill_field-requires : goal.fill_field-requires
fill_field-requires c =
    let f = c.text_field in
    empty-ready c.args.lent.now.document c.args.lent.now.words.now c.args.id (omega (arith, c.well_formed)) c.args.text.now c.requires.0 c.args.node c.requires.1 f.result f.ensures c.in-None.is

pub replace_slot-requires : goal.replace_slot-requires
replace_slot-requires c =
    let f = c.text_field in
    slot-ready c.args.lent.now.document c.args.lent.now.words.now c.args.id (omega (arith, c.well_formed)) c.args.text.now c.requires.0 c.args.node c.requires.1 f.result f.ensures _ c.in-Some.is

pub returns-in-None : goal.returns-in-None
returns-in-None c =
    let f = c.text_field in
    let w = c.fill_field in
    record { step = empty-step c.args.lent.now.document c.args.lent.now.words.now c.args.id (omega (arith, c.well_formed)) c.args.text.now c.requires.0 c.args.node c.requires.1 f.result f.ensures c.in-None.is w.new.lent.document _ w.ensures.step; reference = w.ensures.reference }

pub returns-in-Some : goal.returns-in-Some
returns-in-Some c =
    let f = c.text_field in
    let w = c.replace_slot in
    record { step = slot_step c.args.lent.now.document c.args.lent.now.words.now c.args.id (omega (arith, c.well_formed)) c.args.text.now c.requires.0 c.args.node c.requires.1 f.result f.ensures _ c.in-Some.is w.new.lent.document _ w.ensures.step; reference = w.ensures.reference }
