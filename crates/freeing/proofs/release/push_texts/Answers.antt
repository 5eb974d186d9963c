-- `freeing::release::push_texts` meets its contract.
-- Assumes nothing.
use mathlib.Core.Path.{refl}
use Rattle.freeing.proofs.Pushed.{node-releasable, node_pushed, no-node-pushed}
use Rattle.freeing.proofs.release.push_texts.Goals as goal

pub push_data-requires : goal.push_data-requires
push_data-requires c =
    let a = c.args in
    node-releasable a.lent.now.document a.lent.now.words.now a.slot.0 c.requires.0 _ (rw (c.view.ensures.0, c.view.ensures.1) at c.load.ensures) _ c.in-Some.is c.requires.1

pub returns-in-Some : goal.returns-in-Some
returns-in-Some c =
    let a = c.args in
    let got = c.push_data in
    record {
      step = node_pushed a.lent.now.document a.lent.now.words.now a.slot.0 c.requires.0 _ (rw (c.view.ensures.0, c.view.ensures.1) at c.load.ensures) _ c.in-Some.is got.new.lent.document _ got.ensures.step;
      reference = got.ensures.reference;
    }

pub returns-in_default : goal.returns-in_default
returns-in_default c =
    let a = c.args in
    record { step = no-node-pushed a.lent.now.document a.lent.now.words.now a.slot.0 c.requires.0 _ (rw (c.view.ensures.0, c.view.ensures.1) at c.load.ensures) c.in_default.is; reference = refl }
