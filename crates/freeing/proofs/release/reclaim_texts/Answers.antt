-- `freeing::release::reclaim_texts` meets its contract.
-- Assumes nothing.
use mathlib.Core.Path.{ap, ◌∙◌}
use Rattle.layout.specs.declared.Document.{Document}
use Rattle.layout.specs.Record.{with_texts}
use Rattle.edits.proofs.Composed.{stepped}
use Rattle.freeing.proofs.Lent.{texts-reclaimable, texts-reclaimed}
use Rattle.freeing.proofs.release.reclaim_texts.Goals as goal

pub give_back-after-requires : goal.give_back-after-requires
give_back-after-requires c =
    texts-reclaimable c.args.lent.now.document c.args.lent.now.words.now c.args.lent.now.fits c.requires.1 c.args.scratch.now c.requires.0

pub returns : goal.returns
returns c =
    let a = c.args in
    let got = c.give_back-after in
    let put = got.ensures.lent_after in
    stepped _ _ _ _ _ _ put.reference c.put_record.ensures
    (texts-reclaimed a.lent.now.document a.lent.now.words.now a.lent.now.fits c.requires.1 _ got.result got.ensures.reclaimed_to put.words_are _
    (c.with_texts.ensures ∙ ap (λ (d : Document). with_texts d got.result) put.record_is))
