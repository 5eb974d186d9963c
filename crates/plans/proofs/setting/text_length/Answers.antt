-- `plans::setting::text_length` meets its contract.
-- Assumes nothing.
use Rattle.lookup.proofs.Kept.{kept}
use Rattle.plans.proofs.Replaced.{place-told}
use Rattle.plans.proofs.setting.text_length.Goals as goal

pub returns : goal.returns
returns c =
    let p = c.text_pool in
    place-told c.args.doc.now.view.document c.args.doc.now.view.words.now (kept c.args.doc.now) p.result.limits p.result.counts _ p.ensures.limits_told p.ensures.counts_told p.ensures.words_shown _ _ c.place.ensures
