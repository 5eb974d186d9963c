-- `entries::node_texts::check_texts` meets its contract.
-- Assumes nothing.
use Rattle.entries.proofs.Texts.{pool-broken, table-broken, pool-decided}
use Rattle.entries.proofs.node_texts.check_texts.Goals as goal

pub returns-then-not-texts_hold : goal.returns-then-not-texts_hold
returns-then-not-texts_hold c =
    let v = c.args.view.now in
    pool-broken v.document v.words.now v.fits c.requires.counts _ c.texts_hold.ensures c.if-not-texts_hold.true

pub returns-then-not-names_hold : goal.returns-then-not-names_hold
returns-then-not-names_hold c =
    let v = c.args.view.now in
    table-broken v.document v.words.now v.fits c.requires.counts _ c.texts_hold.ensures c.if-not-texts_hold.false _ c.names_hold.ensures c.if-not-names_hold.true

pub returns : goal.returns
returns c =
    let v = c.args.view.now in
    pool-decided v.document v.words.now v.fits c.requires.counts _ c.texts_hold.ensures c.if-not-texts_hold.false _ c.names_hold.ensures c.if-not-names_hold.false _ c.held_once.ensures
