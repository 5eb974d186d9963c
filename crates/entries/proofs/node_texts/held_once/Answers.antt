-- `entries::node_texts::held_once` meets its contract.
-- Assumes nothing.
use mathlib.Core.Path.{◌∙◌}
use native.Mathlib.Omega.{arith}
use Rattle.memory.specs.Decode.{slots_made}
use Rattle.entries.specs.View.{decoded_nodes}
use Rattle.entries.proofs.Texts.{marked-all, slots-decided, free-inside, free-markable}
use Rattle.entries.proofs.node_texts.held_once.Goals as goal

pub count_free-requires : goal.count_free-requires
count_free-requires c =
    let a = c.args in
    let v = c.args.view.now in
    (free-inside v.document v.words.now v.fits c.requires.pool.0, free-markable v.document v.words.now v.fits c.requires.pool.0 c.requires.pool.1 a.marks.now c.requires.marks_len.0 c.requires.marks_len.1)

pub returns : goal.returns
returns c =
    let a = c.args in
    let v = c.args.view.now in
    slots-decided (decoded_nodes v) v.document.counts.texts (slots_made v.document) a.marks.now c.requires.marks_len.0 c.requires.marks_len.1 _ _ _ c.count_free.ensures (c.all_once.ensures ∙ marked-all c.count_free.new.marks v.document.counts.texts (omega (arith, c.count_free.auto.marks, c.requires.marks_len.0)))
