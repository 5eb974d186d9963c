-- `freeing::subtree::free_subtree` meets its contract.
-- Assumes nothing.
use mathlib.Core.Path.{◌≡◌, ◌∙◌}
use native.Mathlib.Omega.{arith}
use lib.ListN.{length}
use Rattle.records.specs.Handles.{word_of}
use Rattle.freeing.proofs.Removed.{nodes-reclaimable, subtree-freed}
use borrow.Author.Rules.{rules}
use Rattle.freeing.proofs.subtree.free_subtree.Goals as goal

pub reclaim_texts-requires : goal.reclaim_texts-requires
reclaim_texts-requires c =
    let f = c.free_nodes in
    let a = c.args in
    let l = a.lent.now in
    let e : length f.new.words ≡ length a.scratch.now = search rules in
    nodes-reclaimable l.document l.words.now (word_of a.id) c.requires.2 f.new.lent.document _ (f.ensures.step.step, f.ensures.reclaimable) (length f.new.words) (omega arith)

pub returns : goal.returns
returns c =
    let f = c.free_nodes in
    let a = c.args in
    let l = a.lent.now in
    let t = c.reclaim_texts in
    record {
      step = subtree-freed l.document l.words.now (word_of a.id) c.requires.2 f.new.lent.document _ (f.ensures.step.step, f.ensures.reclaimable) t.new.lent.document _ t.ensures.step;
      reference = t.ensures.reference ∙ f.ensures.step.reference;
    }
