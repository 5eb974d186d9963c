-- `lookup::finding::listed` meets its contract.
-- Assumes nothing.
use mathlib.Core.Path.{sym, ◌∙◌}
use native.Mathlib.Omega.{arith}
use Rattle.layout.specs.Layout.{which_of}
use Rattle.lookup.proofs.Kept.{kept}
use Rattle.lookup.proofs.Found.{list_inside, list-shown, list-stale}
use Rattle.lookup.proofs.finding.listed.Goals as goal

pub block_words-requires : goal.block_words-requires
block_words-requires c = list_inside _ _ c.args.element (omega arith) (omega arith) (which_of c.args.arena) _ (sym c.resolve.ensures ∙ c.in-Some.is) _ c.range_of.ensures (kept c.args.doc.now)

pub returns-in-Some : goal.returns-in-Some
returns-in-Some c =
    let v = c.args.doc.now.view in
    c.block_words.ensures ∙ list-shown v.document v.words.now c.args.element (omega arith) (omega arith) (which_of c.args.arena) _ (sym c.resolve.ensures ∙ c.in-Some.is) _ c.range_of.ensures

pub returns-in-None : goal.returns-in-None
returns-in-None c =
    let v = c.args.doc.now.view in
    list-stale v.document v.words.now c.args.element (omega arith) (omega arith) (which_of c.args.arena) (sym c.resolve.ensures ∙ c.in-None.is) c.requires
