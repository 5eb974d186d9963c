-- `lookup::root::root_element` meets its contract.
-- Assumes nothing.
use mathlib.Core.Path.{ap, ◌∙◌}
use mathlib.Core.Bool.{Bool}
use Prim.Native.Nat.{ℕ}
use Rattle.std.proofs.Common.{rules, tests}
use Rattle.std.proofs.lemmas.Iterator.{YieldsList-from_slice}
use Rattle.std.proofs.lemmas.Iterator.Consumers.{YieldsList-from_copied, YieldsList-at}
use Rattle.std.proofs.lemmas.Iterator.Search.{find_from_yields_List}
use Rattle.words.specs.Lists.{find}
use Rattle.model.specs.Doc.{shows_element}
use Rattle.memory.specs.View.{decoded}
use Rattle.lookup.proofs.Rooted.{root-listed}
use Rattle.lookup.proofs.Searched.{found_handle}
use Rattle.lookup.proofs.root.root_element.Goals as goal

pub returns : goal.returns
returns c =
    let v = c.args.doc.now.view in
    let p : ℕ → Bool = shows_element (decoded v) in
    let l = c.block_words.result.now in
    let e = find_from_yields_List p _ _ c.find.result c.find.ensures.ran (YieldsList-from_copied (YieldsList-at c.copied.ensures.source (YieldsList-from_slice l (cc)))) (λ x b q k. search (rules, tests)) in
    found_handle p l _ _ e c.map.ensures.cases (λ x y k. search (rules, tests)) ∙ ap (find p) c.block_words.ensures ∙ root-listed v.document v.words.now _ c.root_children-block.ensures.0
