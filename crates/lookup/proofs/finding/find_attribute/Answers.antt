-- `lookup::finding::find_attribute` meets its contract.
-- Assumes nothing.
use mathlib.Core.Path.{ap, ◌∙◌}
use mathlib.Core.Bool.{Bool}
use Prim.Native.Nat.{ℕ}
use Rattle.std.proofs.Common.{rules, tests}
use Rattle.std.proofs.lemmas.Iterator.{YieldsList-from_slice}
use Rattle.std.proofs.lemmas.Iterator.Consumers.{YieldsList-from_copied, YieldsList-at}
use Rattle.std.proofs.lemmas.Iterator.Search.{find_from_yields_List}
use Rattle.words.specs.Lists.{find}
use Rattle.names.specs.Expanded.{expanded}
use Rattle.model.specs.Calls.{has_name}
use Rattle.memory.specs.View.{decoded}
use Rattle.lookup.proofs.Searched.{found_handle}
use Rattle.lookup.proofs.finding.find_attribute.Goals as goal

pub returns : goal.returns
returns c =
    let p : ℕ → Bool = has_name (decoded c.args.doc.now.view) (expanded c.args.name) in
    let l = c.listed.result.now in
    let e = find_from_yields_List p _ _ c.find.result c.find.ensures.ran (YieldsList-from_copied (YieldsList-at c.copied.ensures.source (YieldsList-from_slice l (cc)))) (λ x b q k. search (rules, tests)) in
    found_handle p l _ _ e c.map.ensures.cases (λ x y k. search (rules, tests)) ∙ ap (find p) c.listed.ensures
