-- `entries::node_texts::names_inside` meets its contract.
-- Assumes nothing.
use native.Mathlib.Omega.{arith}
use Rattle.model.specs.Doc.{kind_in}
use Rattle.entries.specs.View.{decoded_nodes}
use Rattle.entries.proofs.Fields.{name-none, name-later, name-inside}
use Rattle.entries.proofs.node_texts.names_inside.Goals as goal

pub returns-in-1 : goal.returns-in-1
returns-in-1 c =
    let a = c.args in
    let v = c.args.view.now in
    name-inside v.document.counts.names c.kind_of.result (kind_in (decoded_nodes v) a.s) c.kind_of.ensures (λ z. omega arith) (omega arith) _ c.name_of.ensures

pub returns-in_default : goal.returns-in_default
returns-in_default c =
    let a = c.args in
    let v = c.args.view.now in
    name-none v.document.counts.names c.kind_of.result (kind_in (decoded_nodes v) a.s) c.kind_of.ensures (omega arith)

pub returns-in_default-2 : goal.returns-in_default-2
returns-in_default-2 c =
    let a = c.args in
    let v = c.args.view.now in
    name-later v.document.counts.names c.kind_of.result (kind_in (decoded_nodes v) a.s) c.kind_of.ensures (omega arith)
