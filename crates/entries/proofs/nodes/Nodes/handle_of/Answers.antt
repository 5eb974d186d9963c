-- `entries::nodes::Nodes::handle_of` meets its contract.
-- Assumes nothing.
use mathlib.Core.Path.{◌∙◌}
use native.Mathlib.Omega.{arith}
use Rattle.entries.proofs.Words.{handle-read}
use Rattle.entries.proofs.nodes.Nodes.handle_of.Goals as goal

pub overflow_cast-generation : goal.overflow_cast-generation
overflow_cast-generation c =
    let v = c.args.self.now.view in
    omega (arith, (handle-read v.document v.words.now c.args.s c.args.self.now.words c.requires).narrow-generation)

pub returns : goal.returns
returns c =
    let v = c.args.self.now.view in
    c.from.ensures ∙ (handle-read v.document v.words.now c.args.s c.args.self.now.words c.requires).is-handle
