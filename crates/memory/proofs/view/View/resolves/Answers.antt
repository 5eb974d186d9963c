-- `memory::view::View::resolves` meets its contract. Each test of the handle is a way through the definition.
-- Assumes nothing.
use native.Mathlib.Omega.{arith}
use Rattle.memory.proofs.Living.{resolves-past, resolves-other, resolves-same}
use Rattle.memory.proofs.view.View.resolves.Goals as goal

pub returns-then-id-made : goal.returns-then-id-made
returns-then-id-made c =
    resolves-past c.args.self.now.document c.args.self.now.words.now c.args.id (omega arith) (omega arith) _ c.made.ensures c.if-id-made.true

pub returns-then-generation-id : goal.returns-then-generation-id
returns-then-generation-id c =
    resolves-other c.args.self.now.document c.args.self.now.words.now c.args.id (omega arith) (omega arith) (omega (arith, c.made.ensures)) _ c.generation.ensures c.if-generation-id.true

pub returns : goal.returns
returns c =
    resolves-same c.args.self.now.document c.args.self.now.words.now c.args.id (omega arith) (omega arith) (omega (arith, c.made.ensures)) _ c.generation.ensures c.if-generation-id.false _ c.is_live.ensures
