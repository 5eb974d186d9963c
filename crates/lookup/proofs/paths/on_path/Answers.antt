-- `lookup::paths::on_path` meets its contract.
-- Assumes nothing.
use Rattle.lookup.proofs.Climbing.{climbed-met, climbed-top, climbed-up, climbed-end, path-answer, parent-none, parent-some}
use mathlib.Core.Path.{refl}
use native.Mathlib.Omega.{arith}
use Rattle.records.specs.Handles.{word_of}
use Rattle.memory.specs.View.{decoded}
use Rattle.lookup.proofs.paths.on_path.Goals as goal

pub returns-then-at-top : goal.returns-then-at-top
returns-then-at-top c = let s = c.args in path-answer s.view.now.document s.view.now.words.now _ _ _ (word_of s.node) (word_of s.below) refl c.from-top.ensures c.from-at.ensures _ (climbed-met (decoded s.view.now) _ _ _ _ _ c.loop.invariant (omega (arith, c.made-end.ensures)) c.if-at-top.true)

pub returns-in-None : goal.returns-in-None
returns-in-None c = let s = c.args in path-answer s.view.now.document s.view.now.words.now _ _ _ (word_of s.node) (word_of s.below) refl c.from-top.ensures c.from-at.ensures _ (climbed-top (decoded s.view.now) _ _ _ _ _ c.loop.invariant (omega (arith, c.made-end.ensures)) c.if-at-top.false (parent-none (decoded s.view.now) _ _ c.parent_of.ensures c.in-None.is))

pub loop-preserved : goal.loop-preserved
loop-preserved c = let s = c.args in climbed-up (decoded s.view.now) _ _ _ _ _ c.loop.invariant (omega (arith, c.made-end.ensures)) c.if-at-top.false _ (parent-some (decoded s.view.now) _ c.parent_of.result _ _ c.parent_of.ensures c.in-Some.is c.from-at-in-Some.ensures)

pub returns : goal.returns
returns c = let s = c.args in path-answer s.view.now.document s.view.now.words.now _ _ _ (word_of s.node) (word_of s.below) refl c.from-top.ensures c.from-at.ensures _ (climbed-end (decoded s.view.now) _ _ _ _ _ c.loop.invariant (omega (arith, c.made-end.ensures)))
