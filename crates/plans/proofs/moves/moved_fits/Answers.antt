-- `plans::moves::moved_fits` meets its contract.
-- Assumes nothing.
use Rattle.lookup.proofs.Kept.{kept}
use native.Mathlib.Omega.{arith}
use mathlib.Core.Path.{refl}
use Rattle.memory.specs.View.{decoded}
use Rattle.lookup.proofs.Climbing.{parent-none, parent-some}
use Rattle.plans.proofs.Moved.{fits-detached, fits-same, fits-another}
use Rattle.plans.proofs.moves.moved_fits.Goals as goal

pub returns-in-None : goal.returns-in-None
returns-in-None c = fits-detached c.args.doc.now.view.document c.args.doc.now.view.words.now (kept c.args.doc.now) c.args.child c.args.parent c.requires.0 _ c.from.ensures _ (parent-none (decoded c.args.doc.now.view) _ _ c.parent_of.ensures c.in-None.is) c.room_fits.ensures

pub returns-then-old-parent : goal.returns-then-old-parent
returns-then-old-parent c = fits-same c.args.doc.now.view.document c.args.doc.now.view.words.now (kept c.args.doc.now) c.args.child c.args.parent c.requires.0 _ c.from.ensures _ c.requires.1 c.requires.2 _ (parent-some (decoded c.args.doc.now.view) _ _ _ _ c.parent_of.ensures c.in-Some.is refl) (omega arith) (omega arith) c.if-old-parent.true c.room_left.ensures

pub returns-else-old-parent : goal.returns-else-old-parent
returns-else-old-parent c = fits-another c.args.doc.now.view.document c.args.doc.now.view.words.now (kept c.args.doc.now) c.args.child c.args.parent c.requires.0 _ c.from.ensures _ c.requires.1 c.requires.2 _ (parent-some (decoded c.args.doc.now.view) _ _ _ _ c.parent_of.ensures c.in-Some.is refl) (omega arith) (omega arith) c.if-old-parent.false c.room_fits-else-old-parent.ensures
