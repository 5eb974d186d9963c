-- `plans::setting::under_root` meets its contract.
-- Assumes nothing.
use Rattle.lookup.proofs.Kept.{kept}
use Rattle.records.specs.Handles.{word_of}
use Rattle.memory.specs.View.{decoded}
use Rattle.plans.proofs.Replaced.{parent-root}
use Rattle.plans.proofs.setting.under_root.Goals as goal

pub returns-in-Some : goal.returns-in-Some
returns-in-Some c = parent-root (decoded c.args.doc.now.view) (word_of c.args.id) _ c.from.ensures _ c.parent_of.ensures (kept c.args.doc.now).rules c.requires _ c.in-Some.is _ c.is_root.ensures
