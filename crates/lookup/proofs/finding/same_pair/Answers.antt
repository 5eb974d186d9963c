-- `lookup::finding::same_pair` meets its contract.
-- Assumes nothing.
use Rattle.model.specs.Doc.{pair_at}
use Rattle.memory.specs.View.{decoded}
use Rattle.lookup.proofs.Found.{pair-both, pair-not}
use Rattle.lookup.proofs.finding.same_pair.Goals as goal

pub returns-then-same_bytes : goal.returns-then-same_bytes
returns-then-same_bytes c = let s = c.args in pair-both s.name.namespace.now s.name.local.now (pair_at (decoded s.doc.now.view) s.number.0) _ c.name_bytes.ensures _ c.same_bytes.ensures c.if-same_bytes.true _ c.name_bytes-then-same_bytes.ensures _ c.same_bytes-then-same_bytes.ensures

pub returns-else-same_bytes : goal.returns-else-same_bytes
returns-else-same_bytes c = let s = c.args in pair-not s.name.namespace.now s.name.local.now (pair_at (decoded s.doc.now.view) s.number.0) _ c.name_bytes.ensures _ c.same_bytes.ensures c.if-same_bytes.false
