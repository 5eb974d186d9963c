-- `lookup::finding::has_prefix` meets its contract.
-- Assumes nothing.
use mathlib.Core.Path.{refl}
use Rattle.words.specs.Pieces.{same_bytes}
use Rattle.model.specs.Kinds.{prefix_of}
use Rattle.model.specs.Doc.{bytes_at}
use Rattle.memory.specs.Decode.{slot_of}
use Rattle.memory.specs.View.{decoded}
use Rattle.lookup.proofs.Found.{has, prefix_same}
use Rattle.lookup.proofs.finding.has_prefix.Goals as goal

pub returns-in-Namespace : goal.returns-in-Namespace
returns-in-Namespace c = let s = c.args in has prefix_of (λ t. same_bytes s.prefix.now (bytes_at (decoded s.doc.now.view) t)) _ c.data_of.result c.data_of.ensures _ c.in-Namespace.is _ refl _ (prefix_same (decoded s.doc.now.view) s.prefix.now (slot_of c.in-Namespace.own) _ c.text_bytes.ensures _ c.same_bytes.ensures)
