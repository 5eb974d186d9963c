-- `lookup::stored::text_bytes` meets its contract.
-- Assumes nothing.
use Rattle.memory.specs.Decode.{slot_of}
use Rattle.lookup.proofs.Shown.{text-told}
use Rattle.lookup.proofs.stored.text_bytes.Goals as goal

pub returns : goal.returns
returns c = let v = c.args.doc.now.view in text-told v.document v.words.now (slot_of c.args.text) _ c.text_bytes.ensures
