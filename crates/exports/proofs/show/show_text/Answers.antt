-- `exports::show::show_text` meets its contract.
-- Assumes nothing.
use Rattle.exports.proofs.Beyond.{no_text, text-told}
use Rattle.exports.proofs.show.show_text.Goals as goal

pub returns-then-text-gt4294967296 : goal.returns-then-text-gt4294967296
returns-then-text-gt4294967296 c =
    no_text c.args.d c.args.memory.now c.args.text c.if-text-gt4294967296.true

pub returns : goal.returns
returns c =
    text-told c.args.d c.args.memory.now c.args.text c.chars_of.result c.chars_of.ensures _ c.text_bytes.ensures
