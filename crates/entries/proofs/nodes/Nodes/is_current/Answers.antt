-- `entries::nodes::Nodes::is_current` meets its contract.
-- Assumes nothing.
use Rattle.entries.proofs.EntryWords.{resolves-word}
use Rattle.entries.proofs.nodes.Nodes.is_current.Goals as goal

pub returns : goal.returns
returns c =
    let v = c.args.self.now.view in
    resolves-word v.document v.words.now c.args.self.now.words c.args.handle _ c.made.ensures _ c.current_word.ensures
