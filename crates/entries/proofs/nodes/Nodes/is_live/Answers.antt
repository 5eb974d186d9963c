-- `entries::nodes::Nodes::is_live` meets its contract.
-- Assumes nothing.
use mathlib.Core.Path.{refl}
use Rattle.entries.proofs.Words.{live-word}
use Rattle.entries.proofs.nodes.Nodes.is_live.Goals as goal

pub returns : goal.returns
returns c =
    let v = c.args.self.now.view in
    live-word v.document v.words.now _ _ c.args.self.now.words c.requires refl
