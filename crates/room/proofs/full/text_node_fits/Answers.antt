-- `room::full::text_node_fits` meets its contract.
-- Assumes nothing.
use mathlib.Core.Path.{ap, ◌∙◌}
use Rattle.records.specs.Handles.{word_of}
use Rattle.model.specs.Calls.{full_unless}
use Rattle.layout.specs.Layout.{which_of}
use Rattle.memory.specs.View.{decoded}
use Rattle.room.proofs.Room.{fits_both, fits-neither}
use Rattle.room.proofs.full.text_node_fits.Goals as goal
use Rattle.room.proofs.full.text_node_fits.Goals.{then-text_fits, else-text_fits}

pub returns : goal.returns
returns c = let s = c.args in c.full_unless.ensures ∙ ap full_unless (elim c.if-text_fits.branch [
  | then-text_fits w ↦ w.full_unless-is ∙ fits_both (decoded s.doc.now.view) (which_of s.arena) (word_of s.id) c.requires _ _ c.text_fits.ensures w.if-text_fits.true _ w.node_fits.ensures
  | else-text_fits w ↦ w.full_unless-is ∙ fits-neither (decoded s.doc.now.view) (which_of s.arena) (word_of s.id) c.requires _ _ c.text_fits.ensures w.if-text_fits.false
])
