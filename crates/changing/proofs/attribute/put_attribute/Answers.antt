-- `changing::attribute::put_attribute` meets its contract.
-- Assumes nothing.
use mathlib.Core.Path.{sym, ap, ◌∙◌}
use Rattle.memory.specs.Decode.{handle_of}
use Rattle.changing.proofs.attribute.put_attribute.Goals as goal

pub replace_attribute-requires : goal.replace_attribute-requires
replace_attribute-requires c = record { admitted = c.requires.admitted; local_value = sym c.requires.found_value ∙ ap handle_of c.in-Some.is }

pub append_attribute-requires : goal.append_attribute-requires
append_attribute-requires c = record { admitted = c.requires.admitted; local_value = sym c.requires.found_value ∙ ap handle_of c.in-None.is }
