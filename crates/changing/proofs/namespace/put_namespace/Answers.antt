-- `changing::namespace::put_namespace` meets its contract.
-- Assumes nothing.
use mathlib.Core.Path.{sym, ap, ◌∙◌}
use Rattle.memory.specs.Decode.{handle_of}
use Rattle.changing.proofs.namespace.put_namespace.Goals as goal

pub replace_namespace-requires : goal.replace_namespace-requires
replace_namespace-requires c = record { admitted = c.requires.admitted; prefix_value = sym c.requires.found_value ∙ ap handle_of c.in-Some.is }

pub append_namespace-requires : goal.append_namespace-requires
append_namespace-requires c = record { admitted = c.requires.admitted; prefix_value = sym c.requires.found_value ∙ ap handle_of c.in-None.is }
