-- `plans::listing::attribute_fits` meets its contract.
-- Assumes nothing.
use Rattle.lookup.proofs.Kept.{kept}
use mathlib.Core.Path.{sym, ap, ◌∙◌}
use Rattle.std.specs.Prelude.{Option}
use Rattle.records.specs.Handles.{word_of}
use Rattle.records.specs.declared.NodeId.{NodeId}
use Rattle.names.specs.Expanded.{expanded}
use Rattle.model.specs.Calls.{set_attribute_found}
use Rattle.memory.specs.Decode.{handle_of}
use Rattle.memory.specs.View.{decoded}
use Rattle.verdicts.specs.Verdicts.{refusal_number}
use Rattle.plans.proofs.Planned.{attribute_live, set_found, set_new}
use Rattle.plans.proofs.listing.attribute_fits.Goals as goal

pub replacing_fits-requires : goal.replacing_fits-requires
replacing_fits-requires c = let s = c.args in attribute_live (decoded s.doc.now.view) (word_of s.element) (kept c.args.doc.now).rules c.requires.0 (word_of c.in-Some.id) (expanded s.name) (sym c.requires.1 ∙ ap handle_of c.in-Some.is)

pub returns-in-Some : goal.returns-in-Some
returns-in-Some c = let s = c.args in c.replacing_fits.ensures ∙ sym (ap (λ (o : Option NodeId). refusal_number (set_attribute_found (handle_of o) (decoded s.doc.now.view) (word_of s.element) (expanded s.name) s.value.now).answer) c.in-Some.is ∙ set_found (decoded s.doc.now.view) (word_of s.element) (word_of c.in-Some.id) (expanded s.name) s.value.now)

pub returns-in-None : goal.returns-in-None
returns-in-None c = let s = c.args in c.new_attribute_fits.ensures ∙ sym (ap (λ (o : Option NodeId). refusal_number (set_attribute_found (handle_of o) (decoded s.doc.now.view) (word_of s.element) (expanded s.name) s.value.now).answer) c.in-None.is ∙ set_new (decoded s.doc.now.view) (word_of s.element) (expanded s.name) s.value.now)
