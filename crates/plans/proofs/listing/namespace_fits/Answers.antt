-- `plans::listing::namespace_fits` meets its contract.
-- Assumes nothing.
use Rattle.lookup.proofs.Kept.{kept}
use mathlib.Core.Path.{sym, ap, ◌∙◌}
use Rattle.std.specs.Prelude.{Option}
use Rattle.records.specs.Handles.{word_of}
use Rattle.records.specs.declared.NodeId.{NodeId}
use Rattle.model.specs.Calls.{declare_namespace_found}
use Rattle.memory.specs.Decode.{handle_of}
use Rattle.memory.specs.View.{decoded}
use Rattle.verdicts.specs.Verdicts.{refusal_number}
use Rattle.plans.proofs.Planned.{namespace_live, declare_found, declare_new}
use Rattle.plans.proofs.listing.namespace_fits.Goals as goal

pub replacing_fits-requires : goal.replacing_fits-requires
replacing_fits-requires c = let s = c.args in namespace_live (decoded s.doc.now.view) (word_of s.element) (kept c.args.doc.now).rules c.requires.0 (word_of c.in-Some.id) s.prefix.now (sym c.requires.1 ∙ ap handle_of c.in-Some.is)

pub returns-in-Some : goal.returns-in-Some
returns-in-Some c = let s = c.args in c.replacing_fits.ensures ∙ sym (ap (λ (o : Option NodeId). refusal_number (declare_namespace_found (handle_of o) (decoded s.doc.now.view) (word_of s.element) s.prefix.now s.uri.now).answer) c.in-Some.is ∙ declare_found (decoded s.doc.now.view) (word_of s.element) (word_of c.in-Some.id) s.prefix.now s.uri.now)

pub returns-in-None : goal.returns-in-None
returns-in-None c = let s = c.args in c.new_namespace_fits.ensures ∙ sym (ap (λ (o : Option NodeId). refusal_number (declare_namespace_found (handle_of o) (decoded s.doc.now.view) (word_of s.element) s.prefix.now s.uri.now).answer) c.in-None.is ∙ declare_new (decoded s.doc.now.view) (word_of s.element) s.prefix.now s.uri.now)
