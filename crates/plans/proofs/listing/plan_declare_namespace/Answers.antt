-- `plans::listing::plan_declare_namespace` meets its contract.
-- Assumes nothing.
use Rattle.std.specs.Prelude.{Option}
use mathlib.Core.Path.{sym, ap, ◌∙◌}
use Prim.Native.Nat.{ℕ}
use Rattle.records.specs.Handles.{word_of}
use Rattle.model.specs.Calls.{declare_namespace_found}
use Rattle.memory.specs.View.{decoded}
use Rattle.verdicts.specs.Verdicts.{refusal_number}
use Rattle.verdicts.proofs.Verdicts.{passed_on, refused_before, accepted_before}
use Rattle.verdicts.proofs.Refusing.{declare_namespace_number}
use Rattle.plans.proofs.listing.plan_declare_namespace.Goals as goal

pub returns-in_err-check_declare_namespace-clause-verdict_value : goal.returns-in_err-check_declare_namespace-clause-verdict_value
returns-in_err-check_declare_namespace-clause-verdict_value c = let s = c.args in refused_before _ _ _ _ c.from_residual.ensures.1 c.in_err-check_declare_namespace.ensures ∙ sym (declare_namespace_number (decoded s.doc.now.view) (word_of s.element) s.prefix.now s.uri.now)

pub returns-in_err-namespace_fits-clause-verdict_value : goal.returns-in_err-namespace_fits-clause-verdict_value
returns-in_err-namespace_fits-clause-verdict_value c =
    let s = c.args in
    accepted_before _ _ _ c.in_ok-check_declare_namespace.ensures
    (passed_on _ _ c.from_residual-in_err-namespace_fits.ensures.1 ∙ c.in_err-namespace_fits.ensures ∙ ap (λ (f : Option ℕ). refusal_number (declare_namespace_found f (decoded s.doc.now.view) (word_of s.element) s.prefix.now s.uri.now).answer) c.find_namespace-found.ensures)
    ∙ sym (declare_namespace_number (decoded s.doc.now.view) (word_of s.element) s.prefix.now s.uri.now)

pub returns-clause-verdict_value : goal.returns-clause-verdict_value
returns-clause-verdict_value c =
    let s = c.args in
    accepted_before _ _ _ c.in_ok-check_declare_namespace.ensures (c.in_ok-namespace_fits.ensures ∙ ap (λ (f : Option ℕ). refusal_number (declare_namespace_found f (decoded s.doc.now.view) (word_of s.element) s.prefix.now s.uri.now).answer) c.find_namespace-found.ensures)
    ∙ sym (declare_namespace_number (decoded s.doc.now.view) (word_of s.element) s.prefix.now s.uri.now)
