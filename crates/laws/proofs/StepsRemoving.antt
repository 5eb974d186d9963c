-- `remove` and `remove_attribute` are the plain tree's.
-- Assumes nothing.
use Rattle.std.specs.Prelude.{Option, None, Some}
use mathlib.Core.Path.{◌≡◌, refl, ap, ◌∙◌}
use mathlib.Core.Logic.{◌≢◌, inr}
use mathlib.Core.Bool.{Bool, true, false}
use mathlib.Core.List.{List, [], ◌∷◌}
use Prim.Native.Nat.{ℕ}
use native.Mathlib.Omega.{arith}
use Rattle.words.specs.Lists.{find}
use Rattle.names.specs.Table.{Name, name, same_name}
use Rattle.model.specs.Kinds.{Kind, root, element, attribute, text, comment, namespace, instruction, attributes, is_root, attribute_name}
use Rattle.model.specs.Doc.{Doc, any_option, map_option}
use Rattle.model.specs.Arguments.{first, refuse_if, not_utf8}
use Rattle.model.specs.Checks.{check_remove_attribute}
use Rattle.model.specs.Calls.{step, answers, done, removed, remove_attribute_found, remove, remove-attribute}
use Rattle.model.specs.Tree.{Tree}
use Rattle.model.specs.Tree as tree
use Rattle.laws.proofs.Wf.{WF}
use Rattle.laws.proofs.Sim.{Sim}
use Rattle.laws.proofs.Membership.{find-some}
use Rattle.laws.proofs.Basics.{by-handle, means-live}
use Rattle.laws.proofs.Nested.{nested}
use Rattle.laws.proofs.Unhook.{unhook-live, nested-unhook}
use Rattle.laws.proofs.Views.{view-live, find-attribute-agrees, listed-live}
use Rattle.laws.proofs.SimEdits.{sim-unhook}
use Rattle.laws.proofs.Gone.{sim-gone}
use Rattle.laws.proofs.WfEdits.{wf-removed, not_root}
use Rattle.laws.proofs.Guards.{stale-refused, Plain, guarded-same, refuse-zero}

-- an attribute is not the Root
pub named-not-root : {N T : Type 0} (q : N → Bool) (k : Kind N T) → any_option q (attribute_name k) ≡ true → is_root k ≡ false
named-not-root q root e = absurd (mathlib.Core.Bool.false≢true e)
named-not-root q (element n) e = refl
named-not-root q (attribute n v) e = refl
named-not-root q (text s) e = refl
named-not-root q (comment s) e = refl
named-not-root q (namespace p u) e = refl
named-not-root q (instruction s c) e = refl

module _ (d : Doc) (t : Tree) (hs : ℕ → ℕ) (S : Sim d t hs) (W : WF t) where
  pub removed-same : (b : ℕ) → t.live b ≡ true → b ≢ 0 → Sim (removed d (hs b)) (tree.removed t b) hs × WF (tree.removed t b)
  removed-same b lb b0 =
      (sim-gone (sim-unhook d t hs S W b lb) (nested-unhook (nested W) b) b (ap (λ (f : ℕ → Bool). f b) (unhook-live t b) ∙ lb) b0, wf-removed W b b0)

  pub step-remove : (h : ℕ) → Plain hs d (step (remove h) d) (tree.step (remove h) hs t)
  step-remove =
      by-handle d t hs S (λ h. Plain hs d (step (remove h) d) (tree.step (remove h) hs t))
      (λ b lb. rw (view-live d t hs S W b lb, means-live d t hs S b lb)
      (guarded-same d t hs S W (refuse_if (is_root (t.kind b)) 11) (answers (removed d (hs b)) done) (tree.answers (tree.removed t b) done)
      (λ z. let r = removed-same b lb (not_root W b (refuse-zero (is_root (t.kind b)) 10 z)) in inr (r.0, r.1, refl))))
      (λ h m r. rw (m, r) (guarded-same d t hs S W 6 (answers (removed d h) done) (tree.answers t done) (λ z. absurd (omega arith))))

  found-removed : (e : ℕ) → t.live e ≡ true → (n : Name) (o : Option ℕ) → find (tree.has_name t n) (t.lists attributes e) ≡ o
      → Plain hs d (remove_attribute_found (map_option hs o) d) (tree.remove_attribute_found o t)
  found-removed e le n None f = inr (S, W, refl)
  found-removed e le n (Some a) f =
      let m = find-some (tree.has_name t n) (t.lists attributes e) a f in
      let r = removed-same a (listed-live d t hs S W attributes e a le m.0) (not_root W a (named-not-root (same_name n) (t.kind a) m.1)) in
      inr (r.0, r.1, refl)

  pub step-remove-attribute : (h : ℕ) (ns local : List ℕ) → Plain hs d (step (remove-attribute h ns local) d) (tree.step (remove-attribute h ns local) hs t)
  step-remove-attribute h ns local =
      by-handle d t hs S (λ h. Plain hs d (step (remove-attribute h ns local) d) (tree.step (remove-attribute h ns local) hs t))
      (λ e le. rw (view-live d t hs S W e le, means-live d t hs S e le, find-attribute-agrees d t hs S W (name ns local) e le)
      (guarded-same d t hs S W (check_remove_attribute ns local (Some (t.kind e))) (remove_attribute_found (map_option hs (find (tree.has_name t (name ns local)) (t.lists attributes e))) d)
      (tree.remove_attribute_found (find (tree.has_name t (name ns local)) (t.lists attributes e)) t)
      (λ z. found-removed e le (name ns local) (find (tree.has_name t (name ns local)) (t.lists attributes e)) refl)))
      (λ h m r. rw (m, r) (guarded-same d t hs S W (first (not_utf8 (ns ∷ local ∷ [])) 6) _ _ (λ z. absurd (stale-refused (not_utf8 (ns ∷ local ∷ [])) z))))
      h
