-- `detach`, `reparent` and `insert_at` are the plain tree's.
-- Assumes nothing.
use Rattle.std.specs.Prelude.{Option, None, Some}
use mathlib.Core.Path.{◌≡◌, refl, sym, ap, ◌∙◌, subst}
use mathlib.Core.Logic.{inr}
use mathlib.Core.Bool.{Bool, true, false, not, ◌&&◌}
use mathlib.Core.List.{List}
use Prim.Native.Nat.{ℕ}
use native.Mathlib.Omega.{arith}
use lib.ListN.{length, length-map}
use Rattle.names.specs.Table.{Name}
use Rattle.model.specs.Kinds.{Kind, children, is_container, is_element, is_root, child_kind}
use Rattle.model.specs.Doc.{Doc, or_else, list_at}
use Rattle.model.specs.Edits.{unhook, attach}
use Rattle.model.specs.Arguments.{first, refuse_if}
use Rattle.model.specs.Checks.{check_move}
use Rattle.model.specs.Calls.{step, answers, done, move_to, room_fits, other_than, detach, reparent, insert-at}
use Rattle.model.specs.Tree.{Tree, means, above}
use Rattle.model.specs.Tree as tree
use Rattle.laws.proofs.Wf.{WF}
use Rattle.laws.proofs.Sim.{Sim}
use Rattle.laws.proofs.Basics.{by-handle, means-live}
use Rattle.laws.proofs.Views.{view-live, taken-by-other}
use Rattle.laws.proofs.Cycle.{cycle-agrees}
use Rattle.laws.proofs.SimEdits.{sim-attach, sim-unhook}
use Rattle.laws.proofs.Unhook.{unhook-live, unhook-kind}
use Rattle.laws.proofs.WfEdits.{wf-unhooked, wf-moved, untaken-but, not_root, child-which, child-not-root}
use Rattle.laws.proofs.Guards.{stale-refused, Plain, Same, guarded-same, guarded-full, first-zero, refuse-zero, not-false-true}

-- what the checks of a move say of the two nodes
pub record Movable (node parent : Kind Name (List ℕ)) (cycle taken : Bool) : Type 0 where
  pub child : child_kind node ≡ 0
  pub under : is_container parent ≡ true
  pub no-cycle : cycle ≡ false
  pub one-root : is_root parent ≡ true → is_element node ≡ true → taken ≡ false

move-passed : (node parent : Kind Name (List ℕ)) (cycle taken : Bool) → check_move (Some node) (Some parent) cycle taken ≡ 0 → Movable node parent cycle taken
move-passed node parent cycle taken e =
    let a = first-zero (child_kind node) _ e in
    let b = first-zero (refuse_if (not (is_container parent)) 8) _ a.1 in
    let c = first-zero (refuse_if cycle 13) _ b.1 in
    let f = first-zero (refuse_if (is_root parent && (is_element node && taken)) 12) _ c.1 in
    record {
      child = a.0;
      under = not-false-true (is_container parent) (refuse-zero (not (is_container parent)) 7 b.0);
      no-cycle = refuse-zero cycle 12 c.0;
      one-root = λ r el. go (is_root parent) (is_element node) taken (refuse-zero (is_root parent && (is_element node && taken)) 11 f.0) r el;
    }
  where
    go : (r el q : Bool) → (r && (el && q)) ≡ false → r ≡ true → el ≡ true → q ≡ false
    go true true q e r el = e
    go true false q e r el = absurd (mathlib.Core.Bool.false≢true el)
    go false el q e r f = absurd (mathlib.Core.Bool.false≢true r)

module _ (d : Doc) (t : Tree) (hs : ℕ → ℕ) (S : Sim d t hs) (W : WF t) where
  pub step-detach : (h : ℕ) → Plain hs d (step (detach h) d) (tree.step (detach h) hs t)
  step-detach =
      by-handle d t hs S (λ h. Plain hs d (step (detach h) d) (tree.step (detach h) hs t))
      (λ b lb. rw (view-live d t hs S W b lb, means-live d t hs S b lb)
      (guarded-same d t hs S W (child_kind (t.kind b)) (answers (unhook d (hs b)) done) (tree.answers (tree.unhook t b) done)
      (λ z. inr (sim-unhook d t hs S W b lb, wf-unhooked W b (child-which (t.kind b) z), refl))))
      (λ h m r. rw (m, r) (guarded-same d t hs S W 6 (answers (unhook d h) done) (tree.answers (tree.unhook t 0) done) (λ z. absurd (omega arith))))

  live-after : (c b : ℕ) → t.live b ≡ true → (tree.unhook t c).live b ≡ true
  live-after c b lb = ap (λ (f : ℕ → Bool). f b) (unhook-live t c) ∙ lb

  -- the two nodes live, and the checks pass
  moved_same : (p : ℕ) (at : Option ℕ) (c : ℕ) → t.live p ≡ true → t.live c ≡ true
      → Movable (t.kind c) (t.kind p) (above t.births t.parent c p) (other_than (tree.root_element t) (Some c))
      → room_fits (unhook d (hs c)) children (hs p) ≡ true
      → Same hs
      (answers (attach (unhook d (hs c)) children (hs p) (or_else (length (list_at (unhook d (hs c)) children (hs p))) at) (hs c)) done)
      (tree.answers (tree.moved t p at c) done)
  moved_same p at c lp lc m room =
      let S₁ = sim-unhook d t hs S W c lc in
      let i : ℕ = or_else (length ((tree.unhook t c).lists children p)) at in
      let q : or_else (length (list_at (unhook d (hs c)) children (hs p))) at ≡ i = ap (λ (n : ℕ). or_else n at) (ap length (S₁.lists children p (live-after c p lp)) ∙ length-map ((tree.unhook t c).lists children p) hs) in (
        subst (λ (k : ℕ). Sim (attach (unhook d (hs c)) children (hs p) k (hs c)) (tree.moved t p at c) hs) (sym q)
            (sim-attach (unhook d (hs c)) (tree.unhook t c) hs S₁ children p i c (live-after c p lp) (ap (λ (f : ℕ → Kind Name (List ℕ)). is_container (f p)) (unhook-kind t c) ∙ m.under) room (live-after c c lc)),
        wf-moved W p at c lc lp (not_root W c (child-not-root (t.kind c) m.child)) (child-which (t.kind c) m.child) m.under m.no-cycle
            (λ e el a ma ea. untaken-but W c (m.one-root (ap is_root (ap t.kind e ∙ W.root_kind)) el) a ma ea),
        refl,
      )

  move_live : (at : Option ℕ) (c : ℕ) → t.live c ≡ true → (p : ℕ) → Plain hs d (move_to d p at (hs c)) (tree.move_to t (means t hs p) at (Some c))
  move_live at c lc =
      by-handle d t hs S (λ p. Plain hs d (move_to d p at (hs c)) (tree.move_to t (means t hs p) at (Some c)))
      (λ p lp. rw (view-live d t hs S W c lc, view-live d t hs S W p lp, means-live d t hs S p lp, cycle-agrees S W c p lc lp, taken-by-other d t hs S W c lc)
      (guarded-full d t hs S W (check_move (Some (t.kind c)) (Some (t.kind p)) (above t.births t.parent c p) (other_than (tree.root_element t) (Some c)))
      (room_fits (unhook d (hs c)) children (hs p)) _ _
      (λ z room. inr (moved_same p at c lp lc (move-passed (t.kind c) (t.kind p) _ _ z) room))))
      (λ p m r. rw (view-live d t hs S W c lc, m, r)
      (guarded-full d t hs S W (first (child_kind (t.kind c)) 6) (room_fits (unhook d (hs c)) children p) _ _ (λ z room. absurd (stale-refused (child_kind (t.kind c)) z))))

  pub step_move : (at : Option ℕ) (p c : ℕ) → Plain hs d (move_to d p at c) (tree.move_to t (means t hs p) at (means t hs c))
  step_move at p =
      by-handle d t hs S (λ c. Plain hs d (move_to d p at c) (tree.move_to t (means t hs p) at (means t hs c)))
      (λ c lc. rw (means-live d t hs S c lc) (move_live at c lc p))
      (λ c m r. rw (m, r) (guarded-full d t hs S W 6 (room_fits (unhook d c) children p) _ (tree.answers t done) (λ z room. absurd (omega arith))))

  pub step-reparent : (c p : ℕ) → Plain hs d (step (reparent c p) d) (tree.step (reparent c p) hs t)
  step-reparent c p = step_move None p c

  pub step-insert : (p i c : ℕ) → Plain hs d (step (insert-at p i c) d) (tree.step (insert-at p i c) hs t)
  step-insert p i c = step_move (Some i) p c
