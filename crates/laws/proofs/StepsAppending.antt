-- The calls that make a node are the plain tree's.
-- Assumes nothing.
use Rattle.std.specs.Prelude.{Option, None, Some}
use mathlib.Core.Path.{◌≡◌, refl, sym, ap, ◌∙◌, subst}
use mathlib.Core.Logic.{inr}
use mathlib.Core.Bool.{Bool, true, false, not, cond, ◌&&◌, false≢true, true≢false}
use mathlib.Core.List.{List, [], ◌∷◌}
use Prim.Native.Nat.{ℕ, zero, suc, ◌<◌}
use native.Mathlib.Omega.{arith}
use lib.ListN.{length}
use Rattle.words.proofs.Tests.{and_left, and_right}
use Rattle.texts.specs.Pool.{Pool, stored_slot, stored, slots_for}
use Rattle.names.specs.Table.{Name, name, number_of, interned}
use Rattle.model.specs.Kinds.{Kind, element, text, comment, instruction, Which, children, is_container, is_element, is_root, owns, which_of}
use Rattle.model.specs.Doc.{Doc}
use Rattle.model.specs.Edits.{next_handle}
use Rattle.model.specs.Arguments.{first, refuse_if, not_utf8, name_check, namespace_check, comment_check, instruction_check}
use Rattle.model.specs.Checks.{container, text_under, check_append_element, check_append_text, check_append_comment, check_append_pi}
use Rattle.model.specs.Calls.{made, step, guarded, full_unless, slot_fits, room_fits, node_fits, text_fits, two_fit, name_fits_in, appended, appends, with_two, stored_two, other_than, append-element, append-text, append-comment, append-pi}
use Rattle.model.specs.Calls as calls
use Rattle.model.specs.Tree.{Tree}
use Rattle.model.specs.Tree as tree
use Rattle.laws.specs.Claim.{no_step, handle_told_from}
use Rattle.laws.proofs.Wf.{WF}
use Rattle.laws.proofs.Sim.{Sim}
use Rattle.laws.proofs.Basics.{by-handle, means-live}
use Rattle.laws.proofs.Stores.{Stores, stores-element, stores-text, stores-comment, stores-instruction}
use Rattle.laws.proofs.SimAppended.{sim-appended}
use Rattle.laws.proofs.NestedEdits.{NoRootElement}
use Rattle.laws.proofs.WfEdits.{wf-appended, untaken}
use Rattle.laws.proofs.Views.{view-live, taken-agrees}
use Rattle.laws.proofs.Guards.{stale-refused, Plain, guarded-full, first-zero, refuse-zero, not-false-true}
use Rattle.laws.proofs.Runs.{Told}

module _ (d : Doc) (t : Tree) (hs : ℕ → ℕ) (S : Sim d t hs) (W : WF t) where
  -- a node at the end of p's list
  pub appended-same : (w : Which) (p : ℕ) (k : Kind ℕ (Option ℕ)) (pool : Pool) (names : List (Option Name)) (kind : Kind Name (List ℕ))
      → t.live p ≡ true → which_of kind ≡ w → owns w (t.kind p) ≡ true → is_root kind ≡ false → (p ≡ 0 → is_element kind ≡ true → NoRootElement t)
      → Stores d k pool names kind → node_fits d w (hs p) ≡ true → hs t.births ≡ next_handle d
      → Sim (appended d w (hs p) k pool names) (tree.appended t w p kind) hs × WF (tree.appended t w p kind)
  appended-same w p k pool names kind lp which own nr one K fits told = (
    sim-appended d t hs S k pool names kind w p K lp own (and_left (slot_fits d) (room_fits d w (hs p)) fits) (and_right (slot_fits d) (room_fits d w (hs p)) fits) told,
    subst (λ (x : Which). WF (tree.appended t x p kind)) which (wf-appended W p kind lp (subst (λ (x : Which). owns x (t.kind p) ≡ true) (sym which) own) nr one),
  )

  -- what is told of a call that both sides accept
  pub told-accepted : (n : ℕ) (fits : Bool) (from : Option ℕ) (o : calls.Out) (u : tree.Out) → no_step o.answer ≡ false → t.births < u.tree.births
      → (t.births < (cond (no_step (guarded (first n (full_unless fits)) d o).answer) t (tree.guarded n t u).tree).births
      → hs t.births ≡ handle_told_from from (guarded (first n (full_unless fits)) d o))
      → n ≡ 0 → fits ≡ true → hs t.births ≡ handle_told_from from o
  unfolding guarded
  told-accepted zero true from o u full more h z f = h (rw full more)
  told-accepted zero false from o u full more h z f = absurd (false≢true f)
  told-accepted (suc n) fits from o u full more h z f = absurd (omega arith)

  pub appended-births : (w : Which) (p : ℕ) (kind : Kind Name (List ℕ)) → t.births < (tree.appended t w p kind).births
  unfolding tree.born tree.set_parent tree.set_list
  appended-births w p kind = omega arith

  -- a child, under the checks n and the test of its texts and name
  appends-child : (n : ℕ) (holds : Bool) (p : ℕ) (k : Kind ℕ (Option ℕ)) (pool : Pool) (names : List (Option Name)) (kind : Kind Name (List ℕ))
      → t.live p ≡ true → which_of kind ≡ children → is_root kind ≡ false
      → (n ≡ 0 → (is_container (t.kind p) ≡ true) × (p ≡ 0 → is_element kind ≡ true → NoRootElement t))
      → (holds ≡ true → Stores d k pool names kind)
      → (t.births < (cond (no_step (guarded (first n (full_unless (holds && node_fits d children (hs p)))) d (appends d (hs p) k pool names)).answer) t (tree.appends n t p kind).tree).births
      → hs t.births ≡ handle_told_from None (guarded (first n (full_unless (holds && node_fits d children (hs p)))) d (appends d (hs p) k pool names)))
      → Plain hs d (guarded (first n (full_unless (holds && node_fits d children (hs p)))) d (appends d (hs p) k pool names)) (tree.appends n t p kind)
  appends-child n holds p k pool names kind lp which nr checks K told =
      guarded-full d t hs S W n (holds && node_fits d children (hs p)) (appends d (hs p) k pool names) (tree.answers (tree.appended t children p kind) (made t.births))
      (λ z fits.
      let q = told-accepted n (holds && node_fits d children (hs p)) None (appends d (hs p) k pool names) (tree.answers (tree.appended t children p kind) (made t.births)) refl (appended-births children p kind) told z fits in
      let c = checks z in
      let r = appended-same children p k pool names kind lp which c.0 nr c.1 (K (and_left holds (node_fits d children (hs p)) fits)) (and_right holds (node_fits d children (hs p)) fits) q in
      inr (r.0, r.1, ap {B = calls.Answer ℕ Name (Unit {0})} made (sym q)))

  container-passed : (k : Kind Name (List ℕ)) → container (Some k) ≡ 0 → is_container k ≡ true
  container-passed k e = not-false-true (is_container k) (refuse-zero (not (is_container k)) 7 e)

  -- a child that is no element, under checks that begin with 1 and the container's
  no-element : (utf8 rest : ℕ) (p : ℕ) (kind : Kind Name (List ℕ)) → is_element kind ≡ false → first utf8 (first (container (Some (t.kind p))) rest) ≡ 0
      → (is_container (t.kind p) ≡ true) × (p ≡ 0 → is_element kind ≡ true → NoRootElement t)
  no-element utf8 rest p kind ne z =
      (container-passed (t.kind p) (first-zero (container (Some (t.kind p))) rest (first-zero utf8 _ z).1).0, λ e el. absurd (true≢false (sym el ∙ ne)))

  -- a stale parent
  stale-parent : (utf8 : ℕ) (fits : Bool) (o : calls.Out) (u : tree.Out) → Plain hs d (guarded (first (first utf8 6) (full_unless fits)) d o) (tree.guarded (first utf8 6) t u)
  stale-parent utf8 fits o u = guarded-full d t hs S W (first utf8 6) fits o u (λ z f. absurd (stale-refused utf8 z))

  pub step-append-text : (s : List ℕ) (h : ℕ) → Told hs (append-text h s) d t → Plain hs d (step (append-text h s) d) (tree.step (append-text h s) hs t)
  step-append-text s =
      by-handle d t hs S (λ h. Told hs (append-text h s) d t → Plain hs d (step (append-text h s) d) (tree.step (append-text h s) hs t))
      (λ p lp. rw (view-live d t hs S W p lp, means-live d t hs S p lp)
      (appends-child (check_append_text s (Some (t.kind p))) (text_fits d (slots_for s) 0 (length s)) p (text (stored_slot d.pool s)) (stored d.pool s) d.names (text s) lp refl refl
      (no-element (not_utf8 (s ∷ [])) (text_under (is_root (t.kind p)) s) p (text s) refl)
      (stores-text d t hs S s)))
      (λ h m r told. rw (m, r)
      (stale-parent (not_utf8 (s ∷ [])) (text_fits d (slots_for s) 0 (length s) && node_fits d children h) (appends d h (text (stored_slot d.pool s)) (stored d.pool s) d.names) (tree.answers (tree.appended t children 0 (text s)) (made t.births))))

  pub step-append-comment : (s : List ℕ) (h : ℕ) → Told hs (append-comment h s) d t → Plain hs d (step (append-comment h s) d) (tree.step (append-comment h s) hs t)
  step-append-comment s =
      by-handle d t hs S (λ h. Told hs (append-comment h s) d t → Plain hs d (step (append-comment h s) d) (tree.step (append-comment h s) hs t))
      (λ p lp. rw (view-live d t hs S W p lp, means-live d t hs S p lp)
      (appends-child (check_append_comment s (Some (t.kind p))) (text_fits d (slots_for s) 0 (length s)) p (comment (stored_slot d.pool s)) (stored d.pool s) d.names (comment s) lp refl refl
      (no-element (not_utf8 (s ∷ [])) (comment_check s) p (comment s) refl)
      (stores-comment d t hs S s)))
      (λ h m r told. rw (m, r)
      (stale-parent (not_utf8 (s ∷ [])) (text_fits d (slots_for s) 0 (length s) && node_fits d children h) (appends d h (comment (stored_slot d.pool s)) (stored d.pool s) d.names) (tree.answers (tree.appended t children 0 (comment s)) (made t.births))))

  pub step-append-pi : (s c : List ℕ) (h : ℕ) → Told hs (append-pi h s c) d t → Plain hs d (step (append-pi h s c) d) (tree.step (append-pi h s c) hs t)
  step-append-pi s c =
      by-handle d t hs S (λ h. Told hs (append-pi h s c) d t → Plain hs d (step (append-pi h s c) d) (tree.step (append-pi h s c) hs t))
      (λ p lp. rw (view-live d t hs S W p lp, means-live d t hs S p lp)
      (appends-child (check_append_pi s c (Some (t.kind p))) (two_fit d s c) p (with_two d instruction s c) (stored_two d s c) d.names (instruction s c) lp refl refl
      (no-element (not_utf8 (s ∷ c ∷ [])) (instruction_check s c) p (instruction s c) refl)
      (stores-instruction d t hs S s c)))
      (λ h m r told. rw (m, r)
      (stale-parent (not_utf8 (s ∷ c ∷ [])) (two_fit d s c && node_fits d children h) (appends d h (with_two d instruction s c) (stored_two d s c) d.names) (tree.answers (tree.appended t children 0 (instruction s c)) (made t.births))))

  -- an element: the Root has at most one
  element-passed : (utf8 rest : ℕ) (p : ℕ) (kind : Kind Name (List ℕ))
      → first utf8 (first (container (Some (t.kind p))) (first (refuse_if (is_root (t.kind p) && other_than (tree.root_element t) None) 12) rest)) ≡ 0
      → (is_container (t.kind p) ≡ true) × (p ≡ 0 → is_element kind ≡ true → NoRootElement t)
  element-passed utf8 rest p kind z =
      let a = (first-zero utf8 _ z).1 in
      let b = first-zero (container (Some (t.kind p))) _ a in
      let c = refuse-zero (is_root (t.kind p) && other_than (tree.root_element t) None) 11 (first-zero (refuse_if (is_root (t.kind p) && other_than (tree.root_element t) None) 12) rest b.1).0 in
      (container-passed (t.kind p) b.0, λ e el. untaken W (under (is_root (t.kind p)) (ap is_root (ap t.kind e ∙ W.root_kind)) c))
    where
      under : (r : Bool) → r ≡ true → (r && other_than (tree.root_element t) None) ≡ false → other_than (tree.root_element t) None ≡ false
      under true e f = f
      under false e f = absurd (false≢true e)

  pub step-append-element : (ns local : List ℕ) (h : ℕ) → Told hs (append-element h ns local) d t
      → Plain hs d (step (append-element h ns local) d) (tree.step (append-element h ns local) hs t)
  step-append-element ns local =
      by-handle d t hs S (λ h. Told hs (append-element h ns local) d t → Plain hs d (step (append-element h ns local) d) (tree.step (append-element h ns local) hs t))
      (λ p lp. rw (view-live d t hs S W p lp, means-live d t hs S p lp, taken-agrees d t hs S W)
      (appends-child (check_append_element ns local (Some (t.kind p)) (other_than (tree.root_element t) None)) (name_fits_in d (name ns local)) p (element (number_of d.names (name ns local))) d.pool (interned d.names (name ns local)) (element (name ns local)) lp refl refl
      (element-passed (not_utf8 (ns ∷ local ∷ [])) (first (name_check local) (namespace_check ns)) p (element (name ns local)))
      (stores-element d t hs S (name ns local))))
      (λ h m r told. rw (m, r)
      (stale-parent (not_utf8 (ns ∷ local ∷ [])) (name_fits_in d (name ns local) && node_fits d children h)
      (appends d h (element (number_of d.names (name ns local))) d.pool (interned d.names (name ns local))) (tree.answers (tree.appended t children 0 (element (name ns local))) (made t.births))))
