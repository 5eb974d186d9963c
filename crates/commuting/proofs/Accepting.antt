-- A move that the document accepts is one that the plain tree makes.
-- Assumes nothing.
use Rattle.std.proofs.lemmas.Option.{none-some, same_Some}
use Rattle.std.specs.Prelude.{Option, None, Some}
use mathlib.Core.Path.{◌≡◌, sym, ap, ◌∙◌}
use mathlib.Core.Bool.{true, false}
use Prim.Native.Nat.{ℕ}
use native.Mathlib.Omega.{arith}
use lib.ListN.{length}
use Rattle.model.specs.Kinds.{children, which_of, child_kind}
use Rattle.model.specs.Doc.{Doc, resolves, view_at, on_path}
use Rattle.model.specs.Checks.{View, check_move}
use Rattle.model.specs.Edits.{unhook}
use Rattle.model.specs.Calls.{is_refusal, move_to, root_taken, room_fits, other_than}
use Rattle.model.specs.Tree.{Tree, means, above, moved, root_element}
use Rattle.model.specs.Tree as tree
use Rattle.laws.proofs.Wf.{WF}
use Rattle.laws.proofs.Sim.{Sim}
use Rattle.laws.proofs.Basics.{by-handle, means-live}
use Rattle.laws.proofs.Views.{view-live, taken-by-other}
use Rattle.laws.proofs.Cycle.{cycle-agrees}
use Rattle.laws.proofs.Guards.{first-zero, stale-refused}
use Rattle.laws.proofs.WfEdits.{child-which}
use Rattle.edits.proofs.Accepted.{checked-room}

-- the births of the moved node and of its new parent, and the tree after the move
pub record Goes (t : Tree) (hs : ℕ → ℕ) (p : ℕ) (at : Option ℕ) (c : ℕ) : Type 0 where
  pub child : ℕ
  pub parent : ℕ
  pub is_child : means t hs c ≡ Some child
  pub is_parent : means t hs p ≡ Some parent
  pub listed : which_of (t.kind child) ≡ children
  pub went : (tree.move_to t (means t hs p) at (means t hs c)).tree ≡ moved t parent at child

module _ (d : Doc) (t : Tree) (hs : ℕ → ℕ) (S : Sim d t hs) (W : WF t) where
  abbrev check : View → View → ℕ → ℕ → ℕ
  check node parent p c = check_move node parent (on_path (length d.gens) d c p) (root_taken d (Some c))

  checked : (at : Option ℕ) (p c : ℕ) → is_refusal (move_to d p at c).answer ≡ false → check (view_at d c) (view_at d p) p c ≡ 0
  checked at p c f = (checked-room (check (view_at d c) (view_at d p) p c) (room_fits (unhook d c) children p) d _ f).0

  both-live : (at : Option ℕ) (c p : ℕ) → t.live c ≡ true → t.live p ≡ true → is_refusal (move_to d (hs p) at (hs c)).answer ≡ false
      → Goes t hs (hs p) at (hs c)
  both-live at c p lc lp f =
      let z : check_move (Some (t.kind c)) (Some (t.kind p)) (above t.births t.parent c p) (other_than (root_element t) (Some c)) ≡ 0 =
      sym (rw (view-live d t hs S W c lc, view-live d t hs S W p lp, cycle-agrees S W c p lc lp, taken-by-other d t hs S W c lc)) ∙ checked at (hs p) (hs c) f in
      record {
        child = c;
        parent = p;
        is_child = means-live d t hs S c lc;
        is_parent = means-live d t hs S p lp;
        listed = child-which (t.kind c) (first-zero (child_kind (t.kind c)) _ z).0;
        went = rw (means-live d t hs S c lc, means-live d t hs S p lp, z);
      }

  child-lives : (at : Option ℕ) (c : ℕ) → t.live c ≡ true → (p : ℕ) → is_refusal (move_to d p at (hs c)).answer ≡ false → Goes t hs p at (hs c)
  child-lives at c lc =
      by-handle d t hs S (λ p. is_refusal (move_to d p at (hs c)).answer ≡ false → Goes t hs p at (hs c))
      (λ p lp f. both-live at c p lc lp f)
      (λ p m r f. absurd (stale-parent p r f))
    where
      stale-parent : (p : ℕ) → resolves d p ≡ false → is_refusal (move_to d p at (hs c)).answer ≡ false → ⊥
      stale-parent p r f =
          let z : check_move (Some (t.kind c)) None (on_path (length d.gens) d (hs c) p) (root_taken d (Some (hs c))) ≡ 0 =
          sym (rw (view-live d t hs S W c lc, r)) ∙ checked at p (hs c) f in
          stale-refused (child_kind (t.kind c)) z

  pub goes : (at : Option ℕ) (p c : ℕ) → is_refusal (move_to d p at c).answer ≡ false → Goes t hs p at c
  goes at p =
      by-handle d t hs S (λ c. is_refusal (move_to d p at c).answer ≡ false → Goes t hs p at c)
      (λ c lc f. child-lives at c lc p f)
      (λ c m r f. let z : check None (view_at d p) p c ≡ 0 = sym (rw r) ∙ checked at p c f in absurd (omega arith))

  -- the birth that a handle means lives, and has it
  pub meant : (h b : ℕ) → means t hs h ≡ Some b → (t.live b ≡ true) × (hs b ≡ h)
  meant =
      by-handle d t hs S (λ h. (b : ℕ) → means t hs h ≡ Some b → (t.live b ≡ true) × (hs b ≡ h))
      (λ a la b e. let q : a ≡ b = same_Some a b (sym (means-live d t hs S a la) ∙ e) in (ap t.live (sym q) ∙ la, ap hs (sym q)))
      (λ h m r b e. absurd (none-some b (sym m ∙ e)))
