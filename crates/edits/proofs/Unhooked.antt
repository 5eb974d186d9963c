-- A block still lies in its arena once a node was taken off its parent.
-- Assumes nothing.
use Rattle.std.specs.Prelude.{Option, None, Some}
use mathlib.Core.Path.{◌≡◌, refl, sym, ap, subst, ◌∙◌}
use mathlib.Core.Bool.{Bool, true, false, cond}
use Prim.Native.Nat.{ℕ, ◌<◌}
use native.Mathlib.Decide.{ℕ_discrete}
use lib.ListN.{length, get_or, set}
use lib.Seq.{get_or-set_same, get_or-set_other}
use Rattle.blocks.specs.Arena.{Block, block, removed, has_room}
use Rattle.blocks.specs.Rule.{Inside, BlocksApart, at}
use Rattle.blocks.proofs.Apart.{at_same, at_other}
use Rattle.blocks.proofs.Removal.{remove-promise}
use Rattle.records.specs.Handles.{handle_index}
use Rattle.model.specs.Kinds.{Which, same_which, which_of}
use Rattle.model.specs.Doc.{Doc, live_slot, kind_in, kind_at, parent_at, range_in}
use Rattle.model.specs.Rules.{has_range, Blocks, block_in}
use Rattle.model.specs.Edits.{set_block, set_parent, unlink_from, unlink, unhook}
use Rattle.memory.proofs.Written.{same_which-true}
use Rattle.edits.specs.Asked.{RoomIn}

module _ (D : Doc) (blocks : Blocks D) (w : Which) (s : ℕ) (live : live_slot D s ≡ true) (inside : Inside (D.arenas w) (range_in D w s)) (long : s < length (D.ranges w)) where
  block-live : block_in D w s ≡ range_in D w s
  block-live = rw live

  -- an owner's block edited by a removal
  module _ (i id : ℕ) (li : live_slot D i ≡ true) (bi : i < length (D.ranges w)) where
    owner-block : block_in D w i ≡ range_in D w i
    owner-block = rw li

    abbrev R : Block
    R = range_in D w i

    removed-elsewhere : Inside (removed (D.arenas w) R id).arena (get_or (set (D.ranges w) i (removed (D.arenas w) R id).block) s (block 0 0))
    removed-elsewhere =
        let rule = subst (λ (x : Block). BlocksApart (removed (D.arenas w) x id).arena (at (block_in D w) i (removed (D.arenas w) x id).block)) owner-block
        (remove-promise (D.arenas w) (block_in D w) i (blocks w) id).rule in
        subst (λ (x : Block). Inside (removed (D.arenas w) R id).arena x) (here (ℕ_discrete s i)) (rule.inside s)
      where
        here : Dec (s ≡ i) → at (block_in D w) i (removed (D.arenas w) R id).block s ≡ get_or (set (D.ranges w) i (removed (D.arenas w) R id).block) s (block 0 0)
        here (yes e) =
            at_same (block_in D w) i (removed (D.arenas w) R id).block s e
            ∙ sym (ap (λ (k : ℕ). get_or (set (D.ranges w) i (removed (D.arenas w) R id).block) k (block 0 0)) e ∙ get_or-set_same (D.ranges w) i (removed (D.arenas w) R id).block (block 0 0) bi)
        here (no ne) =
            at_other (block_in D w) i (removed (D.arenas w) R id).block s ne
            ∙ block-live
            ∙ sym (get_or-set_other (D.ranges w) i s (removed (D.arenas w) R id).block (block 0 0) ne)

  -- in the arena of the removal, and in the two others
  pub unlinked-inside : (v : Which) (i id : ℕ) → live_slot D i ≡ true → i < length (D.ranges w)
      → Inside ((set_block D v i (removed (D.arenas v) (range_in D v i) id)).arenas w) (range_in (set_block D v i (removed (D.arenas v) (range_in D v i) id)) w s)
  unlinked-inside v i id li bi = go (same_which w v) refl
    where
      go : (t : Bool) → same_which w v ≡ t
          → Inside (cond t (removed (D.arenas v) (range_in D v i) id).arena (D.arenas w)) (get_or (cond t (set (D.ranges v) i (removed (D.arenas v) (range_in D v i) id).block) (D.ranges w)) s (block 0 0))
      go true e =
          subst (λ (x : Which). Inside (removed (D.arenas x) (range_in D x i) id).arena (get_or (set (D.ranges x) i (removed (D.arenas x) (range_in D x i) id).block) s (block 0 0))) (same_which-true w v e)
          (removed-elsewhere i id li bi)
      go false e = inside

  -- then it has room there, if the plan says so
  pub unhooked-room : (h : ℕ) → ((p : ℕ) → parent_at D h ≡ Some p → (live_slot D (handle_index p) ≡ true) × (handle_index p < length (D.ranges w)))
      → D.counts_fit ≡ true → has_range w (kind_in D s) ≡ true → has_room ((unhook D h).arenas w) (range_in (unhook D h) w s) ≡ true → RoomIn (unhook D h) w s
  unfolding unlink set_parent
  unhooked-room h above counts owner room = go (parent_at D h) refl room
    where
      go : (q : Option ℕ) → parent_at D h ≡ q → has_room ((unlink_from q D h).arenas w) (range_in (unlink_from q D h) w s) ≡ true → RoomIn (set_parent (unlink_from q D h) h None) w s
      go None e f = record { counts = counts; live = live; owner = owner; inside = inside; room = f }
      go (Some p) e f =
          let o = above p e in
          record {
            counts = counts;
            live = live;
            owner = owner;
            inside = unlinked-inside (which_of (kind_at D h)) (handle_index p) h o.0 o.1;
            room = f;
          }
