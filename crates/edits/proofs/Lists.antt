-- The end of a list, and a node that goes from one list to another.
-- Assumes nothing.
use mathlib.Core.Path.{◌≡◌, sym, ap, subst, ◌∙◌}
use mathlib.Core.Bool.{true}
use mathlib.Core.List.{List}
use Prim.Native.Nat.{ℕ, ◌<◌}
use lib.ListN.{length}
use Rattle.blocks.specs.Arena.{Block}
use Rattle.blocks.proofs.Edits.{list_length}
use Rattle.blocks.proofs.Halves.{shaped-held}
use Rattle.records.specs.Handles.{handle_index, word_of}
use Rattle.records.specs.declared.NodeId.{NodeId}
use Rattle.records.specs.declared.Range.{Range}
use Rattle.records.proofs.Handles.{handle_index-word_of}
use Rattle.model.specs.Kinds.{Which, children}
use Rattle.model.specs.Doc.{Doc, live_slot, range_in, list_in, list_at}
use Rattle.model.specs.Edits.{set_parent, unhook, attach}
use Rattle.layout.specs.declared.Document.{Document}
use Rattle.layout.specs.Layout.{entries_of, memory_ok}
use Rattle.memory.specs.Decode.{block_of, range_loaded, loaded_at, slots_part, arena_part, arena_used, decode}
use Rattle.memory.specs.Entries.{BlockHeld, BlockOpen, range_from}
use Rattle.memory.proofs.BlockSteps as blocks
use Rattle.memory.specs.Step.{Step}
use Rattle.edits.specs.Asked.{Attachable, RoomIn, Movable}
use Rattle.edits.proofs.Composed.{step-as, step-memory, step-next}
use Rattle.edits.proofs.Moved.{live-unlink}

-- ---- the end of a list

module _ (d : Document) (mem : List ℕ) (w : Which) (s : ℕ) (h : BlockHeld d mem w s) where
  list-long : length (list_in (decode d mem) w s) ≡ (range_in (decode d mem) w s).len
  list-long =
      let b = range_from (range_in (decode d mem) w s) in
      let k = blocks.block_held d mem w s h b (blocks.block-in d mem w s h) in
      list_length ((decode d mem).arenas w) (range_in (decode d mem) w s) (shaped-held (arena_part d w mem) (entries_of d.limits w) (arena_used d w) b.start b.len k) h.inside

  block-long : (b : Range) → block_of b ≡ range_loaded w (loaded_at d.limits.nodes (slots_part d mem) s) → b.len ≡ length (list_in (decode d mem) w s)
  block-long b e = ap (λ (x : Block). x.len) (e ∙ sym (blocks.block-in d mem w s h)) ∙ sym list-long

module _ (d : Document) (mem : List ℕ) (w : Which) (parent : NodeId) (pi : parent.index < 4294967296) (h : ℕ) (a : Attachable d mem w (word_of parent) h) where
  owner-held : BlockHeld d mem w parent.index
  owner-held = subst (λ (i : ℕ). BlockHeld d mem w i) (handle_index-word_of parent pi) a.room.held

  pub owner-slot : parent.index < d.limits.nodes
  owner-slot = blocks.slot-in d mem w parent.index owner-held

  pub last_step : (b : Range) → block_of b ≡ range_loaded w (loaded_at d.limits.nodes (slots_part d mem) parent.index)
      → (r : Document) (mem' : List ℕ) → Step d mem r mem' (attach (decode d mem) w (word_of parent) b.len h)
      → Step d mem r mem' (attach (decode d mem) w (word_of parent) (length (list_at (decode d mem) w (word_of parent))) h)
  last_step b e r mem' s =
      step-as d mem r mem' (attach (decode d mem) w (word_of parent) b.len h)
      (attach (decode d mem) w (word_of parent) (length (list_at (decode d mem) w (word_of parent))) h) s
      (ap (λ (k : ℕ). attach (decode d mem) w (word_of parent) k h)
      (block-long d mem w parent.index owner-held b e ∙ ap (λ (i : ℕ). length (list_in (decode d mem) w i)) (sym (handle_index-word_of parent pi))))

-- ---- a move

pub room_open : (d : Document) (mem : List ℕ) (w : Which) (s : ℕ) → memory_ok d (length mem) ≡ true → RoomIn (decode d mem) w s → BlockOpen d mem w s
room_open d mem w s ok r =
    record {
      held = record { memory = ok; counts = r.counts; live = r.live; owner = r.owner; inside = r.inside };
      room = r.room;
    }

live-unhook : (D : Doc) (h i : ℕ) → live_slot (unhook D h) i ≡ live_slot D i
unfolding set_parent
live-unhook D h i = live-unlink D h i

module _ (d : Document) (mem : List ℕ) (p h : ℕ) (m : Movable d mem p h) (e : Document) (mem₁ : List ℕ) (s : Step d mem e mem₁ (unhook (decode d mem) h)) where
  pub moved_ready : Attachable e mem₁ children p h
  moved_ready =
      let ok = step-memory d mem e mem₁ (unhook (decode d mem) h) s m.hooked.node.memory in
      record {
        node = record {
          memory = ok;
          live = ap (λ (x : Doc). live_slot x (handle_index h)) s.document ∙ live-unhook (decode d mem) h (handle_index h) ∙ m.hooked.node.live;
        };
        room = room_open e mem₁ children (handle_index p) ok (subst (λ (x : Doc). RoomIn x children (handle_index p)) (sym s.document) m.room);
      }

  pub insert-at-step : (k : ℕ) (r : Document) (mem₂ : List ℕ) → Step e mem₁ r mem₂ (attach (decode e mem₁) children p k h) → Step d mem r mem₂ (attach (unhook (decode d mem) h) children p k h)
  insert-at-step k r mem₂ t = step-next d mem e mem₁ (unhook (decode d mem) h) s (λ (x : Doc). attach x children p k h) r mem₂ t

  pub reparent-step : (r : Document) (mem₂ : List ℕ) → Step e mem₁ r mem₂ (attach (decode e mem₁) children p (length (list_at (decode e mem₁) children p)) h)
      → Step d mem r mem₂ (attach (unhook (decode d mem) h) children p (length (list_at (unhook (decode d mem) h) children p)) h)
  reparent-step r mem₂ t = step-next d mem e mem₁ (unhook (decode d mem) h) s (λ (x : Doc). attach x children p (length (list_at x children p)) h) r mem₂ t
