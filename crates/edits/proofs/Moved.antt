-- The steps that take a node off its parent and put it under another.
-- Assumes nothing.
use Rattle.std.specs.Prelude.{Option, None, Some}
use mathlib.Core.Path.{◌≡◌, refl, sym, ap, subst, ◌∙◌}
use mathlib.Core.Bool.{true, false≢true}
use mathlib.Core.List.{List}
use Prim.Native.Nat.{ℕ, ◌<◌}
use native.Mathlib.Omega.{arith}
use lib.ListN.{length}
use Rattle.blocks.specs.Arena.{has_room}
use Rattle.blocks.specs.Rule.{Inside}
use Rattle.blocks.specs.Held.{Held}
use Rattle.blocks.proofs.Answers.{words-room}
use Rattle.blocks.proofs.Decoded.{after-length, after-removal-length}
use Rattle.records.specs.Fields.{ParentFits}
use Rattle.records.specs.Handles.{handle_index, word_of}
use Rattle.records.specs.declared.NodeId.{NodeId}
use Rattle.records.specs.declared.Range.{Range}
use Rattle.records.specs.declared.Node.{Node}
use Rattle.records.proofs.Handles.{handle_index-word_of}
use Rattle.model.specs.Kinds.{Which, which_of}
use Rattle.model.specs.Doc.{Doc, live_slot, kind_in, kind_at, parent_in, parent_at, range_in}
use Rattle.model.specs.Rules.{has_range}
use Rattle.model.specs.Edits.{set_parent, unlink_from, link, unlink, unhook, attach}
use Rattle.layout.specs.declared.Document.{Document}
use Rattle.layout.specs.Layout.{entries_of, memory_ok}
use Rattle.memory.specs.Decode.{kind_of, handle_of, block_of, loaded_at, slots_part, arena_part, slots_made, arena_used, pool_in, names_in, lengths_add, decode}
use Rattle.memory.specs.Writing.{put_parent}
use Rattle.memory.specs.Entries.{BlockHeld, BlockOpen, insertion, removal, range_from, put_block}
use Rattle.memory.proofs.Columns.{live_made, live-none, kind-found, parent-found}
use Rattle.memory.proofs.Shaped.{loaded-fits}
use Rattle.memory.proofs.BlockSteps as blocks
use Rattle.memory.proofs.Promises.{parent-promise, link-promise, unlink-promise}
use Rattle.memory.specs.Step.{Step}
use Rattle.layout.specs.Record.{outdated, with_used}
use Rattle.edits.specs.Asked.{NodeHeld, Hooked, Attachable}
use Rattle.memory.proofs.Past.{PastKept, words-past, block-past}
use Rattle.edits.proofs.Composed.{step-none, step-as, step-memory, step-next}

-- ---- a live node

module _ (d : Document) (mem : List ℕ) (id : NodeId) (hi : id.index < 4294967296) (h : NodeHeld d mem (word_of id)) where
  live_here : live_slot (decode d mem) id.index ≡ true
  live_here = ap (live_slot (decode d mem)) (sym (handle_index-word_of id hi)) ∙ h.live

  pub node_made : id.index < slots_made d
  node_made = live_made (pool_in d mem) (names_in d mem) (lengths_add d mem) d mem id.index live_here

  pub node-slot : id.index < d.limits.nodes
  node-slot = omega (arith, node_made)

  pub record Live : Type 0 where
    pub node : Node
    pub loaded : loaded_at d.limits.nodes (slots_part d mem) id.index ≡ Some node

  pub not_none : loaded_at d.limits.nodes (slots_part d mem) id.index ≡ None → ⊥
  not_none e = false≢true (sym (live-none (pool_in d mem) (names_in d mem) (lengths_add d mem) d mem id.index node_made e) ∙ live_here)

  pub live-node : Live
  live-node = go (loaded_at d.limits.nodes (slots_part d mem) id.index) refl
    where
      go : (l : Option Node) → loaded_at d.limits.nodes (slots_part d mem) id.index ≡ l → Live
      go (Some m) e = record { node = m; loaded = e }
      go None e = absurd (not_none e)

  pub kind-loaded : (m : Node) → loaded_at d.limits.nodes (slots_part d mem) id.index ≡ Some m → kind_at (decode d mem) (word_of id) ≡ kind_of m.«data»
  kind-loaded m e = kind-index (handle_index (word_of id)) (handle_index-word_of id hi)
    where
      kind-index : (i : ℕ) → i ≡ id.index → kind_in (decode d mem) i ≡ kind_of m.«data»
      kind-index i j = ap (kind_in (decode d mem)) j ∙ kind-found (pool_in d mem) (names_in d mem) (lengths_add d mem) d mem id.index node_made m e

  parent-past : (q : Option NodeId) → PastKept d mem (put_parent d mem id.index q)
  unfolding put_parent
  parent-past q = words-past d mem h.memory id.index node-slot _

  -- set_parent
  pub parent-step : (q : Option NodeId) → ParentFits q → (mem' : List ℕ) → mem' ≡ put_parent d mem id.index q → (r : Document) → r ≡ outdated d
      → Step d mem r mem' (set_parent (decode d mem) (word_of id) (handle_of q))
  parent-step q f mem' e r er =
      let l = live-node in
      let stepped : Step d mem (outdated d) (put_parent d mem id.index q) (set_parent (decode d mem) (word_of id) (handle_of q)) =
      record {
        document = parent-promise d mem h.memory id.index node_made l.node l.loaded q f (word_of id) (handle_index-word_of id hi);
        limits = refl;
        size = (parent-past q).size;
        past = (parent-past q).past;
      } in
      subst (λ (x : Document). Step d mem x mem' (set_parent (decode d mem) (word_of id) (handle_of q))) (sym er)
      (subst (λ (x : List ℕ). Step d mem (outdated d) x (set_parent (decode d mem) (word_of id) (handle_of q))) (sym e) stepped)

-- ---- an edit of a block

module _ (d : Document) (mem : List ℕ) (w : Which) (s : ℕ) (h : BlockHeld d mem w s) where
  abbrev b : Range
  b = range_from (range_in (decode d mem) w s)

  held : Held (arena_part d w mem) (entries_of d.limits w) (arena_used d w) b.start b.len
  held = blocks.block_held d mem w s h b (blocks.block-in d mem w s h)

  slot : s < d.limits.nodes
  slot = blocks.slot-in d mem w s h

  -- drop_entry
  removal-past : (id : ℕ) → PastKept d mem (put_block d mem w s (removal d mem w s id))
  unfolding removal
  removal-past id =
      block-past d mem h.memory w s slot (removal d mem w s id)
      (after-removal-length (arena_part d w mem) (entries_of d.limits w) (arena_used d w) b.start b.len held id)

  drop-step : (id p : ℕ) → handle_index p ≡ s → which_of (kind_at (decode d mem) id) ≡ w
      → Step d mem (outdated d) (put_block d mem w s (removal d mem w s id)) (unlink_from (Some p) (decode d mem) id)
  drop-step id p j k =
      record {
        document = unlink-promise d mem w s h id p j k;
        limits = refl;
        size = (removal-past id).size;
        past = (removal-past id).past;
      }

-- insert_entry
module _ (d : Document) (mem : List ℕ) (w : Which) (s : ℕ) (o : BlockOpen d mem w s) (k id : ℕ) where
  abbrev grown : Document
  grown = with_used d w (insertion d mem w s k id).arena.used

  insertion-past : PastKept d mem (put_block d mem w s (insertion d mem w s k id))
  unfolding insertion
  insertion-past =
      let b' = range_from (range_in (decode d mem) w s) in
      block-past d mem o.held.memory w s (slot d mem w s o.held) (insertion d mem w s k id)
      (ap length (sym (words-room (arena_part d w mem) ((decode d mem).arenas w) (block_of b') k id o.room))
      ∙ after-length (arena_part d w mem) (entries_of d.limits w) (arena_used d w) b'.start b'.len (held d mem w s o.held) k id)

  limits-grown : (with_used d w (insertion d mem w s k id).arena.used).limits ≡ d.limits
  unfolding with_used
  limits-grown = refl

  insert-step : (p : ℕ) → handle_index p ≡ s → Step d mem grown (put_block d mem w s (insertion d mem w s k id)) (link (decode d mem) w p k id)
  insert-step p j =
      record {
        document = link-promise d mem w s o.held o.room k id p j;
        limits = limits-grown;
        size = insertion-past.size;
        past = insertion-past.past;
      }

-- ---- a node unlinked

module _ (d : Document) (mem : List ℕ) (id : NodeId) (hi : id.index < 4294967296) (h : Hooked d mem (word_of id))
    (m : Node) (e : loaded_at d.limits.nodes (slots_part d mem) id.index ≡ Some m) where
  abbrev D : Doc
  D = decode d mem

  parent_is : parent_at (decode d mem) (word_of id) ≡ handle_of m.parent
  parent_is = parent-index (handle_index (word_of id)) (handle_index-word_of id hi)
    where
      parent-index : (i : ℕ) → i ≡ id.index → parent_in (decode d mem) i ≡ handle_of m.parent
      parent-index i j = ap (parent_in (decode d mem)) j ∙ parent-found (pool_in d mem) (names_in d mem) (lengths_add d mem) d mem id.index (node_made d mem id hi h.node) m e

  -- it has no parent
  pub unlink-none : m.parent ≡ None → Step d mem d mem (unlink (decode d mem) (word_of id))
  unfolding unlink
  unlink-none q =
      step-none d mem (unlink_from (parent_at D (word_of id)) D (word_of id))
      (ap (λ (x : Option ℕ). unlink_from x D (word_of id)) (sym (parent_is ∙ ap handle_of q)))

  -- it has one
  module _ (p : NodeId) (q : m.parent ≡ Some p) (w : Which) (k : w ≡ which_of (kind_of m.«data»)) where
    parent-fits : p.index < 4294967296
    parent-fits =
        let f = loaded-fits d.limits.nodes (slots_part d mem) id.index m e in
        let g : ParentFits (Some p) = subst ParentFits q f.fits-parent in
        g.0

    parent-some : parent_at (decode d mem) (word_of id) ≡ Some (word_of p)
    parent-some = parent_is ∙ ap handle_of q

    arena-is : which_of (kind_at (decode d mem) (word_of id)) ≡ w
    arena-is = ap which_of (kind-loaded d mem id hi h.node m e) ∙ sym k

    pub parent-held : BlockHeld d mem w p.index
    parent-held =
        subst (λ (i : ℕ). BlockHeld d mem w i) (handle_index-word_of p parent-fits)
        (subst (λ (v : Which). BlockHeld d mem v (handle_index (word_of p))) arena-is (h.block (word_of p) parent-some))

    pub unlink-some : (word : ℕ) → word ≡ word_of id → Step d mem (outdated d) (put_block d mem w p.index (removal d mem w p.index word)) (unlink (decode d mem) (word_of id))
    unfolding unlink
    unlink-some word ew =
        subst (λ (x : ℕ). Step d mem (outdated d) (put_block d mem w p.index (removal d mem w p.index x)) (unlink_from (parent_at D (word_of id)) D (word_of id))) (sym ew)
        (step-as d mem (outdated d) (put_block d mem w p.index (removal d mem w p.index (word_of id))) (unlink_from (Some (word_of p)) D (word_of id)) (unlink_from (parent_at D (word_of id)) D (word_of id))
        (drop-step d mem w p.index parent-held (word_of id) (word_of p) (handle_index-word_of p parent-fits) arena-is)
        (ap (λ (x : Option ℕ). unlink_from x D (word_of id)) (sym parent-some)))

-- ---- unhook: then it has no parent

pub live-unlink : (D : Doc) (h i : ℕ) → live_slot (unlink D h) i ≡ live_slot D i
unfolding unlink
live-unlink D h i = go (parent_at D h)
  where
    go : (q : Option ℕ) → live_slot (unlink_from q D h) i ≡ live_slot D i
    go None = refl
    go (Some p) = refl

module _ (d : Document) (mem : List ℕ) (h : ℕ) (e : Document) (mem₁ : List ℕ) (s : Step d mem e mem₁ (unlink (decode d mem) h)) where
  pub unlinked-node : NodeHeld d mem h → NodeHeld e mem₁ h
  unlinked-node n =
      record {
        memory = step-memory d mem e mem₁ (unlink (decode d mem) h) s n.memory;
        live = ap (λ (x : Doc). live_slot x (handle_index h)) s.document ∙ live-unlink (decode d mem) h (handle_index h) ∙ n.live;
      }

  pub unhook-step : (r : Document) (mem₂ : List ℕ) → Step e mem₁ r mem₂ (set_parent (decode e mem₁) h None) → Step d mem r mem₂ (unhook (decode d mem) h)
  unhook-step r mem₂ t = step-next d mem e mem₁ (unlink (decode d mem) h) s (λ (x : Doc). set_parent x h None) r mem₂ t

-- ---- attach: the parent is set, then the node is linked

module _ (d : Document) (mem : List ℕ) (w : Which) (h : ℕ) (parent : NodeId) (pi : parent.index < 4294967296)
    (e : Document) (mem₁ : List ℕ) (s : Step d mem e mem₁ (set_parent (decode d mem) h (Some (word_of parent)))) where
  abbrev S : Doc
  S = set_parent (decode d mem) h (Some (word_of parent))

  pub open-adopted : memory_ok d (length mem) ≡ true → (i : ℕ) → BlockOpen d mem w i → BlockOpen e mem₁ w i
  unfolding set_parent
  open-adopted ok i o =
      record {
        held = record {
          memory = step-memory d mem e mem₁ S s ok;
          counts = ap (λ (x : Doc). x.counts_fit) s.document ∙ o.held.counts;
          live = ap (λ (x : Doc). live_slot x i) s.document ∙ o.held.live;
          owner = ap (λ (x : Doc). has_range w (kind_in x i)) s.document ∙ o.held.owner;
          inside = subst (λ (x : Doc). Inside (x.arenas w) (range_in x w i)) (sym s.document) o.held.inside;
        };
        room = ap (λ (x : Doc). has_room (x.arenas w) (range_in x w i)) s.document ∙ o.room;
      }

  pub owner-open : Attachable d mem w (word_of parent) h → BlockOpen e mem₁ w parent.index
  owner-open a =
      subst (λ (i : ℕ). BlockOpen e mem₁ w i) (handle_index-word_of parent pi)
      (open-adopted a.node.memory (handle_index (word_of parent)) a.room)

  pub attach-step : Attachable d mem w (word_of parent) h → (k word : ℕ) → word ≡ h
      → Step d mem (with_used e w (insertion e mem₁ w parent.index k word).arena.used) (put_block e mem₁ w parent.index (insertion e mem₁ w parent.index k word)) (attach (decode d mem) w (word_of parent) k h)
  attach-step a k word ew =
      let i = insertion e mem₁ w parent.index k word in
      let r = with_used e w i.arena.used in
      let mem₂ = put_block e mem₁ w parent.index i in
      step-next d mem e mem₁ S s (λ (x : Doc). link x w (word_of parent) k h) r mem₂
      (step-as e mem₁ r mem₂ (link (decode e mem₁) w (word_of parent) k word) (link (decode e mem₁) w (word_of parent) k h)
      (insert-step e mem₁ w parent.index (owner-open a) k word (word_of parent) (handle_index-word_of parent pi))
      (ap (λ (v : ℕ). link (decode e mem₁) w (word_of parent) k v) ew))
