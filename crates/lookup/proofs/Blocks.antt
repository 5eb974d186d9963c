-- The block of a live node, and a test of it for every handle.
-- Assumes nothing.
use Rattle.std.specs.Prelude.{None, Some}
use mathlib.Core.Path.{◌≡◌, sym, ap, ◌∙◌}
use mathlib.Core.Bool.{Bool, true, false, ◌&&◌, cond}
use mathlib.Core.List.{List}
use Prim.Native.Nat.{ℕ, ◌<◌}
use Rattle.words.proofs.Tests.{and_left}
use Rattle.blocks.specs.Arena.{Block, block}
use Rattle.blocks.specs.Held.{Held}
use Rattle.blocks.proofs.Decoded.{held}
use Rattle.records.specs.Handles.{word_of, handle_index}
use Rattle.records.specs.declared.NodeId.{NodeId}
use Rattle.records.specs.declared.Range.{Range}
use Rattle.records.specs.declared.Node.{Node}
use Rattle.records.proofs.Handles.{handle_index-word_of}
use Rattle.model.specs.Kinds.{Which}
use Rattle.model.specs.Doc.{Doc, resolves, live_slot, range_in}
use Rattle.model.specs.Rules.{block_in}
use Rattle.layout.specs.declared.Document.{Document}
use Rattle.layout.specs.Layout.{entries_of}
use Rattle.memory.specs.Decode.{block_of, range_of, arena_part, arena_used, resolved_in, pool_in, names_in, lengths_add, decode}
use Rattle.memory.proofs.Columns.{resolved-found, range-found}
use Rattle.memory.proofs.Shaped.{length-arena_part}
use Rattle.memory.specs.Undamaged.{Undamaged}
use Rattle.lookup.proofs.Viewed.{resolves-found, resolves-stale}

module _ (d : Document) (mem : List ℕ) (h : NodeId) (hi : h.index < 4294967296) (hg : h.generation < 4294967296) (w : Which) where
  abbrev D : Doc
  D = decode d mem

  module _ (m : Node) (e : resolved_in d mem h ≡ Some m) (r : Range) (q : block_of r ≡ range_of w m) where
    pub own_range : range_in (decode d mem) w h.index ≡ block_of r
    own_range =
        let f = resolved-found (pool_in d mem) (names_in d mem) (lengths_add d mem) d mem h hi hg m e in
        range-found (pool_in d mem) (names_in d mem) (lengths_add d mem) d mem h.index f.slot-made m f.loaded w ∙ sym q

    live : live_slot D h.index ≡ true
    live =
        ap (live_slot D) (sym (handle_index-word_of h hi))
        ∙ and_left (live_slot D (handle_index (word_of h))) _ (resolves-found d mem h hi hg m e)

    own_block : block_in D w h.index ≡ block_of r
    own_block = ap (λ (t : Bool). cond t (range_in D w h.index) (block 0 0)) live ∙ own_range

    -- a live node's block lies in the arena with its capacity
    pub block_held : Undamaged d mem → Held (arena_part d w mem) (entries_of d.limits w) (arena_used d w) r.start r.len
    block_held u = rw own_block at (held (arena_part d w mem) (entries_of d.limits w) (arena_used d w) h.index (block_in D w) (length-arena_part d mem u.memory w) (u.rules.blocks w))

    -- a test of the block, for every handle
    pub block-found : (f : Block → Bool) (t : Bool) → t ≡ f (block_of r) → t ≡ (resolves (decode d mem) (word_of h) && f (range_in (decode d mem) w (handle_index (word_of h))))
    block-found f t k =
        k
        ∙ sym (ap (λ (b : Bool). b && f (range_in D w (handle_index (word_of h)))) (resolves-found d mem h hi hg m e)
        ∙ ap (λ (i : ℕ). f (range_in D w i)) (handle_index-word_of h hi)
        ∙ ap f own_range)

  pub block-stale : (f : Block → Bool) → resolved_in d mem h ≡ None → false ≡ (resolves (decode d mem) (word_of h) && f (range_in (decode d mem) w (handle_index (word_of h))))
  block-stale f e = sym (ap (λ (b : Bool). b && f (range_in D w (handle_index (word_of h)))) (resolves-stale d mem h hi hg e))
