-- The Root's children and the element among them, over plain values.
-- Assumes nothing.
use Rattle.std.specs.Prelude.{None, Some}
use mathlib.Core.Path.{◌≡◌, refl, sym, ap, ◌∙◌}
use mathlib.Core.Bool.{Bool, true, ◌&&◌, cond}
use mathlib.Core.List.{List}
use Prim.Native.Nat.{ℕ, ◌+◌, ◌≤◌}
use native.Mathlib.Omega.{arith}
use lib.ListN.{drop}
use lib.Dec.{leb}
use borrow.Author.Tests.{le-leb}
use Rattle.words.specs.Lists.{find}
use Rattle.blocks.specs.Arena.{Block, block, list_of}
use Rattle.blocks.proofs.Capacities.{capacity-least}
use Rattle.records.specs.declared.NodeId.{NodeId}
use Rattle.records.specs.declared.Range.{Range}
use Rattle.records.specs.declared.Node.{Node}
use Rattle.model.specs.Kinds.{children}
use Rattle.model.specs.Doc.{Doc, root_handle, range_in, in_arena, shown_block, shows_element, root_element}
use Rattle.layout.specs.declared.Document.{Document}
use Rattle.memory.specs.Decode.{block_of, arena_part, arena_in, resolved_in, decode}
use Rattle.memory.specs.Undamaged.{Undamaged}
use Rattle.lookup.proofs.Viewed.{resolves-found, resolves-stale}
use Rattle.lookup.proofs.Blocks.{own_range, block_held}

abbrev top : NodeId
top = record { index = 0; generation = 0 }

-- ---- the block

module _ (d : Document) (mem : List ℕ) (u : Undamaged d mem) where
  abbrev D : Doc
  D = decode d mem

  pub root-block : (m : Node) → resolved_in d mem (record { index = 0; generation = 0 }) ≡ Some m
      → (block_of m.children ≡ shown_block (decode d mem) children root_handle) × (m.children.start + m.children.len ≤ d.limits.children)
  root-block m e =
      let r = m.children in
      let h = block_held d mem top (omega arith) (omega arith) children m e r refl u in
      let c : r.len ≤ _ = capacity-least (drop d.limits.children (arena_part d children mem)) (block_of r) in
      let k : range_in D children 0 ≡ block_of r = own_range d mem top (omega arith) (omega arith) children m e r refl in
      let i : leb (r.start + r.len) (arena_in d children mem).used ≡ true = le-leb (r.start + r.len) (arena_in d children mem).used (omega (arith, h.inside)) in
      let j : in_arena D children 0 ≡ true = ap (λ (b : Block). leb (b.start + b.len) (arena_in d children mem).used) k ∙ i in (
        sym (ap (λ (t : Bool). cond (t && in_arena D children 0) (range_in D children 0) (block 0 0)) (resolves-found d mem top (omega arith) (omega arith) m e)
            ∙ ap (λ (t : Bool). cond t (range_in D children 0) (block 0 0)) j
            ∙ k),
        omega (arith, h.inside, h.fits),
      )

  pub no-root-block : resolved_in d mem (record { index = 0; generation = 0 }) ≡ None → block 0 0 ≡ shown_block (decode d mem) children root_handle
  no-root-block e = sym (ap (λ (t : Bool). cond (t && in_arena D children 0) (range_in D children 0) (block 0 0)) (resolves-stale d mem top (omega arith) (omega arith) e))

pub root-listed : (d : Document) (mem : List ℕ) (b : Range) → block_of b ≡ shown_block (decode d mem) children root_handle
    → find (shows_element (decode d mem)) (list_of (arena_in d children mem) (block_of b)) ≡ root_element (decode d mem)
root-listed d mem b e = ap (λ (x : Block). find (shows_element (decode d mem)) (list_of (arena_in d children mem) x)) e
