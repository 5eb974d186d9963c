-- What is read of the node in a slot.
-- Assumes nothing.
use Rattle.std.specs.Prelude.{None}
use mathlib.Core.Path.{◌≡◌, sym, ap, ◌∙◌}
use mathlib.Core.Bool.{Bool, true, false, ◌&&◌}
use mathlib.Core.List.{List}
use Prim.Native.Nat.{ℕ, ◌+◌, ◌*◌, ◌%◌, ◌≤◌, ◌<◌}
use native.Mathlib.Omega.{arith}
use lib.ListN.{get_or}
use lib.Dec.{eqb}
use Rattle.slots.specs.Regions.{generation_at}
use Rattle.model.specs.Doc as doc
use Rattle.model.specs.Doc.{even, live_slot, handle_at, parent_in, is_some, is_none}
use Rattle.layout.specs.declared.Document.{Document}
use Rattle.memory.specs.Decode.{slots_part, slots_made, pool_in, names_in, lengths_add, decode}
use Rattle.layout.specs.Layout.{memory_ok}
use Rattle.layout.proofs.Sizes.{sizes}
use Rattle.memory.proofs.Steps.{loaded-as}
use Rattle.memory.proofs.Columns.{generation-in, live_made, handle-in}
use Rattle.compaction.specs.Copies.{NodesEven}
use Rattle.compaction.proofs.Copying.{node_in}

-- whether it is live and has no parent
module _ (d : Document) (mem : List ℕ) (s : ℕ) (made : s < slots_made d) (g : ℕ) (f : g ≡ generation_at d.limits.nodes (slots_part d mem) s) where
  even_is : even (doc.generation_at (decode d mem) s) ≡ eqb (g % 2) 0
  even_is = ap even (generation-in (pool_in d mem) (names_in d mem) (lengths_add d mem) d mem s made) ∙ ap (λ (k : ℕ). eqb (k % 2) 0) (sym f)

  pub even-live : NodesEven (decode d mem) → eqb (g % 2) 0 ≡ true → live_slot (decode d mem) s ≡ true
  even-live N y =
      let e : even (doc.generation_at (decode d mem) s) ≡ true = even_is ∙ y in
      rw (e, N s e)

  pub top-even : live_slot (decode d mem) s ≡ true → (r : Bool) → r ≡ is_none (parent_in (decode d mem) s) → r ≡ (live_slot (decode d mem) s && is_none (parent_in (decode d mem) s))
  top-even l r e = e ∙ sym (ap (λ (k : Bool). k && is_none (parent_in (decode d mem) s)) l)

  pub top-odd : eqb (g % 2) 0 ≡ false → false ≡ (live_slot (decode d mem) s && is_none (parent_in (decode d mem) s))
  top-odd y =
      let odd : live_slot (decode d mem) s ≡ false =
      ap (λ (k : Bool). k && is_some (get_or (decode d mem).kinds s None)) (even_is ∙ y) in
      sym (ap (λ (k : Bool). k && is_none (parent_in (decode d mem) s)) odd)

pub nodes-few : (d : Document) (mem : ℕ) → memory_ok d mem ≡ true → d.limits.nodes ≤ 65536
nodes-few d mem ok = (sizes d mem ok).nodes

-- the handle of a live node
module _ (d : Document) (mem : List ℕ) (s : ℕ) (live : live_slot (decode d mem) s ≡ true) where
  slot-made : s < slots_made d
  slot-made = live_made (pool_in d mem) (names_in d mem) (lengths_add d mem) d mem s live

  pub slot-in : s < d.limits.nodes
  slot-in = omega (arith, slot-made)

  module _ (g : ℕ) (f : g ≡ generation_at d.limits.nodes (slots_part d mem) s) where
    pub word_fits : g < 4294967296
    word_fits = let n = node_in d mem s live in omega (arith, f, (loaded-as d.limits.nodes (slots_part d mem) s n.node n.loaded).generation)

    pub handle-read : s + g * 4294967296 ≡ handle_at (decode d mem) s
    handle-read = ap (λ (k : ℕ). s + k * 4294967296) f ∙ sym (handle-in (pool_in d mem) (names_in d mem) (lengths_add d mem) d mem s slot-made)
