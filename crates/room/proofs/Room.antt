-- What Full asks, over plain values: slots, and the entries of a live node's block.
-- Assumes nothing.
use mathlib.Core.Path.{◌≡◌, refl, sym, ap, ◌∙◌}
use mathlib.Core.Bool.{Bool, true, false, ◌&&◌, ◌||◌}
use mathlib.Core.List.{List, [], ◌∷◌}
use Prim.Native.Nat.{ℕ}
use native.Mathlib.Omega.{arith}
use lib.ListN.{length, length-reverse}
use lib.Dec.{ltb}
use borrow.Author.Tests.{lt-ltb}
use Rattle.words.specs.Lists.{tabulate}
use Rattle.words.proofs.Lists.{length-tabulate}
use Rattle.slots.specs.Regions.{free_at}
use Rattle.slots.specs.Slots.{has_slot}
use Rattle.model.specs.Kinds.{Which}
use Rattle.model.specs.Doc.{Doc, resolves}
use Rattle.model.specs.Calls.{slot_fits_from, slot_fits, node_fits}
use Rattle.layout.specs.declared.Document.{Document}
use Rattle.memory.specs.Decode.{slots_part, slots_made, slots_free, pool_in, names_in, lengths_add, decode}
use Rattle.memory.proofs.Columns.{length-gens}

-- ---- a slot

slot-from : (l : List ℕ) (D : Doc) → slot_fits_from l D ≡ (ltb 0 (length l) || ltb (length D.gens) D.limits.nodes)
slot-from [] D = refl
slot-from (i ∷ l) D = sym (rw (lt-ltb 0 (length (i ∷ l)) (omega arith)))

pub slot-fits : (d : Document) (made free : ℕ) (r : Bool) → made ≡ slots_made d → free ≡ slots_free d → r ≡ has_slot d.limits.nodes made free
    → (mem : List ℕ) → r ≡ slot_fits (decode d mem)
slot-fits d made free r em ef e mem =
    let stack = tabulate (free_at d.limits.nodes (slots_part d mem)) (slots_free d) in
    let f : length (decode d mem).free ≡ slots_free d = length-reverse stack ∙ length-tabulate (free_at d.limits.nodes (slots_part d mem)) (slots_free d) in
    (rw (em, ef) at e)
    ∙ sym (slot-from (decode d mem).free (decode d mem)
    ∙ ap (λ (k : ℕ). ltb 0 k || ltb (length (decode d mem).gens) d.limits.nodes) f
    ∙ ap (λ (k : ℕ). ltb 0 (slots_free d) || ltb k d.limits.nodes) (length-gens (pool_in d mem) (names_in d mem) (lengths_add d mem) d mem))

-- ---- a node with what else it takes
module _ (D : Doc) (w : Which) (h : ℕ) (live : resolves D h ≡ true) (t x : Bool) (e : t ≡ x) where
  pub fits_both : t ≡ true → (u : Bool) → u ≡ (resolves D h && node_fits D w h) → u ≡ (x && node_fits D w h)
  fits_both k u q =
      let a : u ≡ node_fits D w h = rw live at q in
      let b : (x && node_fits D w h) ≡ node_fits D w h = rw (sym e ∙ k) in
      a ∙ sym b

  pub fits-neither : t ≡ false → t ≡ (x && node_fits D w h)
  fits-neither k = k ∙ sym (rw (← e, k))
