-- What the readers of the lent buffer cite, over plain values.
-- Assumes nothing.
use Rattle.std.specs.Prelude.{Option, None}
use mathlib.Core.Path.{◌≡◌, sym, ap, ◌∙◌}
use mathlib.Core.List.{List}
use Prim.Native.Nat.{ℕ, ◌+◌, ◌-◌, ◌*◌, ◌≤◌, ◌<◌, min}
use native.Mathlib.Omega.{arith}
use lib.ListN.{get_or, take, drop}
use lib.Seq.{get_or-take}
use borrow.Author.Tests.{lt-ltb, le-ltb}
use Rattle.words.specs.Parts.{part}
use Rattle.words.proofs.Parts.{lent, get_or-part, take_part, part-part}
use Rattle.records.specs.Records.{node_of}
use Rattle.slots.specs.Regions.{slots_words, generation_at, record_at, node_at}
use Rattle.records.specs.declared.NodeRecord.{NodeRecord}
use Rattle.records.specs.declared.Node.{Node}
use Rattle.records.specs.declared.Range.{Range}
use Rattle.model.specs.Kinds.{Which, attributes, namespaces}
use Rattle.layout.specs.declared.Document.{Document}
use Rattle.layout.specs.declared.Arena.{Arena}
use Rattle.layout.specs.declared.Arena.TheVariants.{Children, Attributes, Namespaces}
use Rattle.layout.specs.Layout.{which_of, limits_of, entries_of, slots_at, arena_at}
use Rattle.memory.specs.Decode.{block_of, element_range, range_of, slots_part, arena_part, arena_used, arena_in, loaded_at}
use Rattle.layout.specs.Record.{used_of}

-- the part of the slots, as it is lent
pub slots_lent : (d : Document) (mem : List ℕ) (start stop : ℕ) → start ≡ slots_at → stop ≡ start + slots_words d.limits.nodes
    → take (stop - start) (drop start mem) ≡ slots_part d mem
slots_lent d mem start stop e es = rw es (lent mem start (slots_words d.limits.nodes)) ∙ ap (λ (a : ℕ). part a (slots_words d.limits.nodes) mem) e

module _ (n : ℕ) (w : List ℕ) (s g : ℕ) (e : g ≡ generation_at n w s) where
  pub load-node : g < 4294967296 → (r : NodeRecord) (m : Option Node) → r ≡ record_at n w s → m ≡ node_of r → m ≡ loaded_at n w s
  unfolding node_at
  load-node h r m q k = k ∙ ap node_of q ∙ sym (rw (← e, lt-ltb g 4294967296 h))

  pub load-none : 4294967296 ≤ g → None ≡ loaded_at n w s
  load-none h = rw (← e, le-ltb g 4294967296 h)

pub entry_read : (d : Document) (w : Which) (mem : List ℕ) (start at : ℕ) → start ≡ arena_at (limits_of d.limits) w → at < entries_of d.limits w
    → get_or mem (start + at) 0 ≡ get_or (arena_in d w mem).ids at 0
entry_read d w mem start at e h =
    ap (λ (a : ℕ). get_or mem (a + at) 0) e
    ∙ sym (get_or-part mem (arena_at (limits_of d.limits) w) (2 * entries_of d.limits w) at 0 (omega arith))
    ∙ sym (get_or-take (entries_of d.limits w) (arena_part d w mem) at 0 h)

-- a block of an arena is a part of the memory
pub entries-read : (d : Document) (w : Which) (mem : List ℕ) (first start len : ℕ) → first ≡ arena_at (limits_of d.limits) w → start + len ≤ entries_of d.limits w
    → part start len (arena_in d w mem).ids ≡ part (first + start) len mem
entries-read d w mem first start len e h =
    let l = entries_of d.limits w in
    let at = arena_at (limits_of d.limits) w in
    ap (part start len) (take_part mem at (2 * l) l (omega arith))
    ∙ part-part mem at l start len h
    ∙ ap (λ (a : ℕ). part (a + start) len mem) (sym e)

-- the length of an arena, by the code's name of it
pub used-read : (d : Document) (a : Arena) (limit count r : ℕ) → limit ≡ (limits_of d.limits).entries (which_of a) → count ≡ used_of d.counts (which_of a)
    → r ≡ min count limit → r ≡ arena_used d (which_of a)
used-read d a limit count r e q k = k ∙ rw (e, q)

-- a node's block, by the code's name of the arena
module _ (a : Arena) (n : Node) (r : Range) where
  pub range-children : a ≡ Children → r ≡ n.children → block_of r ≡ range_of (which_of a) n
  range-children e q = rw (e, q)

  pub range-attributes : a ≡ Attributes → block_of r ≡ element_range attributes n.«data» → block_of r ≡ range_of (which_of a) n
  range-attributes e q = rw e q

  pub range-namespaces : a ≡ Namespaces → block_of r ≡ element_range namespaces n.«data» → block_of r ≡ range_of (which_of a) n
  range-namespaces e q = rw e q
