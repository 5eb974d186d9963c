-- Handles that resolve, and slots that are taken and freed.
use Rattle.records.specs.declared.Node.{Node}
use Rattle.std.specs.Prelude.{◌≡◌, ℕ, ◌+◌, ◌-◌, ◌%◌, ◌<◌, ◌≤◌, Bool, true, cond, ◌&&◌, ◌||◌, List, length, ◌==◌, nat_lt, Option, None}
use Rattle.records.specs.declared.NodeId.{NodeId}
use Rattle.slots.specs.declared.slot.Taken.{Taken}
use Rattle.records.specs.Records.{is_node}
use Rattle.slots.specs.Regions.{slots_words, generation_at, free_at, record_at, node_at, put_generation, put_free, put_order, no_position}

-- 01: "On freeing and on reuse a generation goes up by one, and from 4,294,967,295 to 0."
abbrev pub up : ℕ → ℕ
up g = (g + 1) % 4294967296

-- a slot was made, has the handle's generation, and that is even. 01: "Odd never resolves."
unfoldable pub is_current : ℕ → List ℕ → ℕ → NodeId → Bool
is_current n w made h = nat_lt h.index made && (generation_at n w h.index == h.generation && h.generation % 2 == 0)

-- 01, in damaged memory: "a slot whose words are no node as not resolving"
unfoldable pub resolves : ℕ → List ℕ → ℕ → NodeId → Bool
resolves n w made h = is_current n w made h && is_node (record_at n w h.index)

-- the node that a handle resolves to
unfoldable pub resolved : ℕ → List ℕ → ℕ → NodeId → Option Node
resolved n w made h = cond (is_current n w made h) (node_at n w h.index) None

-- ---- a slot is taken: n slots at most, `made` of them made, `free` of them on the free stack

-- 01, Full: "a slot when none is free"
abbrev pub has_slot : ℕ → ℕ → ℕ → Bool
has_slot n made free = nat_lt 0 free || nat_lt made n

module _ (n : ℕ) (w : List ℕ) (made free : ℕ) where
  -- 01: "Free slots and text slots are reused last freed first." A new slot only where none is free.
  abbrev pub taken_slot : ℕ
  taken_slot = cond (nat_lt 0 free) (free_at n w (free - 1)) made

  -- a reused slot has its generation raised, a new one has generation 0
  abbrev pub taken_generation : ℕ
  taken_generation = cond (nat_lt 0 free) (up (generation_at n w taken_slot)) 0

  unfoldable pub taken : Taken
  taken = record {
    id = record { index = taken_slot; generation = taken_generation };
    made = cond (nat_lt 0 free) made (made + 1);
    free = free - 1;
  }

  unfoldable pub taken_generations : List ℕ
  taken_generations = put_generation n w taken_slot taken_generation

  -- its order word is that of no position, whatever it held before
  unfoldable pub taken_words : List ℕ
  taken_words = put_order n taken_generations taken_slot no_position

  -- what a call that takes a slot asks: the lengths, a slot, and of the content what rules 1 and 2 say
  pub record CanTake : Type 0 where
    pub long : slots_words n ≤ length w
    pub narrow : n ≤ 4294967296
    pub made-slots : made ≤ n
    pub free-slots : free ≤ n
    pub slot : has_slot n made free ≡ true
    pub rule-2 : (i : ℕ) → i < free → free_at n w i < made
    pub rule-1 : (s : ℕ) → s < made → generation_at n w s < 4294967296

-- ---- a slot is freed: its generation goes up, and it is pushed

unfoldable pub freed_words : ℕ → List ℕ → ℕ → ℕ → List ℕ
freed_words n w free s = put_free n (put_generation n w s (up (generation_at n w s))) free s
