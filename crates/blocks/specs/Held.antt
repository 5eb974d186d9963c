-- What the block editor asks of its caller: the words are ids and capacities, and the block lies in the arena with its capacity. It follows from rule 5.
use Rattle.std.specs.Prelude.{◌≡◌, List, ℕ, ◌+◌, ◌≤◌, length, drop}
use Rattle.blocks.specs.Arena.{block, capacity_of}

pub record Held (w : List ℕ) (limit used start len : ℕ) : Type 0 where
  pub twice : length w ≡ limit + limit
  pub fits : used ≤ limit
  pub inside : start + capacity_of (drop limit w) (block start len) ≤ used
