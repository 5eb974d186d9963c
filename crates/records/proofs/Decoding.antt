-- What the functions between words and nodes cite: bounds for the casts, and each way through the definitions.
-- Assumes nothing.
use mathlib.Core.Path.{◌≡◌}
use mathlib.Core.Bool.{Bool, true, false, not, and_assoc}
use Prim.Native.Nat.{ℕ, ◌<◌, ◌≤◌}
use native.Mathlib.Omega.{arith}
use lib.Dec.{eqb}
use Rattle.records.specs.declared.NodeRecord.{NodeRecord}
use Rattle.records.specs.Records.{most, has_name, has_children, has_first, has_second, has_lists, is_node}
use Rattle.records.proofs.Records.{within}

most-le : (used : Bool) (limit : ℕ) → most used limit ≤ limit
most-le true limit = omega arith
most-le false limit = omega arith

-- the words of a node fit the numbers that they become
pub record Narrow (r : NodeRecord) : Type 0 where
  pub name : r.name < 4294967296
  pub first : r.first ≤ 4294967296
  pub second : r.second ≤ 4294967296
  pub parent : (r.parent ≤ 4294967296) × (r.generation < 4294967296)
  pub children : (r.children.start < 4294967296) × (r.children.len < 4294967296)
  pub attributes : (r.attributes.start < 4294967296) × (r.attributes.len < 4294967296)
  pub namespaces : (r.namespaces.start < 4294967296) × (r.namespaces.len < 4294967296)

pub narrow : (r : NodeRecord) → is_node r ≡ true → Narrow r
narrow r h =
    let w = within r h in
    let l = most-le (has_lists r.kind) 4294967295 in
    let c = most-le (has_children r.kind) 4294967295 in
    record {
      name = omega (arith, w.name, most-le (has_name r.kind) 4294967295);
      first = omega (arith, w.first, most-le (has_first r.kind) 4294967296);
      second = omega (arith, w.second, most-le (has_second r.kind) 4294967296);
      parent = omega (arith, w.parent, w.generation, most-le (not (eqb r.parent 0)) 4294967295);
      children = omega (arith, w.children.0, w.children.1);
      attributes = omega (arith, w.attributes.0, w.attributes.1);
      namespaces = omega (arith, w.namespaces.0, w.namespaces.1);
    }

-- tests that stand in another grouping than the definition's
pub ruleset regrouped = (and_assoc)
