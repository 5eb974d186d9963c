-- Rule 6 as the check decides it: paths of parents are followed, and the slots on a path that ends are marked, so that a later path stops at them.
use Rattle.std.specs.Prelude.{◌≡◌, Bool, true, false, List, ℕ, length, get_or}
use Rattle.model.specs.Doc.{Doc, live_slot}
use Rattle.model.specs.Rules.{Ends}
use Rattle.model.specs.RulesTest.{ends_within}

-- a slot whose mark is not 0 is known: following its parents ends
pub record Known (D : Doc) (marks : List ℕ) : Type 0 where
  pub ends : (i : ℕ) → (get_or marks i 0 ≡ 0 → ⊥) → Ends D i

-- what following parents from a slot tells: they end, or not in as many steps as there are slots
pub record Followed (D : Doc) (i : ℕ) (r : Bool) : Type 0 where
  pub ends : r ≡ true → Ends D i
  pub lost : r ≡ false → ends_within (length D.gens) D i ≡ false

-- the same of a slot that may not be live, with what is known after
pub record Passed (D : Doc) (i : ℕ) (after : List ℕ) (r : Bool) : Type 0 where
  pub known : r ≡ true → Known D after
  pub ends : r ≡ true → live_slot D i ≡ true → Ends D i
  pub lost : r ≡ false → (live_slot D i ≡ true) × (ends_within (length D.gens) D i ≡ false)
