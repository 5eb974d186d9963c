-- How often an id stands in a list after an edit (for rule 4).
-- Assumes nothing.
use mathlib.Core.Path.{◌≡◌, sym, ap, ◌∙◌}
use mathlib.Core.Bool.{true, cond}
use mathlib.Core.List.{List}
use Prim.Native.Nat.{ℕ, ◌+◌, ◌-◌, min}
use lib.ListN.{get_or}
use lib.Dec.{eqb}
use Rattle.words.specs.Lists.{count_of, insert_at, without}
use Rattle.words.proofs.Lists.{count_of-insert_at, count_of-without-other, without-one-less}
use Rattle.blocks.specs.Arena.{Arena, Block, list_of, has_room, inserted, inserted_at, removed}
use Rattle.blocks.specs.Rule.{BlocksApart}
use Rattle.blocks.proofs.Lists.{get_or-insert_at}
use Rattle.blocks.proofs.Edits.{list_length}
use Rattle.blocks.proofs.Insertion.{insert-promise}
use Rattle.blocks.proofs.Removal.{remove-promise}
use Rattle.blocks.proofs.Family.{edited-list, edited-other}

module _ (a : Arena) (B : ℕ → Block) (i : ℕ) (rule : BlocksApart a B) (x : ℕ) where
  -- in the edited list: the id once more
  pub count-inserted : (k id : ℕ) → has_room a (B i) ≡ true
      → count_of (eqb x) (list_of (inserted a (B i) k id).arena (inserted a (B i) k id).block) ≡ cond (eqb x id) 1 0 + count_of (eqb x) (list_of a (B i))
  count-inserted k id r =
      ap (count_of (eqb x))
      (edited-list a B i (insert_at k id (list_of a (B i))) (inserted a (B i) k id).arena (inserted a (B i) k id).block (insert-promise a B i rule k id r))
      ∙ count_of-insert_at (eqb x) k id (list_of a (B i))

  -- and it stands at the index that is handed back
  pub inserted-stands : (k id : ℕ) → has_room a (B i) ≡ true → get_or (list_of (inserted a (B i) k id).arena (inserted a (B i) k id).block) (inserted_at (B i) k) x ≡ id
  inserted-stands k id r =
      ap (λ (l : List ℕ). get_or l (inserted_at (B i) k) x)
      (edited-list a B i (insert_at k id (list_of a (B i))) (inserted a (B i) k id).arena (inserted a (B i) k id).block (insert-promise a B i rule k id r))
      ∙ ap (λ (n : ℕ). get_or (insert_at k id (list_of a (B i))) (min k n) x) (sym (list_length a (B i) rule.shaped (rule.inside i)))
      ∙ get_or-insert_at k id (list_of a (B i)) x

  -- the id once less, where it stands there
  pub count-removed : count_of (eqb x) (list_of (removed a (B i) x).arena (removed a (B i) x).block) ≡ count_of (eqb x) (list_of a (B i)) - 1
  count-removed =
      ap (count_of (eqb x))
      (edited-list a B i (without (eqb x) (list_of a (B i))) (removed a (B i) x).arena (removed a (B i) x).block (remove-promise a B i rule x))
      ∙ without-one-less (eqb x) (list_of a (B i))

  -- and every other as often as before
  pub count-removed-other : (id : ℕ) → (x ≡ id → ⊥) → count_of (eqb x) (list_of (removed a (B i) id).arena (removed a (B i) id).block) ≡ count_of (eqb x) (list_of a (B i))
  count-removed-other id h =
      ap (count_of (eqb x))
      (edited-list a B i (without (eqb id) (list_of a (B i))) (removed a (B i) id).arena (removed a (B i) id).block (remove-promise a B i rule id))
      ∙ count_of-without-other x id (list_of a (B i)) h

  -- in the list of another owner nothing changes
  module _ (j : ℕ) (h : j ≡ i → ⊥) where
    pub count-inserted-elsewhere : (k id : ℕ) → has_room a (B i) ≡ true → count_of (eqb x) (list_of (inserted a (B i) k id).arena (B j)) ≡ count_of (eqb x) (list_of a (B j))
    count-inserted-elsewhere k id r =
        ap (count_of (eqb x))
        (edited-other a B i (insert_at k id (list_of a (B i))) (inserted a (B i) k id).arena (inserted a (B i) k id).block (insert-promise a B i rule k id r) j h)

    pub count-removed-elsewhere : (id : ℕ) → count_of (eqb x) (list_of (removed a (B i) id).arena (B j)) ≡ count_of (eqb x) (list_of a (B j))
    count-removed-elsewhere id =
        ap (count_of (eqb x))
        (edited-other a B i (without (eqb id) (list_of a (B i))) (removed a (B i) id).arena (removed a (B i) id).block (remove-promise a B i rule id) j h)
