-- The promise of a move: the id is unlinked from owner i's list, then put into a list, the same or another.
-- Assumes nothing.
use mathlib.Core.Path.{◌≡◌, refl, sym, ap, ◌∙◌}
use mathlib.Core.Bool.{true}
use Prim.Native.Nat.{ℕ}
use lib.Dec.{eqb}
use Rattle.words.specs.Lists.{insert_at, without}
use Rattle.blocks.specs.Arena.{Arena, Block, list_of, has_room, inserted, removed}
use Rattle.blocks.specs.Rule.{BlocksApart, at, Edited}
use Rattle.blocks.proofs.Apart.{edited-edited, at_same, at_other}
use Rattle.blocks.proofs.Insertion.{insert-promise}
use Rattle.blocks.proofs.Removal.{remove-promise, room-other}
use Rattle.blocks.proofs.Family.{edited-list, edited-other}

module _ (a : Arena) (B : ℕ → Block) (i k id : ℕ) (rule : BlocksApart a B) where
  abbrev a₁ : Arena
  a₁ = (removed a (B i) id).arena

  abbrev b₁ : Block
  b₁ = (removed a (B i) id).block

  unlinked : Edited a B i (without (eqb id) (list_of a (B i))) a₁ b₁
  unlinked = remove-promise a B i rule id

  -- into the same list
  pub relink-promise : has_room a₁ b₁ ≡ true → Edited a B i (insert_at k id (without (eqb id) (list_of a (B i)))) (inserted a₁ b₁ k id).arena (inserted a₁ b₁ k id).block
  relink-promise r =
      let own : at B i b₁ i ≡ b₁ = at_same B i b₁ i refl in
      let g = insert-promise a₁ (at B i b₁) i unlinked.rule k id (ap (has_room a₁) own ∙ r) in
      edited-edited a a₁ (inserted a₁ b₁ k id).arena B i (without (eqb id) (list_of a (B i)))
      (insert_at k id (without (eqb id) (list_of a (B i)))) b₁ (inserted a₁ b₁ k id).block unlinked
      (rw (own, edited-list a B i (without (eqb id) (list_of a (B i))) a₁ b₁ unlinked) at g)

  -- into the list of another owner j: room there is asked before the unlinking
  module _ (j : ℕ) (other : j ≡ i → ⊥) where
    pub room-unlinked : has_room a₁ (B j) ≡ has_room a (B j)
    room-unlinked = room-other a (B i) rule.shaped (rule.inside i) id (B j) (rule.apart i j (λ e. other (sym e)))

    pub relink-other-promise : has_room a (B j) ≡ true
        → Edited a₁ (at B i b₁) j (insert_at k id (list_of a (B j))) (inserted a₁ (B j) k id).arena (inserted a₁ (B j) k id).block
    relink-other-promise r =
        let theirs : at B i b₁ j ≡ B j = at_other B i b₁ j other in
        let g = insert-promise a₁ (at B i b₁) j unlinked.rule k id (ap (has_room a₁) theirs ∙ room-unlinked ∙ r) in
        rw (theirs, edited-other a B i (without (eqb id) (list_of a (B i))) a₁ b₁ unlinked j other) at g
