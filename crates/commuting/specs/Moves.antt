-- Two moves, and whether the parents that one leaves and enters are none of the other's (02, n).
use Rattle.std.specs.Prelude.{Bool, not, ◌&&◌, List, [], ◌∷◌, ℕ, eqb, Option, None, Some}
use Rattle.words.specs.Lists.{any}
use Rattle.model.specs.Doc.{Doc, parent_at}
use Rattle.model.specs.Calls.{Call, reparent, insert-at}

-- "Move: unlink, then insert at min(index, remaining length), or at the end": `insert_at` where an index is given, else `reparent`.
pub record Move : Type 0 where
  pub node : ℕ
  pub under : ℕ
  pub index : Option ℕ

abbrev pub call_at : Option ℕ → ℕ → ℕ → Call
call_at None c p = reparent c p
call_at (Some i) c p = insert-at p i c

abbrev pub call_of : Move → Call
call_of m = call_at m.index m.node m.under

-- the parent that is left; a detached node leaves none
abbrev pub leaves : Option ℕ → List ℕ
leaves None = []
leaves (Some p) = p ∷ []

-- "the parents that one leaves and enters"
abbrev pub parents_of : Doc → Move → List ℕ
parents_of d m = m.under ∷ leaves (parent_at d m.node)

-- whether two lists have an entry in common
abbrev pub meet : List ℕ → List ℕ → Bool
meet l k = any (λ p. any (eqb p) k) l

-- "two moves of different nodes"
abbrev pub different : Move → Move → Bool
different m n = not (eqb m.node n.node)

-- "the parents that one leaves and enters being none of the other's"
abbrev pub apart : Doc → Move → Move → Bool
apart d m n = not (meet (parents_of d m) (parents_of d n))

abbrev pub independent : Doc → Move → Move → Bool
independent d m n = different m n && apart d m n
