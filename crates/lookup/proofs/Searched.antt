-- What a search by std's `find` gives, as the definitions speak of it.
-- Assumes nothing.
use mathlib.Core.Path.{◌≡◌, refl, ap, ◌∙◌}
use mathlib.Core.Bool.{Bool, true, false, cond}
use mathlib.Core.List.{List, [], ◌∷◌}
use Prim.Native.Nat.{ℕ}
use Rattle.std.specs.Prelude.{Option, None, Some, MatchOption, IsSomeAnd}
use Rattle.std.specs.Option.{option_map}
use Rattle.std.specs.List as std
use Rattle.words.specs.Lists.{find}
use Rattle.records.specs.Handles.{id_of}
use Rattle.records.specs.declared.NodeId.{NodeId}
use Rattle.records.proofs.Handles.{word_of-id_of}
use Rattle.memory.specs.Decode.{handle_of}

same_find : (p : ℕ → Bool) (l : List ℕ) → handle_of (option_map id_of (std.find p l)) ≡ find p l
same_find p [] = refl
same_find p (x ∷ l) = go (p x) _ _ (same_find p l)
  where
    go : (t : Bool) (o : Option ℕ) (m : Option ℕ) → handle_of (option_map id_of o) ≡ m → handle_of (option_map id_of (cond t (Some x) o)) ≡ cond t (Some x) m
    go true o m e = ap (λ (n : ℕ). Some n) (word_of-id_of x)
    go false o m e = e

-- the first word of l that passes is given as the handle that it is
pub found_handle : (p : ℕ → Bool) (l : List ℕ) (o : Option ℕ) (r : Option NodeId) {Q : ℕ → NodeId → Type 0} → option_map (λ x. x) o ≡ std.find p l → MatchOption o (r ≡ None) (λ x. IsSomeAnd r (Q x)) → ((x : ℕ) (y : NodeId) → Q x y → y ≡ id_of x)
    → handle_of r ≡ find p l
found_handle p l o r {Q = Q} e m q = ap handle_of (handles o r m) ∙ ap (λ (x : Option ℕ). handle_of (option_map id_of x)) (as-it-is o ∙ e) ∙ same_find p l
  where
    as-it-is : (x : Option ℕ) → x ≡ option_map (λ y. y) x
    as-it-is None = refl
    as-it-is (Some x) = refl

    handles : (x : Option ℕ) (y : Option NodeId) → MatchOption x (y ≡ None) (λ z. IsSomeAnd y (Q z)) → y ≡ option_map id_of x
    handles None y k = k
    handles (Some x) None k = absurd k
    handles (Some x) (Some y) k = ap (λ (z : NodeId). Some z) (q x y k)
