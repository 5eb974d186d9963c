-- A move and a renewal of the order leave every slot's generation and kind.
-- Assumes nothing.
use Rattle.std.specs.Prelude.{Option, None, Some}
use mathlib.Core.Path.{◌≡◌, refl, sym, ap₂, ◌∙◌}
use mathlib.Core.Bool.{Bool, true, false, cond, ◌&&◌}
use mathlib.Core.List.{List}
use Prim.Native.Nat.{ℕ, zero, suc}
use lib.Dec.{eqb}
use lib.ListN.{length, get_or}
use Rattle.records.specs.Handles.{handle_index, handle_generation}
use Rattle.model.specs.Kinds.{Kind, children}
use Rattle.model.specs.Arguments.{first}
use Rattle.model.specs.Checks.{check_move}
use Rattle.model.specs.Doc.{Doc, parent_at, list_at, view_at, on_path, even, is_some, resolves, live_slot, or_else}
use Rattle.model.specs.Edits.{set_parent, unlink, unlink_from, unhook, link, attach, renew_order}
use Rattle.model.specs.Calls.{guarded, move_to, root_taken, room_fits, full_unless, answers, document_order, done}

-- the slots of two documents hold the same kinds in the same generations
pub record SameSlots (d e : Doc) : Type 0 where
  pub gens : d.gens ≡ e.gens
  pub kinds : d.kinds ≡ e.kinds

pub same-trans : {d e f : Doc} → SameSlots d e → SameSlots e f → SameSlots d f
same-trans a b = record { gens = a.gens ∙ b.gens; kinds = a.kinds ∙ b.kinds }

pub same-sym : {d e : Doc} → SameSlots d e → SameSlots e d
same-sym a = record { gens = sym a.gens; kinds = sym a.kinds }

abbrev live_in : List ℕ → List (Option (Kind ℕ (Option ℕ))) → ℕ → Bool
live_in g k i = even (get_or g i 1) && is_some (get_or k i None)

pub same_live : {d e : Doc} → SameSlots d e → (i : ℕ) → live_slot d i ≡ live_slot e i
same_live s i = ap₂ (λ (g : List ℕ) (k : List (Option (Kind ℕ (Option ℕ)))). live_in g k i) s.gens s.kinds

pub same-resolves : {d e : Doc} → SameSlots d e → (h : ℕ) → resolves d h ≡ resolves e h
same-resolves s h =
    ap₂ (λ (g : List ℕ) (k : List (Option (Kind ℕ (Option ℕ)))). live_in g k (handle_index h) && eqb (get_or g (handle_index h) 1) (handle_generation h))
    s.gens
    s.kinds

unlinked-same : (o : Option ℕ) (d : Doc) (c : ℕ) → SameSlots (unlink_from o d c) d
unlinked-same None d c = record { gens = refl; kinds = refl }
unlinked-same (Some p) d c = record { gens = refl; kinds = refl }

pub moved_same : (d : Doc) (p : ℕ) (at : Option ℕ) (c : ℕ) → SameSlots (move_to d p at c).doc d
unfolding guarded link set_parent unlink
moved_same d p at c =
    go (first (check_move (view_at d c) (view_at d p) (on_path (length d.gens) d c p) (root_taken d (Some c))) (full_unless (room_fits e children p)))
  where
    e : Doc
    e = unhook d c

    attached : (i : ℕ) → SameSlots (attach e children p i c) d
    attached i = let s = unlinked-same (parent_at d c) d c in record { gens = s.gens; kinds = s.kinds }

    go : (n : ℕ) → SameSlots (guarded n d (answers (attach e children p (or_else (length (list_at e children p)) at) c) done)).doc d
    go zero = attached _
    go (suc n) = record { gens = refl; kinds = refl }

pub ordered_same : (d : Doc) → SameSlots (document_order d).doc d
unfolding renew_order
ordered_same d = go d.current
  where
    go : (q : Bool) → SameSlots (cond q d (renew_order d)) d
    go true = record { gens = refl; kinds = refl }
    go false = record { gens = refl; kinds = refl }
