-- The rules of the plain tree: structure rules 1, 3, 4, 6 and 7 as they read there.
-- Assumes nothing.
use Rattle.std.specs.Prelude.{Option, None, Some}
use mathlib.Core.Path.{◌≡◌}
use mathlib.Core.Logic.{◌≢◌}
use mathlib.Core.Bool.{true}
use mathlib.Core.List.{List, [], ◌∷◌, Memᴰ}
use Prim.Native.Nat.{ℕ}
use Rattle.model.specs.Kinds.{root, Which, children, which_of, is_element, is_root, owns}
use Rattle.model.specs.Tree.{Tree}

-- no entry stands twice
abbrev pub Distinct : List ℕ → Type 0
Distinct [] = Unit {0}
Distinct (x ∷ l) = (Memᴰ x l → ⊥) × Distinct l

-- following parents from x ends
pub data Ends (parent : ℕ → Option ℕ) : ℕ → Type 0 where
  top : {x : ℕ} → parent x ≡ None → Ends parent x
  up : {x : ℕ} (p : ℕ) → parent x ≡ Some p → Ends parent p → Ends parent x

-- b is neither x nor above it
pub data Clear (parent : ℕ → Option ℕ) (b : ℕ) : ℕ → Type 0 where
  top : {x : ℕ} → x ≢ b → parent x ≡ None → Clear parent b x
  up : {x : ℕ} (p : ℕ) → x ≢ b → parent x ≡ Some p → Clear parent b p → Clear parent b x

pub record WF (t : Tree) : Type 0 where
  pub root_kind : t.kind 0 ≡ root
  pub root_parent : t.parent 0 ≡ None
  pub root_live : t.live 0 ≡ true
  pub root_only : (b : ℕ) → t.live b ≡ true → is_root (t.kind b) ≡ true → b ≡ 0
  pub counted : (b : ℕ) → t.live b ≡ true → Prim.Native.Nat.◌<◌ b t.births
  pub upward : (b p : ℕ) → t.live b ≡ true → t.parent b ≡ Some p
      → (t.live p ≡ true) × (owns (which_of (t.kind b)) (t.kind p) ≡ true) × Memᴰ b (t.lists (which_of (t.kind b)) p)
  pub detached : (b : ℕ) → t.live b ≡ true → t.parent b ≡ None → which_of (t.kind b) ≡ children
  pub downward : (w : Which) (p b : ℕ) → t.live p ≡ true → Memᴰ b (t.lists w p)
      → (t.live b ≡ true) × (t.parent b ≡ Some p) × (which_of (t.kind b) ≡ w)
  pub once : (w : Which) (p : ℕ) → t.live p ≡ true → Distinct (t.lists w p)
  pub ends : (b : ℕ) → t.live b ≡ true → Ends t.parent b
  pub one_element : (a b : ℕ) → Memᴰ a (t.lists children 0) → Memᴰ b (t.lists children 0) → is_element (t.kind a) ≡ true
      → is_element (t.kind b) ≡ true → a ≡ b
