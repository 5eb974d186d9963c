-- The rules of the plain tree without the one on nodes that have no parent: an attribute taken off its element keeps these.
-- Assumes nothing.
use Rattle.std.specs.Prelude.{None, Some}
use mathlib.Core.Path.{◌≡◌}
use mathlib.Core.Bool.{true}
use mathlib.Core.List.{Memᴰ}
use Prim.Native.Nat.{ℕ, ◌<◌}
use Rattle.model.specs.Kinds.{root, Which, children, which_of, is_element, is_root, owns}
use Rattle.model.specs.Tree.{Tree}
use Rattle.laws.proofs.Wf.{Distinct, Ends, WF}

pub record Nested (t : Tree) : Type 0 where
  pub root_kind : t.kind 0 ≡ root
  pub root_parent : t.parent 0 ≡ None
  pub root_live : t.live 0 ≡ true
  pub root_only : (b : ℕ) → t.live b ≡ true → is_root (t.kind b) ≡ true → b ≡ 0
  pub counted : (b : ℕ) → t.live b ≡ true → b < t.births
  pub upward : (b p : ℕ) → t.live b ≡ true → t.parent b ≡ Some p
      → (t.live p ≡ true) × (owns (which_of (t.kind b)) (t.kind p) ≡ true) × Memᴰ b (t.lists (which_of (t.kind b)) p)
  pub downward : (w : Which) (p b : ℕ) → t.live p ≡ true → Memᴰ b (t.lists w p)
      → (t.live b ≡ true) × (t.parent b ≡ Some p) × (which_of (t.kind b) ≡ w)
  pub once : (w : Which) (p : ℕ) → t.live p ≡ true → Distinct (t.lists w p)
  pub ends : (b : ℕ) → t.live b ≡ true → Ends t.parent b
  pub one_element : (a b : ℕ) → Memᴰ a (t.lists children 0) → Memᴰ b (t.lists children 0) → is_element (t.kind a) ≡ true
      → is_element (t.kind b) ≡ true → a ≡ b

pub nested : {t : Tree} → WF t → Nested t
nested W = record {
  root_kind = W.root_kind;
  root_parent = W.root_parent;
  root_live = W.root_live;
  root_only = W.root_only;
  counted = W.counted;
  upward = W.upward;
  downward = W.downward;
  once = W.once;
  ends = W.ends;
  one_element = W.one_element;
}

pub well-formed : {t : Tree} → Nested t → ((b : ℕ) → t.live b ≡ true → t.parent b ≡ None → which_of (t.kind b) ≡ children) → WF t
well-formed N detached = record {
  root_kind = N.root_kind;
  root_parent = N.root_parent;
  root_live = N.root_live;
  root_only = N.root_only;
  counted = N.counted;
  upward = N.upward;
  detached = detached;
  downward = N.downward;
  once = N.once;
  ends = N.ends;
  one_element = N.one_element;
}
