-- What `independent` says of the nodes and of each parent.
-- Assumes nothing.
use Rattle.std.specs.Prelude.{Option}
use mathlib.Core.Path.{◌≡◌, refl, sym, ap, ◌∙◌}
use mathlib.Core.Logic.{◌≢◌, inl, inr}
use mathlib.Core.Bool.{Bool, true, false, not, ◌||◌, true≢false}
use mathlib.Core.List.{◌∷◌}
use Prim.Native.Nat.{ℕ}
use borrow.Author.Tests.{eq-eqb}
use lib.Dec.{eqb}
use Rattle.words.specs.Lists.{any}
use Rattle.words.proofs.Tests.{and_left, and_right}
use Rattle.model.specs.Doc.{Doc, parent_at}
use Rattle.commuting.specs.Moves.{Move, leaves, parents_of, different, apart, independent}
use Rattle.commuting.proofs.Commute.{Touched}

or-true : (a b : Bool) → b ≡ true → (a || b) ≡ true
or-true true b e = refl
or-true false b e = e

-- a parent that a move leaves or enters is one of its parents
among : (test : ℕ → Bool) (o : Option ℕ) (p x : ℕ) → Touched o p x → test x ≡ true → any test (p ∷ leaves o) ≡ true
among test o p x (inl e) f = ap (λ (k : Option ℕ). test p || any test (leaves k)) e ∙ or-true (test p) (test x || false) (rw f)
among test o p x (inr e) f = ap (λ (b : Bool). b || any test (leaves o)) (ap test e ∙ f)

module _ (d : Doc) (m n : Move) (I : independent d m n ≡ true) where
  pub nodes-differ : m.node ≢ n.node
  nodes-differ e = true≢false (sym (and_left (different m n) (apart d m n) I) ∙ ap not (eq-eqb m.node n.node e))

  pub parents-differ : (x : ℕ) → Touched (parent_at d m.node) m.under x → Touched (parent_at d n.node) n.under x → ⊥
  parents-differ x a b =
      true≢false
      (sym (and_right (different m n) (apart d m n) I)
      ∙ ap not
      (among (λ p. any (eqb p) (parents_of d n)) (parent_at d m.node) m.under x a
      (among (eqb x) (parent_at d n.node) n.under x b (eq-eqb x x refl))))
