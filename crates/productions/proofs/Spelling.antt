-- Laws of comparing a text with a given one, and of "xml" in any ASCII case.
-- Assumes nothing.
use mathlib.Core.Path.{◌≡◌, refl, sym, ap, ◌∙◌}
use mathlib.Core.Bool.{Bool, true, false, not}
use mathlib.Core.List.{List, [], ◌∷◌, map}
use Prim.Native.Nat.{ℕ}
use native.Mathlib.Decide.{ℕ_discrete}
use native.Mathlib.Omega.{arith}
use lib.Dec.{eqb}
use borrow.Author.Tests.{eq-eqb, ne_eqb}
use Rattle.std.specs.Prelude.{◌↔◌, IsTrue}
use Rattle.std.specs.Cmp.Lexicographic.{pointwise}
use Rattle.std.specs.Char.{to_ascii_lowercase}
use Rattle.std.proofs.Common.{rules}
use Rattle.std.proofs.lemmas.Slice.Eq.{compares_Decides}
use Rattle.std.proofs.lemmas.Bool.Decides.{nat_tests}
use Rattle.chars.specs.Productions.{within}
use Rattle.chars.specs.Checks.{quoted, spells, lower, is_xml}

turned : (a b : ℕ) → eqb a b ≡ eqb b a
turned a b = go (ℕ_discrete a b)
  where
    go : Dec (a ≡ b) → eqb a b ≡ eqb b a
    go (yes e) = eq-eqb a b e ∙ sym (eq-eqb b a (sym e))
    go (no n) = ne_eqb a b n ∙ sym (ne_eqb b a (λ e. n (sym e)))

equal-spells : (s t : List ℕ) → pointwise eqb s t ≡ spells t s
equal-spells [] [] = refl
equal-spells [] (y ∷ t) = refl
equal-spells (x ∷ s) [] = refl
equal-spells (x ∷ s) (y ∷ t) = rw (turned x y, equal-spells s t)

-- what `==` and `!=` say of a text and a given one
module _ (s t l : List ℕ) (given : l ≡ t) (r : Bool) where
  pub equal : r ≡ pointwise eqb s l → r ≡ spells t s
  equal e = e ∙ ap (pointwise eqb s) given ∙ equal-spells s t

  pub unequal : r ≡ not (pointwise eqb s l) → r ≡ not (spells t s)
  unequal e = e ∙ ap (λ (k : List ℕ). not (pointwise eqb s k)) given ∙ ap not (equal-spells s t)

lower-ascii : (c : ℕ) → to_ascii_lowercase c ≡ lower c
unfolding within
lower-ascii c = grind (arith, nat_tests)

lower-all : (l : List ℕ) → map to_ascii_lowercase l ≡ map lower l
lower-all [] = refl
lower-all (x ∷ l) = rw (lower-ascii x, lower-all l)

abbrev xml : List ℕ
xml = quoted "xml"

pub xml-compared : (s : List ℕ) (r : Bool) → (IsTrue r ↔ (map to_ascii_lowercase s ≡ map to_ascii_lowercase xml)) → r ≡ is_xml s
unfolding is_xml
xml-compared s r h = go r (spells xml (map lower s)) h (compares_Decides spells (search rules) xml (map lower s))
  where
    go : (r t : Bool) → (IsTrue r ↔ (map to_ascii_lowercase s ≡ map to_ascii_lowercase xml)) → (t ≡ true → xml ≡ map lower s) × (xml ≡ map lower s → t ≡ true) → r ≡ t
    go true t h d = sym (d.1 (sym (sym (lower-all s) ∙ h.0 refl)))
    go false true h d = h.1 (lower-all s ∙ sym (d.0 refl))
    go false false h d = refl
