-- The quantifiers of the rules' test: what they say, both ways.
-- Assumes nothing.
use mathlib.Core.Path.{◌≡◌, refl}
use mathlib.Core.Bool.{Bool, true, false, false≢true}
use Prim.Native.Nat.{ℕ, ◌<◌}
use lib.ListN.{length}
use Rattle.words.proofs.Lists.{all_below-at, at-all_below}
use Rattle.words.proofs.Tests.{and_left, and_right}
use Rattle.model.specs.Kinds.{Which, children, attributes, namespaces}
use Rattle.model.specs.Doc.{Doc, live_slot}
use Rattle.model.specs.RulesTest.{implies, all_which, all_slots, all_live}
use Rattle.laws.proofs.Basics.{live-below}

pub implies_true : (a b : Bool) → implies a b ≡ true → a ≡ true → b ≡ true
implies_true true b h e = h
implies_true false b h e = absurd (false≢true e)

pub true_implies : (a b : Bool) → (a ≡ true → b ≡ true) → implies a b ≡ true
true_implies true b h = h refl
true_implies false b h = refl

-- each of the three lists

pub which-at : (p : Which → Bool) → all_which p ≡ true → (w : Which) → p w ≡ true
unfolding all_which
which-at p h children = search (and_left, and_right)
which-at p h attributes = search (and_left, and_right)
which-at p h namespaces = search (and_left, and_right)

pub at-which : (p : Which → Bool) → ((w : Which) → p w ≡ true) → all_which p ≡ true
unfolding all_which
at-which p h = rw (h children, h attributes, h namespaces)

-- each slot made, and each that is live

pub slots-at : (d : Doc) (p : ℕ → Bool) → all_slots d p ≡ true → (i : ℕ) → i < length d.gens → p i ≡ true
unfolding all_slots
slots-at d p h = all_below-at p (length d.gens) h

pub at_slots : (d : Doc) (p : ℕ → Bool) → ((i : ℕ) → i < length d.gens → p i ≡ true) → all_slots d p ≡ true
unfolding all_slots
at_slots d p h = at-all_below p (length d.gens) h

pub live_at : (d : Doc) (p : ℕ → Bool) → all_live d p ≡ true → (i : ℕ) → live_slot d i ≡ true → p i ≡ true
unfolding all_live
live_at d p h i l =
    implies_true (live_slot d i) (p i) (all_below-at (λ i. implies (live_slot d i) (p i)) (length d.gens) h i (live-below d i l)) l

pub at-live : (d : Doc) (p : ℕ → Bool) → ((i : ℕ) → live_slot d i ≡ true → p i ≡ true) → all_live d p ≡ true
unfolding all_live
at-live d p h =
    at-all_below (λ i. implies (live_slot d i) (p i)) (length d.gens) (λ i b. true_implies (live_slot d i) (p i) (h i))
