-- Structure rule 6 and its test say the same: where parents are live (rule 3), a path to the top meets no slot twice, so it is no longer
-- than the slots made.
-- Assumes nothing.
use Rattle.std.proofs.lemmas.Option.{none-some, same_Some}
use Rattle.std.specs.Prelude.{Option, None, Some}
use mathlib.Core.Path.{◌≡◌, refl, sym, ap, ◌∙◌}
use mathlib.Core.Logic.{◌⊎◌, inl, inr}
use mathlib.Core.Bool.{true, false≢true}
use mathlib.Core.List.Memᴰ
use mathlib.Core.List.{[], Memᴰ}
use Prim.Native.Nat.{ℕ, zero, suc, ◌≤◌}
use native.Mathlib.Omega.{arith}
use lib.Dec.{eqb}
use lib.ListN.{length}
use Rattle.words.proofs.Tests.{and_left}
use Rattle.records.specs.Handles.{handle_index, handle_generation}
use Rattle.model.specs.Doc.{Doc, generation_at, live_slot, parent_in, map_option}
use Rattle.model.specs.Rules.{Parents, Ends, ParentsEnd}
use Rattle.model.specs.RulesTest.{all_option, ends_within, parents_end_holds}
use Rattle.laws.proofs.Wf as wf
use Rattle.laws.proofs.Basics.{live-below}
use Rattle.laws.proofs.Membership.{pigeonhole}
use Rattle.laws.proofs.Climb.{path, steps, length-path, path-distinct}
use Rattle.laws.proofs.Quantifiers.{live_at, at-live}

module _ (d : Doc) where
  -- ---- the test shows the rule

  ends-within : (f i : ℕ) → ends_within f d i ≡ true → Ends d i
  ends-within zero i h = absurd (false≢true h)
  ends-within (suc f) i h = go (λ j k. ends-within f j k) (parent_in d i) refl h
    where
      go : ((j : ℕ) → ends_within f d j ≡ true → Ends d j) → (o : Option ℕ) → parent_in d i ≡ o
          → all_option (λ p. ends_within f d (handle_index p)) o ≡ true → Ends d i
      go ih None e k = Ends.top e
      go ih (Some p) e k = Ends.up p e (ih (handle_index p) k)

  pub ends-of-test : parents_end_holds d ≡ true → ParentsEnd d
  unfolding parents_end_holds
  ends-of-test h i l = ends-within (length d.gens) i (live_at d (ends_within (length d.gens) d) h i l)

  -- ---- the rule shows the test

  -- the slot of the parent; a path over slots
  abbrev parent_slot : ℕ → Option ℕ
  parent_slot i = map_option handle_index (parent_in d i)

  over-slots : {i : ℕ} → Ends d i → wf.Ends parent_slot i
  over-slots (Ends.top e) = wf.Ends.top (ap (map_option handle_index) e)
  over-slots (Ends.up p e r) = wf.Ends.up (handle_index p) (ap (map_option handle_index) e) (over-slots r)

  steps-enough : {i : ℕ} (r : wf.Ends parent_slot i) (f : ℕ) → steps r ≤ f → ends_within f d i ≡ true
  unfolding steps
  steps-enough (wf.Ends.top e) zero h = absurd (omega arith)
  steps-enough (wf.Ends.up q e r) zero h = absurd (omega arith)
  steps-enough {i} (wf.Ends.top e) (suc f) h = go (parent_in d i) e
    where
      go : (o : Option ℕ) → map_option handle_index o ≡ None → all_option (λ p. ends_within f d (handle_index p)) o ≡ true
      go None k = refl
      go (Some p) k = absurd (none-some (handle_index p) (sym k))
  steps-enough {i} (wf.Ends.up q e r) (suc f) h = go (steps-enough r f (omega arith)) (parent_in d i) e
    where
      go : ends_within f d q ≡ true → (o : Option ℕ) → map_option handle_index o ≡ Some q → all_option (λ p. ends_within f d (handle_index p)) o ≡ true
      go ih None k = absurd (none-some q k)
      go ih (Some p) k = ap (ends_within f d) (same_Some (handle_index p) q k) ∙ ih

  module _ (R : Parents d) where
    parent_live : (i q : ℕ) → live_slot d i ≡ true → parent_slot i ≡ Some q → live_slot d q ≡ true
    parent_live i q l e = go (parent_in d i) refl e
      where
        go : (o : Option ℕ) → parent_in d i ≡ o → map_option handle_index o ≡ Some q → live_slot d q ≡ true
        go None f k = absurd (none-some q k)
        go (Some p) f k =
            ap (live_slot d) (sym (same_Some (handle_index p) q k))
            ∙ and_left (live_slot d (handle_index p)) (eqb (generation_at d (handle_index p)) (handle_generation p)) (R.owner i p l f).0

    path-live : {i : ℕ} (r : wf.Ends parent_slot i) → live_slot d i ≡ true → (j : ℕ) → Memᴰ j (path r) → live_slot d j ≡ true
    unfolding path
    path-live {i} (wf.Ends.top e) l j m = go (Memᴰ.cases_cons m)
      where
        go : (j ≡ i) ⊎ Memᴰ j [] → live_slot d j ≡ true
        go (inl q) = ap (live_slot d) q ∙ l
        go (inr n) = absurd (Memᴰ.not-nil n)
    path-live {i} (wf.Ends.up p e r) l j m = go (λ n. path-live r (parent_live i p l e) j n) (Memᴰ.cases_cons m)
      where
        go : (Memᴰ j (path r) → live_slot d j ≡ true) → (j ≡ i) ⊎ Memᴰ j (path r) → live_slot d j ≡ true
        go ih (inl q) = ap (live_slot d) q ∙ l
        go ih (inr n) = ih n

    pub test-of-ends : ParentsEnd d → parents_end_holds d ≡ true
    unfolding parents_end_holds
    test-of-ends E = at-live d (ends_within (length d.gens) d) (λ i l. steps-enough (over-slots (E i l)) (length d.gens) (short i l (over-slots (E i l))))
      where
        short : (i : ℕ) → live_slot d i ≡ true → (r : wf.Ends parent_slot i) → steps r ≤ length d.gens
        short i l r =
            let h = pigeonhole (length d.gens) (path r) (path-distinct r) (λ j m. live-below d j (path-live r l j m)) in
            omega (arith, length-path r)
