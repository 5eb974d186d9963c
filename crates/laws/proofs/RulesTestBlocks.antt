-- Structure rule 5 and its test say the same.
-- Assumes nothing.
use mathlib.Core.Path.{◌≡◌, refl, sym, ap, ◌∙◌, subst}
use mathlib.Core.Logic.{◌⊎◌, inl, inr}
use mathlib.Core.Bool.{Bool, true, false, cond, ◌||◌, false≢true}
use Prim.Native.Nat.{ℕ, ◌+◌, ◌≤◌, ◌<◌}
use native.Mathlib.Omega.{arith}
use native.Mathlib.Decide.{dec_lt}
use borrow.Author.Tests.{eqb-true, eq-eqb, leb-true, le-leb}
use lib.Dec.{eqb, leb}
use lib.ListN.{length}
use Rattle.words.specs.Lists.{all_below}
use Rattle.words.proofs.Lists.{all_below-at, at-all_below}
use Rattle.words.proofs.Tests.{and_left, and_right}
use Rattle.blocks.specs.Arena.{Arena, Block, block, cap_of}
use Rattle.blocks.specs.Rule.{Inside, Apart, empty_left, empty_right, before, behind, BlocksApart}
use Rattle.blocks.proofs.Apart.{apart-sym}
use Rattle.model.specs.Kinds.{Which}
use Rattle.model.specs.Doc.{Doc, live_slot, range_in}
use Rattle.model.specs.Rules.{Shape, block_in, Blocks}
use Rattle.model.specs.RulesTest.{all_slots, block_inside, blocks_apart, arena_holds, blocks_hold}
use Rattle.laws.proofs.Basics.{live-below}
use Rattle.laws.proofs.Quantifiers.{which-at, at-which, slots-at, at_slots}

-- ---- two blocks

module _ (a : Arena) (b c : Block) where
  apart-of-test : blocks_apart a b c ≡ true → Apart a b c
  apart-of-test h = go (eqb b.len 0) (eqb c.len 0) (leb (b.start + cap_of a b) c.start) (leb (c.start + cap_of a c) b.start) refl refl refl refl h
    where
      go : (p q r s : Bool) → eqb b.len 0 ≡ p → eqb c.len 0 ≡ q → leb (b.start + cap_of a b) c.start ≡ r
          → leb (c.start + cap_of a c) b.start ≡ s → (p || q || r || s) ≡ true → Apart a b c
      go true q r s ep eq er es k = empty_left (eqb-true b.len 0 ep)
      go false true r s ep eq er es k = empty_right (eqb-true c.len 0 eq)
      go false false true s ep eq er es k = before (leb-true (b.start + cap_of a b) c.start er)
      go false false false true ep eq er es k = behind (leb-true (c.start + cap_of a c) b.start es)
      go false false false false ep eq er es k = absurd (false≢true k)

  test-of-apart : Apart a b c → blocks_apart a b c ≡ true
  test-of-apart r = go (eqb b.len 0) (eqb c.len 0) (leb (b.start + cap_of a b) c.start) (leb (c.start + cap_of a c) b.start) (some-true r)
    where
      some-true : Apart a b c
          → (eqb b.len 0 ≡ true) ⊎ ((eqb c.len 0 ≡ true) ⊎ ((leb (b.start + cap_of a b) c.start ≡ true) ⊎ (leb (c.start + cap_of a c) b.start ≡ true)))
      some-true (empty_left e) = inl (eq-eqb b.len 0 e)
      some-true (empty_right e) = inr (inl (eq-eqb c.len 0 e))
      some-true (before h) = inr (inr (inl (le-leb (b.start + cap_of a b) c.start h)))
      some-true (behind h) = inr (inr (inr (le-leb (c.start + cap_of a c) b.start h)))

      go : (p q r s : Bool) → (p ≡ true) ⊎ ((q ≡ true) ⊎ ((r ≡ true) ⊎ (s ≡ true))) → (p || q || r || s) ≡ true
      go true q r s o = refl
      go false true r s o = refl
      go false false true s o = refl
      go false false false true o = refl
      go false false false false (inl e) = e
      go false false false false (inr (inl e)) = e
      go false false false false (inr (inr (inl e))) = e
      go false false false false (inr (inr (inr e))) = e

-- ---- one arena

module _ (d : Doc) (w : Which) where
  abbrev inside_at : ℕ → Bool
  inside_at i = block_inside (d.arenas w) (block_in d w i)

  abbrev apart_from : ℕ → ℕ → Bool
  apart_from i j = blocks_apart (d.arenas w) (block_in d w i) (block_in d w j)

  -- past the slots made there is no block
  no-block : (i : ℕ) → length d.gens ≤ i → block_in d w i ≡ block 0 0
  no-block i h = go (live_slot d i) refl
    where
      go : (q : Bool) → live_slot d i ≡ q → cond q (range_in d w i) (block 0 0) ≡ block 0 0
      go true l = absurd (let k = live-below d i l in omega arith)
      go false l = refl

  blocks-of-arena : Shape d → arena_holds d w ≡ true → BlocksApart (d.arenas w) (block_in d w)
  unfolding arena_holds
  blocks-of-arena F h = record {
    shaped = record {
      fits = leb-true (d.arenas w).used (length (d.arenas w).ids) (search (and_left, and_right));
      paired = F.caps w ∙ sym (F.ids w);
    };
    inside = λ i. inside i (dec_lt i (length d.gens));
    apart = λ i j n. apart i j n (dec_lt i j);
  }
    where
      all-inside : all_slots d inside_at ≡ true
      all-inside = search (and_left, and_right)

      all_apart : all_slots d (λ i. all_below (apart_from i) i) ≡ true
      all_apart = search (and_left, and_right)

      inside : (i : ℕ) → Dec (i < length d.gens) → Inside (d.arenas w) (block_in d w i)
      inside i (yes b) =
          record { below = leb-true ((block_in d w i).start + cap_of (d.arenas w) (block_in d w i)) (d.arenas w).used (slots-at d inside_at all-inside i b) }
      inside i (no b) = subst (Inside (d.arenas w)) (sym (no-block i (omega arith))) (record { below = omega arith })

      -- the lower of two slots is met while the higher is tested
      ordered : (i j : ℕ) → j < i → Dec (i < length d.gens) → Apart (d.arenas w) (block_in d w i) (block_in d w j)
      ordered i j l (yes b) =
          apart-of-test (d.arenas w) (block_in d w i) (block_in d w j)
          (all_below-at (apart_from i) i
          (slots-at d (λ i. all_below (apart_from i) i) all_apart i b) j l)
      ordered i j l (no b) = empty_left (ap (λ (x : Block). x.len) (no-block i (omega arith)))

      apart : (i j : ℕ) → (i ≡ j → ⊥) → Dec (i < j) → Apart (d.arenas w) (block_in d w i) (block_in d w j)
      apart i j n (yes l) = apart-sym (ordered j i l (dec_lt j (length d.gens)))
      apart i j n (no l) = ordered i j (omega arith) (dec_lt i (length d.gens))

  arena-of-blocks : BlocksApart (d.arenas w) (block_in d w) → arena_holds d w ≡ true
  unfolding arena_holds
  arena-of-blocks R =
      rw (
        le-leb (d.arenas w).used (length (d.arenas w).ids) R.shaped.fits,
        at_slots d inside_at
            (λ i b. le-leb ((block_in d w i).start + cap_of (d.arenas w) (block_in d w i)) (d.arenas w).used (R.inside i).below),
        at_slots d (λ i. all_below (apart_from i) i)
            (λ i b. at-all_below (apart_from i) i (λ j l. test-of-apart (d.arenas w) (block_in d w i) (block_in d w j) (R.apart i j (omega arith)))),
      )

-- ---- 5

pub blocks-of-test : (d : Doc) → Shape d → blocks_hold d ≡ true → Blocks d
unfolding blocks_hold
blocks-of-test d F h w = blocks-of-arena d w F (which-at (arena_holds d) h w)

pub test-of-blocks : (d : Doc) → Blocks d → blocks_hold d ≡ true
unfolding blocks_hold
test-of-blocks d R = at-which (arena_holds d) (λ w. arena-of-blocks d w (R w))
