-- What a document must hold for a slot to be taken, in the words.
-- Assumes nothing.
use mathlib.Core.Path.{◌≡◌, refl, sym, ap, subst, ◌∙◌}
use mathlib.Core.Bool.{true}
use mathlib.Core.List.{List, [], ◌∷◌, reverse, reverse-append}
use Prim.Native.Nat.{ℕ, zero, suc, ◌<◌}
use native.Mathlib.Omega.{arith}
use native.Mathlib.Decide.{ℕ_discrete}
use lib.ListN.{length, get_or}
use lib.Dec.{ltb}
use borrow.Author.Tests.{lt-ltb}
use Rattle.words.specs.Lists.{tabulate}
use Rattle.words.proofs.Lists.{length-tabulate, get_or-tabulate}
use Rattle.slots.specs.Regions.{generation_at, free_at}
use Rattle.slots.specs.Slots.{has_slot, CanTake}
use Rattle.model.specs.Calls.{slot_fits_from}
use Rattle.layout.specs.declared.Document.{Document}
use Rattle.memory.specs.Decode.{slots_part, slots_made, slots_free, decode}
use Rattle.layout.proofs.Sizes.{sizes}
use Rattle.memory.proofs.Shaped.{length-slots_part}
use Rattle.edits.specs.Slot.{CanBear}

-- the last entry of a stack is its top
pub reverse-next : (f : ℕ → ℕ) (k : ℕ) → reverse (tabulate f (suc k)) ≡ f k ∷ reverse (tabulate f k)
reverse-next f k = reverse-append (tabulate f k) (f k ∷ [])

entries_below : (f : ℕ → ℕ) (k bound : ℕ) → ((i : ℕ) → i < length (reverse (tabulate f k)) → get_or (reverse (tabulate f k)) i 0 < bound)
    → (i : ℕ) → i < k → f i < bound
entries_below f zero bound h i b = absurd (omega arith)
entries_below f (suc k) bound h i b = go (ℕ_discrete i k) (entries_below f k bound (λ j c. below (suc j) (omega (arith, c))) i)
  where
    below : (j : ℕ) → j < length (f k ∷ reverse (tabulate f k)) → get_or (f k ∷ reverse (tabulate f k)) j 0 < bound
    below = subst (λ (l : List ℕ). (j : ℕ) → j < length l → get_or l j 0 < bound) (reverse-next f k) h

    go : Dec (i ≡ k) → (i < k → f i < bound) → f i < bound
    go (yes e) ih = rw e (below 0 (omega arith))
    go (no ne) ih = ih (omega arith)

module _ (d : Document) (mem : List ℕ) (c : CanBear d mem) where
  abbrev n : ℕ
  n = d.limits.nodes

  abbrev w : List ℕ
  w = slots_part d mem

  abbrev gens : List ℕ
  gens = tabulate (generation_at n w) (slots_made d)

  long-gens : length gens ≡ slots_made d
  long-gens = length-tabulate (generation_at n w) (slots_made d)

  has-slot : has_slot n (slots_made d) (slots_free d) ≡ true
  has-slot = go (slots_free d) refl
    where
      go : (k : ℕ) → slots_free d ≡ k → has_slot n (slots_made d) k ≡ true
      go zero e =
          let q : slot_fits_from (reverse (tabulate (free_at n w) 0)) (decode d mem) ≡ true =
          ap (λ (j : ℕ). slot_fits_from (reverse (tabulate (free_at n w) j)) (decode d mem)) (sym e) ∙ c.ready.slot in
          ap (λ (j : ℕ). ltb j n) (sym long-gens) ∙ q
      go (suc k) e = rw (lt-ltb 0 (suc k) (omega arith))

  pub can-take : CanTake d.limits.nodes (slots_part d mem) (slots_made d) (slots_free d)
  can-take =
      let z = sizes d (length mem) c.memory in
      record {
        long = omega (arith, length-slots_part d mem c.memory);
        narrow = omega (arith, z.nodes);
        made-slots = omega arith;
        free-slots = omega arith;
        slot = has-slot;
        rule-2 = λ i b. omega (arith, long-gens, entries_below (free_at n w) (slots_free d) (length gens) c.ready.inside i b);
        rule-1 = λ s b. omega (arith, get_or-tabulate (generation_at n w) (slots_made d) s 0 b, c.ready.generations s (omega (arith, long-gens)));
      }
