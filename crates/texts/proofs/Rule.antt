-- Structure rule 8 holds again after each edit of the pool.
-- Assumes nothing.
use Rattle.std.specs.Prelude.{Option, None, Some}
use mathlib.Core.Path.{◌≡◌, ap, ◌∙◌}
use mathlib.Core.Bool.{Bool, cond}
use mathlib.Core.List.{List, [], ◌∷◌, ◌++◌}
use Prim.Native.Nat.{ℕ, ◌+◌, ◌≤◌, ◌<◌}
use native.Mathlib.Decide.{ℕ_discrete, dec_lt}
use native.Mathlib.Omega.{arith}
use lib.ListN.{length, get_or, set, length-append, length-set}
use lib.Seq.{get_or-set_same, get_or-set_other}
use lib.Dec.{eqb}
use borrow.Author.Tests.{eq-eqb}
use Rattle.words.specs.Lists.{count_of}
use Rattle.words.proofs.Counting.{counted_same, counted-other, once-room}
use Rattle.texts.specs.Pool.{Pool, next_slot_from, stored_from, stored_slot, stored, replaced_slot, replaced, released}
use Rattle.texts.specs.Rule.{FreeTexts, holds, Owned}
use Rattle.texts.proofs.Pool.{first-there}

holds_same : (s : ℕ) → holds (Some s) s ≡ 1
holds_same s = counted_same s

holds-other : (x s : ℕ) → (s ≡ x → ⊥) → holds (Some x) s ≡ 0
holds-other x s h = counted-other s x h

-- a slot that has an owner is not in the free list
pub owned-not-free : (p : Pool) (owners : ℕ → ℕ) → Owned p owners → (s : ℕ) → 0 < owners s → (s < length p.texts) × (count_of (eqb s) p.free ≡ 0)
owned-not-free p owners o s h = go (dec_lt s (length p.texts))
  where
    go : Dec (s < length p.texts) → (s < length p.texts) × (count_of (eqb s) p.free ≡ 0)
    go (yes k) = (k, omega (arith, o.once s k))
    go (no k) = absurd (omega (arith, o.made s (omega arith)))

-- ---- each slot has one owner or is free once

module _ (p : Pool) (t : List ℕ) (owners : ℕ → ℕ) (o : Owned p owners) where
  new-once : (s : ℕ) → s < length (p.texts ++ (t ∷ [])) → ((s : ℕ) → s < length p.texts → owners s + 0 ≡ 1) → Dec (s ≡ length p.texts)
      → (owners s + holds (Some (length p.texts)) s) + 0 ≡ 1
  new-once s h k (yes e) = omega (arith, o.made s (omega arith), ap (λ (i : ℕ). holds (Some (length p.texts)) i) e ∙ holds_same (length p.texts))
  new-once s h k (no e) =
      let g : s < length p.texts + 1 = simp length-append at h in
      omega (arith, k s (omega arith), holds-other (length p.texts) s e)

  new-made : (s : ℕ) → length (p.texts ++ (t ∷ [])) ≤ s → owners s + holds (Some (length p.texts)) s ≡ 0
  new-made s h =
      let g : length p.texts + 1 ≤ s = simp length-append at h in
      omega (arith, o.made s (omega arith), holds-other (length p.texts) s (λ e. omega arith))

-- the stored text's field is one owner more
pub stored-owned : (p : Pool) (t : List ℕ) (owners : ℕ → ℕ) → Owned p owners → FreeTexts p → Owned (stored p t) (λ s. owners s + holds (stored_slot p t) s)
unfolding stored
stored-owned p [] owners o f = record { once = λ s h. omega (arith, o.once s h); made = λ s h. omega (arith, o.made s h) }
stored-owned p (b ∷ t) owners o f = go p.free o.once f.inside
  where
    go : (l : List ℕ) → ((s : ℕ) → s < length p.texts → owners s + count_of (eqb s) l ≡ 1) → ((s : ℕ) → 0 < count_of (eqb s) l → s < length p.texts)
        → Owned (stored_from l p (b ∷ t)) (λ s. owners s + holds (Some (next_slot_from l p)) s)
    go [] k i = record { once = λ s h. new-once p (b ∷ t) owners o s h k (ℕ_discrete s (length p.texts)); made = new-made p (b ∷ t) owners o }
    go (x ∷ l) k i =
        let e : length (set p.texts x (b ∷ t)) ≡ length p.texts = length-set p.texts x (b ∷ t) in
        let g : x < length p.texts = i x (first-there x l) in
        record {
          once = λ s h. omega (arith, k s (rw e at h));
          made = λ s h. omega (arith, o.made s (rw e at h), holds-other x s (λ q. omega (arith, rw e at h)));
        }

-- a replaced text that has a slot keeps it, one that has none is stored
pub replaced-owned : (p : Pool) (f : Option ℕ) (t : List ℕ) (owners after : ℕ → ℕ) → Owned p owners → FreeTexts p
    → ((s : ℕ) → after s + holds f s ≡ owners s + holds (replaced_slot p f t) s) → Owned (replaced p f t) after
unfolding replaced
replaced-owned p None t owners after o f e =
    let w : Owned (stored p t) (λ s. owners s + holds (stored_slot p t) s) = stored-owned p t owners o f in
    record { once = λ s h. omega (arith, w.once s h, e s); made = λ s h. omega (arith, w.made s h, e s) }
replaced-owned p (Some x) t owners after o f e =
    record {
      once = λ s h. omega (arith, o.once s (rw (length-set p.texts x t) at h), e s);
      made = λ s h. omega (arith, o.made s (rw (length-set p.texts x t) at h), e s);
    }

-- a released text's field is one owner less
pub released-owned : (p : Pool) (f : Option ℕ) (owners after : ℕ → ℕ) → Owned p owners → ((s : ℕ) → after s + holds f s ≡ owners s) → Owned (released p f) after
unfolding released
released-owned p None owners after o e = record { once = λ s h. omega (arith, o.once s h, e s); made = λ s h. omega (arith, o.made s h, e s) }
released-owned p (Some x) owners after o e =
    record {
      once = λ s h. omega (arith, o.once s (rw (length-set p.texts x []) at h), e s);
      made = λ s h. omega (arith, o.made s (rw (length-set p.texts x []) at h), e s);
    }

-- ---- free slots are slots, with empty texts

pub stored-free-texts : (p : Pool) (t : List ℕ) → ((s : ℕ) → count_of (eqb s) p.free ≤ 1) → FreeTexts p → FreeTexts (stored p t)
unfolding stored
stored-free-texts p [] once f = f
stored-free-texts p (b ∷ t) once f = go p.free once f.inside f.empty
  where
    go : (l : List ℕ) → ((s : ℕ) → count_of (eqb s) l ≤ 1) → ((s : ℕ) → 0 < count_of (eqb s) l → s < length p.texts)
        → ((s : ℕ) → 0 < count_of (eqb s) l → get_or p.texts s [] ≡ []) → FreeTexts (stored_from l p (b ∷ t))
    go [] k i e = record { inside = λ s h. absurd (omega arith); empty = λ s h. absurd (omega arith) }
    go (x ∷ l) k i e =
        record {
          inside = λ s h. rw (length-set p.texts x (b ∷ t)) (i s (omega arith));
          empty = λ s h. get_or-set_other p.texts x s (b ∷ t) [] (λ q. apart s h q) ∙ e s (omega arith);
        }
      where
        apart : (s : ℕ) → 0 < count_of (eqb s) l → s ≡ x → ⊥
        apart s h q = omega (arith, k s, ap (λ (w : Bool). cond {A = ℕ} w 1 0) (eq-eqb s x q))

pub replaced-free-texts : (p : Pool) (x : ℕ) (t : List ℕ) → count_of (eqb x) p.free ≡ 0 → FreeTexts p → FreeTexts (replaced p (Some x) t)
unfolding replaced
replaced-free-texts p x t h f =
    record {
      inside = λ s k. rw (length-set p.texts x t) (f.inside s k);
      empty = λ s k. get_or-set_other p.texts x s t [] (λ q. apart s k q) ∙ f.empty s k;
    }
  where
    apart : (s : ℕ) → 0 < count_of (eqb s) p.free → s ≡ x → ⊥
    apart s k q = omega (arith, ap (λ (i : ℕ). count_of (eqb i) p.free) q)

pub released-free-texts : (p : Pool) (x : ℕ) → x < length p.texts → FreeTexts p → FreeTexts (released p (Some x))
unfolding released
released-free-texts p x h f =
    record { inside = λ s k. rw (length-set p.texts x []) (inside s k (ℕ_discrete s x)); empty = λ s k. empty s k (ℕ_discrete s x) }
  where
    inside : (s : ℕ) → 0 < count_of (eqb s) (x ∷ p.free) → Dec (s ≡ x) → s < length p.texts
    inside s k (yes q) = omega arith
    inside s k (no q) = f.inside s (omega (arith, holds-other x s q))

    empty : (s : ℕ) → 0 < count_of (eqb s) (x ∷ p.free) → Dec (s ≡ x) → get_or (set p.texts x []) s [] ≡ []
    empty s k (yes q) = rw q (get_or-set_same p.texts x [] [] h)
    empty s k (no q) = get_or-set_other p.texts x s [] [] q ∙ f.empty s (omega (arith, holds-other x s q))

-- ---- the stack has room for a slot that has an owner

pub free-room : (p : Pool) (owners : ℕ → ℕ) → Owned p owners → FreeTexts p → (s : ℕ) → 0 < owners s → length p.free < length p.texts
free-room p owners o f s h =
    let w : (s < length p.texts) × (count_of (eqb s) p.free ≡ 0) = owned-not-free p owners o s h in
    once-room p.free (length p.texts) f.inside (λ i k. omega (arith, o.once i k)) s w.0 w.1
