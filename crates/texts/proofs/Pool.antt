-- What storing, replacing and releasing a text do to the pool: the text itself, every other text, the counts, and Full.
-- Assumes nothing.
use Rattle.std.specs.Prelude.{None, Some}
use mathlib.Core.Path.{◌≡◌, refl, sym, ap, ◌∙◌}
use mathlib.Core.Logic.{◌⊎◌, inl, inr}
use mathlib.Core.Bool.{Bool, true, ◌&&◌, cond}
use mathlib.Core.List.{List, [], ◌∷◌, ◌++◌}
use Prim.Native.Nat.{ℕ, ◌+◌, ◌-◌, ◌≤◌, ◌<◌}
use native.Mathlib.Decide.{dec_lt}
use native.Mathlib.Omega.{arith}
use lib.ListN.{length, get_or, set, length-append, length-set, get_or-append, get_or-eq_default}
use lib.Seq.{get_or-set_same, get_or-set_other, get_or_at}
use lib.Dec.{eqb, leb}
use borrow.Author.Tests.{eq-eqb, le-leb, leb-true}
use Rattle.words.specs.Lists.{count_of}
use Rattle.words.proofs.Tests.{and_left, and_right, and_both, leb-same}
use Rattle.words.proofs.Joined.{length-joined-snoc, length-joined-set}
use Rattle.texts.specs.Pool.{Pool, bytes_of, text_at, next_slot_from, stored_from, stored_slot, stored, replaced, released, slots_for, texts_fit}
use Rattle.texts.specs.Rule.{FreeTexts}

-- ---- the two ways of storing a text that is not empty

module _ (p : Pool) (b : ℕ) (t : List ℕ) where
  pub stored-new : p.free ≡ [] → stored p (b ∷ t) ≡ record { texts = p.texts ++ ((b ∷ t) ∷ []); free = [] }
  unfolding stored
  stored-new e = rw e

  pub stored-reused : (s : ℕ) (l : List ℕ) → p.free ≡ s ∷ l → stored p (b ∷ t) ≡ record { texts = set p.texts s (b ∷ t); free = l }
  unfolding stored
  stored-reused s l e = rw e

  pub stored_slot-new : p.free ≡ [] → stored_slot p (b ∷ t) ≡ Some (length p.texts)
  stored_slot-new e = rw e

  pub stored_slot-reused : (s : ℕ) (l : List ℕ) → p.free ≡ s ∷ l → stored_slot p (b ∷ t) ≡ Some s
  stored_slot-reused s l e = rw e

pub stored-empty : (p : Pool) → stored p [] ≡ p
unfolding stored
stored-empty p = refl

-- an entry of the stack that stands first stands there
pub first-there : (s : ℕ) (l : List ℕ) → 0 < count_of (eqb s) (s ∷ l)
first-there s l =
    let q : cond {A = ℕ} (eqb s s) 1 0 ≡ 1 = rw (eq-eqb s s refl) in
    omega arith

get_or-snoc-other : (l : List (List ℕ)) (t : List ℕ) (s : ℕ) → (s ≡ length l → ⊥) → get_or (l ++ (t ∷ [])) s [] ≡ get_or l s []
get_or-snoc-other l t s h = go (dec_lt s (length l))
  where
    go : Dec (s < length l) → get_or (l ++ (t ∷ [])) s [] ≡ get_or l s []
    go (yes k) = get_or-append l (t ∷ []) [] s k
    go (no k) =
        let m : length (l ++ (t ∷ [])) ≤ s = simp length-append (omega arith) in
        get_or-eq_default (l ++ (t ∷ [])) [] m ∙ sym (get_or-eq_default l [] (omega arith))

-- ---- store_text

pub stored_same : (p : Pool) (t : List ℕ) → FreeTexts p → text_at (stored p t) (stored_slot p t) ≡ t
unfolding stored
stored_same p [] h = refl
stored_same p (b ∷ t) h = go p.free h.inside
  where
    go : (l : List ℕ) → ((s : ℕ) → 0 < count_of (eqb s) l → s < length p.texts) → text_at (stored_from l p (b ∷ t)) (Some (next_slot_from l p)) ≡ b ∷ t
    go [] k = get_or_at p.texts (b ∷ t) [] [] (length p.texts) refl
    go (s ∷ l) k = get_or-set_same p.texts s (b ∷ t) [] (k s (first-there s l))

-- every other text keeps its bytes
pub stored_other : (p : Pool) (t : List ℕ) (s : ℕ) → (stored_slot p t ≡ Some s → ⊥) → text_at (stored p t) (Some s) ≡ text_at p (Some s)
unfolding stored
stored_other p [] s h = refl
stored_other p (b ∷ t) s h = go p.free h
  where
    go : (l : List ℕ) → (Some (next_slot_from l p) ≡ Some s → ⊥) → text_at (stored_from l p (b ∷ t)) (Some s) ≡ text_at p (Some s)
    go [] k = get_or-snoc-other p.texts (b ∷ t) s (λ e. k (ap Some (sym e)))
    go (x ∷ l) k = get_or-set_other p.texts x s (b ∷ t) [] (λ e. k (ap Some (sym e)))

-- the slot taken is a free one, or new
pub stored-where : (p : Pool) (t : List ℕ) (s : ℕ) → stored_slot p t ≡ Some s → (0 < count_of (eqb s) p.free) ⊎ (s ≡ length p.texts)
stored-where p [] s e =
    let z : ◌≡◌ {A = ℕ} 0 1 = cc in
    absurd (omega arith)
stored-where p (b ∷ t) s e = go p.free e
  where
    go : (l : List ℕ) → Some (next_slot_from l p) ≡ Some s → (0 < count_of (eqb s) l) ⊎ (s ≡ length p.texts)
    go [] k = inr (cc)
    go (x ∷ l) k =
        let q : x ≡ s = cc in
        inl (rw q (first-there s l))

-- so a text that has an owner keeps its bytes
pub stored-kept : (p : Pool) (t : List ℕ) (s : ℕ) → s < length p.texts → count_of (eqb s) p.free ≡ 0 → text_at (stored p t) (Some s) ≡ text_at p (Some s)
stored-kept p t s h k = stored_other p t s (λ e. none_of (stored-where p t s e))
  where
    none_of : (0 < count_of (eqb s) p.free) ⊎ (s ≡ length p.texts) → ⊥
    none_of (inl w) = omega arith
    none_of (inr w) = omega arith

pub stored-slots : (p : Pool) (t : List ℕ) → length (stored p t).texts ≡ length p.texts + (slots_for t - length p.free)
unfolding stored
stored-slots p [] = omega arith
stored-slots p (b ∷ t) = go p.free
  where
    go : (l : List ℕ) → length (stored_from l p (b ∷ t)).texts ≡ length p.texts + (1 - length l)
    go [] = length-append p.texts ((b ∷ t) ∷ [])
    go (s ∷ l) = length-set p.texts s (b ∷ t) ∙ omega arith

pub stored-free : (p : Pool) (t : List ℕ) → length (stored p t).free ≡ length p.free - slots_for t
unfolding stored
stored-free p [] = omega arith
stored-free p (b ∷ t) = go p.free
  where
    go : (l : List ℕ) → length (stored_from l p (b ∷ t)).free ≡ length l - 1
    go [] = refl
    go (s ∷ l) = omega arith

pub stored_bytes : (p : Pool) (t : List ℕ) → FreeTexts p → length (bytes_of (stored p t).texts) ≡ length (bytes_of p.texts) + length t
unfolding stored
stored_bytes p [] h = omega arith
stored_bytes p (b ∷ t) h = go p.free h.inside h.empty
  where
    go : (l : List ℕ) → ((s : ℕ) → 0 < count_of (eqb s) l → s < length p.texts) → ((s : ℕ) → 0 < count_of (eqb s) l → get_or p.texts s [] ≡ [])
        → length (bytes_of (stored_from l p (b ∷ t)).texts) ≡ length (bytes_of p.texts) + length (b ∷ t)
    go [] k e = length-joined-snoc (λ u. u) p.texts (b ∷ t)
    go (s ∷ l) k e =
        let f : s < length p.texts = k s (first-there s l) in
        let z : length (get_or p.texts s []) ≡ 0 = ap length (e s (first-there s l)) in
        omega (arith, length-joined-set (λ u. u) p.texts s (b ∷ t) [] f)

-- ---- replace_text

pub replaced-same : (p : Pool) (s : ℕ) (t : List ℕ) → s < length p.texts → text_at (replaced p (Some s) t) (Some s) ≡ t
unfolding replaced
replaced-same p s t h = get_or-set_same p.texts s t [] h

pub replaced-other : (p : Pool) (s : ℕ) (t : List ℕ) (i : ℕ) → (i ≡ s → ⊥) → text_at (replaced p (Some s) t) (Some i) ≡ text_at p (Some i)
unfolding replaced
replaced-other p s t i h = get_or-set_other p.texts s i t [] h

pub replaced-none : (p : Pool) (t : List ℕ) → replaced p None t ≡ stored p t
unfolding replaced
replaced-none p t = refl

pub replaced-texts : (p : Pool) (s : ℕ) (t : List ℕ) → (replaced p (Some s) t).texts ≡ set p.texts s t
unfolding replaced
replaced-texts p s t = refl

pub replaced-free : (p : Pool) (s : ℕ) (t : List ℕ) → (replaced p (Some s) t).free ≡ p.free
unfolding replaced
replaced-free p s t = refl

pub replaced-slots : (p : Pool) (s : ℕ) (t : List ℕ) → length (replaced p (Some s) t).texts ≡ length p.texts
unfolding replaced
replaced-slots p s t = length-set p.texts s t

-- the old text's bytes are given back
pub replaced-bytes : (p : Pool) (s : ℕ) (t : List ℕ) → s < length p.texts
    → length (bytes_of (replaced p (Some s) t).texts) + length (text_at p (Some s)) ≡ length (bytes_of p.texts) + length t
unfolding replaced
replaced-bytes p s t h = length-joined-set (λ u. u) p.texts s t [] h

-- ---- release_chars

pub released-same : (p : Pool) (s : ℕ) → text_at (released p (Some s)) (Some s) ≡ []
unfolding released
released-same p s = go (dec_lt s (length p.texts))
  where
    go : Dec (s < length p.texts) → get_or (set p.texts s []) s [] ≡ []
    go (yes h) = get_or-set_same p.texts s [] [] h
    go (no h) =
        let m : length (set p.texts s []) ≤ s = simp length-set (omega arith) in
        get_or-eq_default (set p.texts s []) [] m

pub released-other : (p : Pool) (s i : ℕ) → (i ≡ s → ⊥) → text_at (released p (Some s)) (Some i) ≡ text_at p (Some i)
unfolding released
released-other p s i h = get_or-set_other p.texts s i [] [] h

pub released-none : (p : Pool) → released p None ≡ p
unfolding released
released-none p = refl

pub released-texts : (p : Pool) (s : ℕ) → (released p (Some s)).texts ≡ set p.texts s []
unfolding released
released-texts p s = refl

pub released-free : (p : Pool) (s : ℕ) → (released p (Some s)).free ≡ s ∷ p.free
unfolding released
released-free p s = refl

pub released-slots : (p : Pool) (s : ℕ) → length (released p (Some s)).texts ≡ length p.texts
unfolding released
released-slots p s = length-set p.texts s []

pub released-bytes : (p : Pool) (s : ℕ) → s < length p.texts → length (bytes_of (released p (Some s)).texts) + length (text_at p (Some s)) ≡ length (bytes_of p.texts)
unfolding released
released-bytes p s h = omega (arith, length-joined-set (λ u. u) p.texts s [] [] h)

-- ---- Full: what a call takes is what the limits have left

module _ (slotLimit byteLimit : ℕ) (p : Pool) where
  pub texts_fit-within : (k off on : ℕ) → texts_fit slotLimit byteLimit p k off on ≡ true
      → (length p.texts + k ≤ slotLimit + length p.free) × (length (bytes_of p.texts) + on ≤ byteLimit + off)
  unfolding texts_fit
  texts_fit-within k off on h =
      let a : Bool = leb (length p.texts + k) (slotLimit + length p.free) in
      let b : Bool = leb (length (bytes_of p.texts) + on) (byteLimit + off) in
      (leb-true _ _ (and_left a b h), leb-true _ _ (and_right a b h))

  pub within-texts_fit : (k off on : ℕ) → length p.texts + k ≤ slotLimit + length p.free → length (bytes_of p.texts) + on ≤ byteLimit + off
      → texts_fit slotLimit byteLimit p k off on ≡ true
  unfolding texts_fit
  within-texts_fit k off on h g =
      and_both (leb (length p.texts + k) (slotLimit + length p.free)) (leb (length (bytes_of p.texts) + on) (byteLimit + off)) (le-leb _ _ h) (le-leb _ _ g)

  -- a test of what is taken is a test of the pool after
  fits_after : (q : Pool) (k off on : ℕ) → (length p.texts + k ≤ slotLimit + length p.free → length q.texts ≤ slotLimit)
      → (length q.texts ≤ slotLimit → length p.texts + k ≤ slotLimit + length p.free)
      → length (bytes_of q.texts) + off ≡ length (bytes_of p.texts) + on
      → texts_fit slotLimit byteLimit p k off on ≡ (leb (length q.texts) slotLimit && leb (length (bytes_of q.texts)) byteLimit)
  unfolding texts_fit
  fits_after q k off on f g e =
      ap (λ (b : Bool). b && leb (length (bytes_of p.texts) + on) (byteLimit + off)) (leb-same (length p.texts + k) (slotLimit + length p.free) (length q.texts) slotLimit f g)
      ∙ ap
      (λ (b : Bool). leb (length q.texts) slotLimit && b)
      (leb-same (length (bytes_of p.texts) + on) (byteLimit + off) (length (bytes_of q.texts)) byteLimit (λ h. omega arith) (λ h. omega arith))

  module _ (w : length p.texts ≤ slotLimit) where
    pub stored-fits : (t : List ℕ) → FreeTexts p
        → texts_fit slotLimit byteLimit p (slots_for t) 0 (length t) ≡ (leb (length (stored p t).texts) slotLimit && leb (length (bytes_of (stored p t).texts)) byteLimit)
    stored-fits t h =
        let s : length (stored p t).texts ≡ length p.texts + (slots_for t - length p.free) = stored-slots p t in
        let k : slots_for t ≤ 1 = one t in
        fits_after (stored p t) (slots_for t) 0 (length t) (λ g. omega arith) (λ g. omega arith) (omega (arith, stored_bytes p t h))
      where
        one : (u : List ℕ) → slots_for u ≤ 1
        one [] = omega arith
        one (b ∷ u) = omega arith

    pub replaced-fits : (s : ℕ) (t : List ℕ) → s < length p.texts
        → texts_fit slotLimit byteLimit p 0 (length (text_at p (Some s))) (length t)
        ≡ (leb (length (replaced p (Some s) t).texts) slotLimit && leb (length (bytes_of (replaced p (Some s) t).texts)) byteLimit)
    replaced-fits s t h =
        let e : length (replaced p (Some s) t).texts ≡ length p.texts = replaced-slots p s t in
        fits_after (replaced p (Some s) t) 0 (length (text_at p (Some s))) (length t) (λ g. omega arith) (λ g. omega arith) (replaced-bytes p s t h)

    -- two texts of one call are counted together
    pub stored-stored-fits : (t u : List ℕ) → FreeTexts p → FreeTexts (stored p t)
        → texts_fit slotLimit byteLimit p (slots_for t + slots_for u) 0 (length t + length u)
        ≡ (leb (length (stored (stored p t) u).texts) slotLimit && leb (length (bytes_of (stored (stored p t) u).texts)) byteLimit)
    stored-stored-fits t u h k =
        let a : length (stored p t).texts ≡ length p.texts + (slots_for t - length p.free) = stored-slots p t in
        let b : length (stored p t).free ≡ length p.free - slots_for t = stored-free p t in
        let c : length (stored (stored p t) u).texts ≡ length (stored p t).texts + (slots_for u - length (stored p t).free) = stored-slots (stored p t) u in
        fits_after (stored (stored p t) u) (slots_for t + slots_for u) 0 (length t + length u) (λ g. omega arith) (λ g. omega arith)
        (omega (arith, stored_bytes p t h, stored_bytes (stored p t) u k))
