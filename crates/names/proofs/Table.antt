-- What interning does to the name table: old numbers keep their names, the number reads back the pair, pairs stay distinct, the counts, and Full.
-- Assumes nothing.
use Rattle.std.proofs.lemmas.Option.{none-some}
use Rattle.std.specs.Prelude.{Option, None, Some}
use mathlib.Core.Path.{◌≡◌, refl, sym, ap, ◌∙◌}
use mathlib.Core.Bool.{Bool, true, false, ◌&&◌, ◌||◌, cond, false≢true}
use mathlib.Core.List.{List, [], ◌∷◌, ◌++◌}
use Prim.Native.Nat.{ℕ, suc, ◌+◌, ◌≤◌, ◌<◌}
use native.Mathlib.Decide.{dec_lt}
use native.Mathlib.Omega.{arith}
use lib.ListN.{length, length-append, get_or-append, get_or-eq_default}
use lib.Dec.{ltb, leb}
use borrow.Author.Tests.{lt-ltb, le-ltb, le-leb}
use Rattle.words.specs.Lists.{index_of, joined}
use Rattle.words.proofs.Lists.{index_of-le}
use Rattle.words.proofs.Joined.{length-joined-snoc}
use Rattle.words.specs.Pieces.{same_bytes}
use Rattle.words.proofs.Bytes.{same_bytes-true, same_bytes-refl}
use Rattle.words.proofs.Tests.{and_left, and_right, leb-same}
use Rattle.names.specs.Table.{Name, same_name, name_bytes, shows, entry_bytes, number_of, interned, name_at, name_fits}
use Rattle.names.specs.Rule.{Distinct}
use Rattle.names.proofs.Lists.{index_of-passes, index_of-first, index_of-left, index_of-right}

-- ---- equal by bytes is equal

pub same_name-true : (a b : Name) → same_name a b ≡ true → a ≡ b
same_name-true a b h =
    let e : a.namespace ≡ b.namespace = same_bytes-true a.namespace b.namespace (and_left (same_bytes a.namespace b.namespace) (same_bytes a.local b.local) h) in
    let f : a.local ≡ b.local = same_bytes-true a.local b.local (and_right (same_bytes a.namespace b.namespace) (same_bytes a.local b.local) h) in
    λ i. record { namespace = e i; local = f i }

pub same_name-refl : (a : Name) → same_name a a ≡ true
same_name-refl a = rw (same_bytes-refl a.namespace, same_bytes-refl a.local)

pub shows-true : (n : Name) (o : Option Name) → shows n o ≡ true → o ≡ Some n
shows-true n None h = absurd (false≢true h)
shows-true n (Some m) h = ap Some (sym (same_name-true n m h))

-- ---- a number that shows a pair is in the table

pub name_at-made : (names : List (Option Name)) (i : ℕ) (n : Name) → name_at names i ≡ Some n → i < length names
name_at-made names i n h = go (dec_lt i (length names))
  where
    go : Dec (i < length names) → i < length names
    go (yes k) = k
    go (no k) = absurd (none-some n (sym (get_or-eq_default names None {n = i} (omega arith)) ∙ h))

-- ---- number_of

pub number_of-le : (names : List (Option Name)) (n : Name) → number_of names n ≤ length names
number_of-le names n = index_of-le (shows n) names

-- a number that is found reads back the pair
pub number_of-back : (names : List (Option Name)) (n : Name) → number_of names n < length names → name_at names (number_of names n) ≡ Some n
number_of-back names n h = shows-true n (name_at names (number_of names n)) (index_of-passes (shows n) names None h)

-- a pair that has a number is found, there or before
pub number_of-found : (names : List (Option Name)) (n : Name) (i : ℕ) → name_at names i ≡ Some n → number_of names n ≤ i
number_of-found names n i h = go (dec_lt i (number_of names n))
  where
    go : Dec (i < number_of names n) → number_of names n ≤ i
    go (no k) = omega arith
    go (yes k) =
        let z : same_name n n ≡ false = sym (ap (shows n) h) ∙ index_of-first (shows n) names None i k in
        absurd (false≢true (sym z ∙ same_name-refl n))

-- ---- interned

module _ (names : List (Option Name)) (n : Name) where
  pub interned-found : number_of names n < length names → interned names n ≡ names
  unfolding interned
  interned-found h = rw (lt-ltb (number_of names n) (length names) h)

  pub interned-new : length names ≤ number_of names n → interned names n ≡ names ++ (Some n ∷ [])
  unfolding interned
  interned-new h = rw (le-ltb (number_of names n) (length names) h)

  -- the same number before and after, and there is a name at it
  pub interned-number : (number_of (interned names n) n ≡ number_of names n) × (number_of names n < length (interned names n))
  interned-number = go (dec_lt (number_of names n) (length names))
    where
      go : Dec (number_of names n < length names) → (number_of (interned names n) n ≡ number_of names n) × (number_of names n < length (interned names n))
      go (yes h) = rw (interned-found h) (refl, h)
      go (no h) =
          let e : number_of names n ≡ length names = omega (arith, number_of-le names n) in
          let z : index_of (shows n) (Some n ∷ []) ≡ 0 = rw (same_name-refl n) in
          rw (interned-new (omega arith))
          (omega (arith, index_of-right (shows n) names (Some n ∷ []) (omega arith)), omega (arith, length-append names (Some n ∷ [])))

  -- the number of the interned pair reads back the pair
  pub interned-back : name_at (interned names n) (number_of names n) ≡ Some n
  interned-back =
      ap (name_at (interned names n)) (sym interned-number.0)
      ∙ number_of-back (interned names n) n (rw interned-number.0 interned-number.1)

  -- every old number keeps its name
  pub interned-old : (i : ℕ) → i < length names → name_at (interned names n) i ≡ name_at names i
  interned-old i h = go (dec_lt (number_of names n) (length names))
    where
      go : Dec (number_of names n < length names) → name_at (interned names n) i ≡ name_at names i
      go (yes k) = rw (interned-found k)
      go (no k) =
          rw (interned-new (omega arith)) (get_or-append names (Some n ∷ []) None i h)

  -- and every old pair its number
  pub interned-kept : (m : Name) → number_of names m < length names → number_of (interned names n) m ≡ number_of names m
  interned-kept m h = go (dec_lt (number_of names n) (length names))
    where
      go : Dec (number_of names n < length names) → number_of (interned names n) m ≡ number_of names m
      go (yes k) = rw (interned-found k)
      go (no k) = rw (interned-new (omega arith)) (index_of-left (shows m) names (Some n ∷ []) h)

  -- a number that is new belongs to the pair alone
  pub interned-only : (i : ℕ) → length names ≤ i → i < length (interned names n) → i ≡ number_of names n
  interned-only i h k = go (dec_lt (number_of names n) (length names))
    where
      go : Dec (number_of names n < length names) → i ≡ number_of names n
      go (yes g) = absurd (omega (arith, rw (interned-found g) at k))
      go (no g) =
          let l : length (interned names n) ≡ length names + 1 = ap length (interned-new (omega arith)) ∙ length-append names (Some n ∷ []) in
          omega (arith, number_of-le names n)

  -- ---- the counts, and Full

  pub interned-count : length (interned names n) ≡ cond (ltb (number_of names n) (length names)) (length names) (length names + 1)
  unfolding interned
  interned-count = go (ltb (number_of names n) (length names))
    where
      go : (t : Bool) → length (cond t names (names ++ (Some n ∷ []))) ≡ cond t (length names) (length names + 1)
      go true = refl
      go false = length-append names (Some n ∷ [])

  pub interned-bytes : length (joined entry_bytes (interned names n))
      ≡ cond (ltb (number_of names n) (length names)) (length (joined entry_bytes names)) (length (joined entry_bytes names) + length (name_bytes n))
  unfolding interned
  interned-bytes = go (ltb (number_of names n) (length names))
    where
      go : (t : Bool) → length (joined entry_bytes (cond t names (names ++ (Some n ∷ []))))
          ≡ cond t (length (joined entry_bytes names)) (length (joined entry_bytes names) + length (name_bytes n))
      go true = refl
      go false = length-joined-snoc entry_bytes names (Some n)

  pub interned-fits : (nameLimit byteLimit : ℕ) → length names ≤ nameLimit → length (joined entry_bytes names) ≤ byteLimit
      → name_fits nameLimit byteLimit names n ≡ (leb (length (interned names n)) nameLimit && leb (length (joined entry_bytes (interned names n))) byteLimit)
  unfolding name_fits
  interned-fits nameLimit byteLimit h k = rw (interned-count, interned-bytes) (go (ltb (number_of names n) (length names)))
    where
      go : (t : Bool) → (t || (ltb (length names) nameLimit && leb (length (joined entry_bytes names) + length (name_bytes n)) byteLimit))
          ≡ (leb (cond t (length names) (length names + 1)) nameLimit
          && leb (cond t (length (joined entry_bytes names)) (length (joined entry_bytes names) + length (name_bytes n))) byteLimit)
      go true = rw (le-leb (length names) nameLimit h, le-leb (length (joined entry_bytes names)) byteLimit k)
      go false =
          ap (λ (b : Bool). b && leb (length (joined entry_bytes names) + length (name_bytes n)) byteLimit)
          (leb-same (suc (length names)) nameLimit (length names + 1) nameLimit (λ e. omega arith) (λ e. omega arith))

-- ---- equal pairs share one number

pub interned-distinct : (names : List (Option Name)) (n : Name) → Distinct names → Distinct (interned names n)
interned-distinct names n d =
    record { apart = λ m i j e f. go m i j e f (dec_lt i (length names)) (dec_lt j (length names)) }
  where
    made : (m : Name) (i : ℕ) → name_at (interned names n) i ≡ Some m → i < length (interned names n)
    made m i e = name_at-made (interned names n) i m e

    -- a new number shows the interned pair, which an old one can't have where a new one was made for it
    never : (m : Name) (i j : ℕ) → i < length names → length names ≤ j → name_at (interned names n) i ≡ Some m → name_at (interned names n) j ≡ Some m → ⊥
    never m i j h k e f =
        let q : j ≡ number_of names n = interned-only names n j k (made m j f) in
        let s : Some m ≡ Some n = sym f ∙ ap (name_at (interned names n)) q ∙ interned-back names n in
        omega (arith, number_of-found names n i (sym (interned-old names n i h) ∙ e ∙ s))

    go : (m : Name) (i j : ℕ) → name_at (interned names n) i ≡ Some m → name_at (interned names n) j ≡ Some m → Dec (i < length names) → Dec (j < length names) → i ≡ j
    go m i j e f (yes a) (yes b) = d.apart m i j (sym (interned-old names n i a) ∙ e) (sym (interned-old names n j b) ∙ f)
    go m i j e f (yes a) (no b) = absurd (never m i j a (omega arith) e f)
    go m i j e f (no a) (yes b) = absurd (never m j i b (omega arith) f e)
    go m i j e f (no a) (no b) = interned-only names n i (omega arith) (made m i e) ∙ sym (interned-only names n j (omega arith) (made m j f))

-- the number of a pair is the one at which it stands
pub distinct-number : (names : List (Option Name)) (n : Name) (i : ℕ) → Distinct names → name_at names i ≡ Some n → number_of names n ≡ i
distinct-number names n i d h =
    let f : number_of names n < length names = omega (arith, number_of-found names n i h, name_at-made names i n h) in
    d.apart n (number_of names n) i (number_of-back names n f) h
