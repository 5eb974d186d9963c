-- A name written behind the others is appended to the table, and the words hold the table again.
-- Assumes nothing.
use Rattle.std.specs.Prelude.{Some}
use mathlib.Core.Path.{◌≡◌, sym, ap, ◌∙◌}
use mathlib.Core.Bool.{Bool, true, false, ◌&&◌}
use mathlib.Core.List.{List, [], ◌∷◌, ◌++◌, append_assoc, map, map-append}
use Prim.Native.Nat.{ℕ, suc, ◌+◌, ◌-◌, ◌≤◌, ◌<◌}
use native.Mathlib.Omega.{arith}
use lib.ListN.{length, set, take, length-append, length-set}
use lib.Seq.{take-suc-set, drop-set-lt}
use lib.Dec.{ltb, leb}
use borrow.Author.Tests.{le-ltb, lt-ltb, ltb-true, leb-true}
use Rattle.words.specs.Parts.{part, put}
use Rattle.words.specs.Lists.{sum, joined}
use Rattle.words.specs.Pieces.{pieces}
use Rattle.words.specs.Ends.{lengths_of, ends_reach}
use Rattle.words.proofs.Tests.{and_left, and_right, leb-same}
use Rattle.words.proofs.Parts.{length-put, take-put-before, part-put-before, part-put-same}
use Rattle.words.proofs.Lengths.{pieces-same, pieces-append}
use Rattle.words.proofs.Reach.{lengths-add, count-taken, lengths-snoc, reach-snoc}
use Rattle.names.specs.Table.{Name, name, name_bytes, entry_bytes, number_of, name_fits}
use Rattle.names.specs.Words.{pairs, bytes_at, table_of, TableHeld, one_more, appended, InternedTo}
use Rattle.names.specs.declared.NameLimits.{NameLimits}
use Rattle.names.specs.declared.NameCounts.{NameCounts}
use Rattle.names.proofs.Table.{number_of-le, interned-found, interned-new}
use Rattle.names.proofs.Words.{pairs-append, table-names, table-bytes}

-- ---- the words: two ends from word k on, the parts behind the bytes used

module _ (l ns lo : List ℕ) (k base used : ℕ) (before : k + 2 ≤ base) (room : base + used + length ns + length lo ≤ length l) where
  abbrev ends_set : List ℕ
  ends_set = set (set l k (used + length ns)) (k + 1) (used + length ns + length lo)

  size-set : length ends_set ≡ length l
  size-set = length-set (set l k (used + length ns)) (k + 1) (used + length ns + length lo) ∙ length-set l k (used + length ns)

  abbrev written : List ℕ
  written = put (base + used + length ns) lo (put (base + used) ns ends_set)

  size-put : length (put (base + used) ns ends_set) ≡ length l
  size-put = length-put ends_set (base + used) ns (omega (arith, size-set)) ∙ size-set

  size-written : length written ≡ length l
  size-written = length-put (put (base + used) ns ends_set) (base + used + length ns) lo (omega (arith, size-put)) ∙ size-put

  taken : take (k + 2) written ≡ (take k l ++ ((used + length ns) ∷ [])) ++ ((used + length ns + length lo) ∷ [])
  taken =
      let e : k + 2 ≡ suc (k + 1) = omega arith in
      let f : k + 1 ≡ suc k = omega arith in
      take-put-before (put (base + used) ns ends_set) (base + used + length ns) lo (k + 2) (omega arith) (omega (arith, size-put))
      ∙ take-put-before ends_set (base + used) ns (k + 2) (omega arith) (omega (arith, size-set))
      ∙ ap (λ (i : ℕ). take i ends_set) e
      ∙ take-suc-set (set l k (used + length ns)) (k + 1) (used + length ns + length lo) (simp length-set (omega arith))
      ∙ ap (λ (i : ℕ). take i (set l k (used + length ns)) ++ ((used + length ns + length lo) ∷ [])) f
      ∙ ap (λ (r : List ℕ). r ++ ((used + length ns + length lo) ∷ [])) (take-suc-set l k (used + length ns) (omega arith))

  old-bytes : part base used written ≡ part base used l
  unfolding part
  old-bytes =
      part-put-before (put (base + used) ns ends_set) (base + used + length ns) lo base used (omega arith) (omega (arith, size-put))
      ∙ part-put-before ends_set (base + used) ns base used (omega arith) (omega (arith, size-set))
      ∙ ap (take used) (drop-set-lt base (set l k (used + length ns)) (k + 1) (used + length ns + length lo) (omega arith) ∙ drop-set-lt base l k (used + length ns) (omega arith))

  new-namespace : part (base + used) (length ns) written ≡ ns
  new-namespace =
      part-put-before (put (base + used) ns ends_set) (base + used + length ns) lo (base + used) (length ns) (omega arith) (omega (arith, size-put))
      ∙ part-put-same ends_set (base + used) ns (omega (arith, size-set))

  new-local : part (base + used + length ns) (length lo) written ≡ lo
  new-local = part-put-same (put (base + used) ns ends_set) (base + used + length ns) lo (omega (arith, size-put))

-- two ends more say two lengths more, and reach as far
module _ (used n m : ℕ) (ends : List ℕ) (h : ends_reach 0 ends used ≡ true) where
  first_reach : ends_reach 0 (ends ++ ((used + n) ∷ [])) (used + n) ≡ true
  first_reach = reach-snoc 0 used ends h (used + n) (omega arith)

  both-reach : ends_reach 0 ((ends ++ ((used + n) ∷ [])) ++ ((used + n + m) ∷ [])) (used + n + m) ≡ true
  both-reach = reach-snoc 0 (used + n) (ends ++ ((used + n) ∷ [])) first_reach (used + n + m) (omega arith)

  both-lengths : lengths_of ((ends ++ ((used + n) ∷ [])) ++ ((used + n + m) ∷ [])) ≡ lengths_of ends ++ (n ∷ m ∷ [])
  both-lengths =
      let a : used + n - used ≡ n = omega arith in
      let b : used + n + m - (used + n) ≡ m = omega arith in
      lengths-snoc 0 (used + n) (ends ++ ((used + n) ∷ [])) first_reach (used + n + m)
      ∙ rw (lengths-snoc 0 used ends h (used + n), a, b) (append_assoc (lengths_of ends) (n ∷ []) (m ∷ []))

-- ---- the table

module _ (limits : NameLimits) (counts : NameCounts) (words : List ℕ) (n : Name) (h : TableHeld limits counts words)
    (f : counts.names < limits.names) (g : counts.bytes + (length n.namespace + length n.local) ≤ limits.bytes) where
  abbrev lengths : List ℕ
  lengths = lengths_of (take (counts.names + counts.names) words)

  more : counts.names + 1 + (counts.names + 1) ≡ counts.names + counts.names + 2
  more = omega arith

  bytes-more : counts.bytes + length n.namespace + length n.local ≡ counts.bytes + length (name_bytes n)
  bytes-more = omega (arith, length-append n.namespace n.local)

  fits : bytes_at limits + counts.bytes + length n.namespace + length n.local ≤ length words
  fits = omega (arith, h.size)

  ends-after : take (counts.names + 1 + (counts.names + 1)) (appended limits counts words n)
      ≡ (take (counts.names + counts.names) words ++ ((counts.bytes + length n.namespace) ∷ [])) ++ ((counts.bytes + length n.namespace + length n.local) ∷ [])
  unfolding appended
  ends-after = rw more (taken words n.namespace n.local (counts.names + counts.names) (bytes_at limits) counts.bytes (omega arith) fits)

  lengths-after : lengths_of (take (counts.names + 1 + (counts.names + 1)) (appended limits counts words n)) ≡ lengths ++ (length n.namespace ∷ length n.local ∷ [])
  lengths-after =
      ap lengths_of ends-after
      ∙ both-lengths counts.bytes (length n.namespace) (length n.local) (take (counts.names + counts.names) words) h.ends

  lengths-used : sum lengths ≡ counts.bytes
  lengths-used = lengths-add (counts.names + counts.names) counts.bytes words (omega (arith, h.size)) h.ends

  old : pieces (bytes_at limits) lengths (appended limits counts words n) ≡ pieces (bytes_at limits) lengths words
  unfolding appended
  old =
      pieces-same (bytes_at limits) (bytes_at limits) lengths
      (written words n.namespace n.local (counts.names + counts.names) (bytes_at limits) counts.bytes (omega arith) fits)
      words
      (rw lengths-used (old-bytes words n.namespace n.local (counts.names + counts.names) (bytes_at limits) counts.bytes (omega arith) fits))

  new : pieces (bytes_at limits + sum lengths) (length n.namespace ∷ length n.local ∷ []) (appended limits counts words n) ≡ n.namespace ∷ n.local ∷ []
  unfolding appended
  new =
      rw (
        lengths-used,
        new-namespace words n.namespace n.local (counts.names + counts.names) (bytes_at limits) counts.bytes (omega arith) fits,
        new-local words n.namespace n.local (counts.names + counts.names) (bytes_at limits) counts.bytes (omega arith) fits,
      )

  pairs-after : pairs (pieces (bytes_at limits) (lengths_of (take (counts.names + 1 + (counts.names + 1)) (appended limits counts words n))) (appended limits counts words n))
      ≡ pairs (pieces (bytes_at limits) lengths words) ++ (n ∷ [])
  pairs-after =
      let w : List ℕ = appended limits counts words n in
      let e : length (pieces (bytes_at limits) lengths words) ≡ counts.names + counts.names = count-taken (counts.names + counts.names) counts.bytes words (omega (arith, h.size)) h.ends (bytes_at limits) in
      ap (λ (l : List ℕ). pairs (pieces (bytes_at limits) l w)) lengths-after
      ∙ ap pairs
      (pieces-append (bytes_at limits) lengths (length n.namespace ∷ length n.local ∷ []) w
      ∙ ap (λ (r : List (List ℕ)). pieces (bytes_at limits) lengths w ++ r) new
      ∙ ap (λ (r : List (List ℕ)). r ++ (n.namespace ∷ n.local ∷ [])) old)
      ∙ pairs-append counts.names (pieces (bytes_at limits) lengths words) (n.namespace ∷ n.local ∷ []) e

  pub appended-table : table_of limits (one_more counts n) (appended limits counts words n) ≡ table_of limits counts words ++ (Some n ∷ [])
  unfolding table_of
  appended-table = ap (map Some) pairs-after ∙ map-append Some (pairs (pieces (bytes_at limits) lengths words)) (n ∷ [])

  reach-after : ends_reach 0 (take (counts.names + 1 + (counts.names + 1)) (appended limits counts words n)) (counts.bytes + length (name_bytes n)) ≡ true
  reach-after =
      rw (ends-after, ← bytes-more)
      (both-reach counts.bytes (length n.namespace) (length n.local) (take (counts.names + counts.names) words) h.ends)

  size-after : length (appended limits counts words n) ≡ length words
  unfolding appended
  size-after = size-written words n.namespace n.local (counts.names + counts.names) (bytes_at limits) counts.bytes (omega arith) fits

  pub appended-held : TableHeld limits (one_more counts n) (appended limits counts words n)
  appended-held = record { size = size-after ∙ h.size; names = omega arith; bytes = omega (arith, bytes-more); ends = reach-after }

-- ---- interning

-- the code's writes, one after the other
pub written-name : (limits : NameLimits) (counts : NameCounts) (words first second ns lo : List ℕ)
    → first ≡ put (bytes_at limits + counts.bytes) ns (set (set words (counts.names + counts.names) (counts.bytes + length ns)) (counts.names + counts.names + 1) (counts.bytes + length ns + length lo))
    → second ≡ put (bytes_at limits + counts.bytes + length ns) lo first → second ≡ appended limits counts words (name ns lo)
unfolding appended
written-name limits counts words first second ns lo e f = rw e at f

pub counted-name : (counts : NameCounts) (ns lo : List ℕ) → record { names = counts.names + 1; bytes = counts.bytes + length ns + length lo } ≡ one_more counts (name ns lo)
counted-name counts ns lo =
    let e : counts.bytes + length ns + length lo ≡ counts.bytes + length (ns ++ lo) = omega (arith, length-append ns lo) in
    rw e

-- a pair that the table lacks has the count of names as its number
pub number-lacked : (limits : NameLimits) (counts : NameCounts) (words : List ℕ) (n : Name) → TableHeld limits counts words
    → (number_of (table_of limits counts words) n < counts.names → ⊥) → counts.names ≡ number_of (table_of limits counts words) n
number-lacked limits counts words n h f =
    omega (arith, number_of-le (table_of limits counts words) n, table-names limits counts words h)

module _ (limits : NameLimits) (counts : NameCounts) (words : List ℕ) (n : Name) (h : TableHeld limits counts words) (k : ℕ) (e : k ≡ number_of (table_of limits counts words) n) where
  -- the pair is there: nothing is written
  pub intern-found : k < counts.names → InternedTo limits counts words words n (record { number = record { 0 = k }; counts = counts })
  intern-found g =
      record { number = e; table = sym (interned-found (table_of limits counts words) n (omega (arith, table-names limits counts words h))); held = h }

  pub fits-found : k < counts.names → true ≡ name_fits limits.names limits.bytes (table_of limits counts words) n
  unfolding name_fits
  fits-found g = rw (lt-ltb (number_of (table_of limits counts words) n) (length (table_of limits counts words)) (omega (arith, table-names limits counts words h)))

  module _ (g : counts.names ≤ k) where
    pub fits-full : limits.names ≤ counts.names → false ≡ name_fits limits.names limits.bytes (table_of limits counts words) n
    unfolding name_fits
    fits-full f =
        rw (
          le-ltb (number_of (table_of limits counts words) n) (length (table_of limits counts words)) (omega (arith, table-names limits counts words h)),
          le-ltb (length (table_of limits counts words)) limits.names (omega (arith, table-names limits counts words h)),
        )

    pub fits-room : counts.names < limits.names
        → leb (length n.namespace + length n.local) (limits.bytes - counts.bytes) ≡ name_fits limits.names limits.bytes (table_of limits counts words) n
    unfolding name_fits
    fits-room f =
        rw (
          le-ltb (number_of (table_of limits counts words) n) (length (table_of limits counts words)) (omega (arith, table-names limits counts words h)),
          lt-ltb (length (table_of limits counts words)) limits.names (omega (arith, table-names limits counts words h)),
          table-bytes limits counts words h,
          length-append n.namespace n.local,
        )
        (leb-same (length n.namespace + length n.local) (limits.bytes - counts.bytes) (counts.bytes + (length n.namespace + length n.local)) limits.bytes
        (λ q. omega (arith, h.bytes)) (λ q. omega (arith, h.bytes)))

    -- the table has room
    pub room : name_fits limits.names limits.bytes (table_of limits counts words) n ≡ true
        → (counts.names < limits.names) × (counts.bytes + (length n.namespace + length n.local) ≤ limits.bytes)
    unfolding name_fits
    room t =
        let t' : (ltb (length (table_of limits counts words)) limits.names && leb (length (joined entry_bytes (table_of limits counts words)) + length (name_bytes n)) limits.bytes) ≡ true =
        rw (le-ltb (number_of (table_of limits counts words) n) (length (table_of limits counts words)) (omega (arith, table-names limits counts words h))) at t in
        let a : Bool = ltb (length (table_of limits counts words)) limits.names in
        let b : Bool = leb (length (joined entry_bytes (table_of limits counts words)) + length (name_bytes n)) limits.bytes in
        let p : length (table_of limits counts words) < limits.names = ltb-true (length (table_of limits counts words)) limits.names (and_left a b t') in
        let q : length (joined entry_bytes (table_of limits counts words)) + length (name_bytes n) ≤ limits.bytes = leb-true (length (joined entry_bytes (table_of limits counts words)) + length (name_bytes n)) limits.bytes (and_right a b t') in (
          omega (arith, table-names limits counts words h),
          omega (arith, table-bytes limits counts words h, length-append n.namespace n.local),
        )

    pub intern-new : (after : List ℕ) (more : NameCounts) → (counts.names < limits.names) × (counts.bytes + (length n.namespace + length n.local) ≤ limits.bytes)
        → more ≡ one_more counts n → after ≡ appended limits counts words n → InternedTo limits counts words after n (record { number = record { 0 = k }; counts = more })
    intern-new after more f p q =
        rw (p, q)
        (record {
          number = e;
          table = appended-table limits counts words n h f.0 f.1 ∙ sym (interned-new (table_of limits counts words) n (omega (arith, table-names limits counts words h)));
          held = appended-held limits counts words n h f.0 f.1;
        })
