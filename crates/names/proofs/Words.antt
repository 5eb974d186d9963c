-- Between the words of a name table and the table: what the counts say, what is read, and the test of rules 1 and 8.
-- Assumes nothing.
use Rattle.std.specs.Prelude.{Option, None, Some}
use mathlib.Core.Path.{◌≡◌, refl, sym, ap, ◌∙◌}
use mathlib.Core.Bool.{Bool, true, false, ◌&&◌}
use mathlib.Core.List.{List, [], ◌∷◌, ◌++◌, append_assoc, map}
use Prim.Native.Nat.{ℕ, zero, suc, ◌+◌, ◌≤◌, ◌<◌, min}
use native.Mathlib.Decide.{dec_lt}
use native.Mathlib.Omega.{arith}
use lib.ListN.{length, get_or, take, length-map, get_or-eq_default}
use lib.Dec.{leb}
use borrow.Author.Tests.{le-leb, leb-true}
use Rattle.words.specs.Parts.{part}
use Rattle.words.specs.Lists.{joined}
use Rattle.words.specs.Pieces.{pieces}
use Rattle.words.specs.Ends.{start_of, length_of, lengths_of, ends_reach, piece_there}
use Rattle.words.proofs.Tests.{and_left, and_right, and_both}
use Rattle.words.proofs.Reach.{count-taken, bytes-taken, piece-taken}
use Rattle.words.proofs.Places as place
use Rattle.names.specs.Table.{Name, name, entry_bytes, name_at}
use Rattle.names.specs.Words.{pairs, bytes_at, table_of, TableHeld, table_ok, name_there, part_shown, name_shown}
use Rattle.names.specs.declared.NameLimits.{NameLimits}
use Rattle.names.specs.declared.NameCounts.{NameCounts}

-- ---- the test is the rule

module _ (limits : NameLimits) (counts : NameCounts) (words : List ℕ) where
  pub within-ends : counts.names ≤ limits.names → counts.bytes ≤ limits.bytes → table_ok limits counts words ≡ ends_reach 0 (take (counts.names + counts.names) words) counts.bytes
  unfolding table_ok
  within-ends h k = rw (le-leb counts.names limits.names h, le-leb counts.bytes limits.bytes k)

  pub ok-held : length words ≡ bytes_at limits + limits.bytes → table_ok limits counts words ≡ true → TableHeld limits counts words
  unfolding table_ok
  ok-held s h =
      let a : Bool = leb counts.names limits.names in
      let b : Bool = leb counts.bytes limits.bytes in
      let e : Bool = ends_reach 0 (take (counts.names + counts.names) words) counts.bytes in
      let r : (b && e) ≡ true = and_right a (b && e) h in
      record {
        size = s;
        names = leb-true counts.names limits.names (and_left a (b && e) h);
        bytes = leb-true counts.bytes limits.bytes (and_left b e r);
        ends = and_right b e r;
      }

  pub held-ok : TableHeld limits counts words → table_ok limits counts words ≡ true
  held-ok h = within-ends h.names h.bytes ∙ h.ends

-- ---- what is shown

module _ (limits : NameLimits) (counts : NameCounts) (words : List ℕ) (i : ℕ) where
  abbrev count : ℕ
  count = min counts.names limits.names + min counts.names limits.names

  abbrev used : ℕ
  used = min counts.bytes limits.bytes

  pub there-number : min counts.names limits.names ≤ i → name_there limits counts i words ≡ false
  unfolding name_there
  there-number h = rw (place.there-number count used (i + i) words (omega arith))

  pub shown-there : name_there limits counts i words ≡ true → name_shown limits counts i words ≡ Some (name (part_shown limits counts i 0 words) (part_shown limits counts i 1 words))
  unfolding name_shown
  shown-there t = rw t

  pub shown-none : name_there limits counts i words ≡ false → name_shown limits counts i words ≡ None
  unfolding name_shown
  shown-none t = rw t

  pub part-number : (k : ℕ) → min counts.names limits.names ≤ i → part_shown limits counts i k words ≡ []
  unfolding part_shown
  part-number k h = place.shown-nothing count used (i + i + k) words (bytes_at limits) (place.there-number count used (i + i + k) words (omega arith))

-- ---- two pieces after one another are a name

pub length_pairs : (n : ℕ) (l : List (List ℕ)) → length l ≡ n + n → length (pairs l) ≡ n
length_pairs zero [] h = refl
length_pairs zero (x ∷ l) h = absurd (omega arith)
length_pairs (suc n) [] h = absurd (omega arith)
length_pairs (suc n) (x ∷ []) h = absurd (omega arith)
length_pairs (suc n) (x ∷ y ∷ l) h = ap suc (length_pairs n l (omega arith))

pub joined-pairs : (n : ℕ) (l : List (List ℕ)) → length l ≡ n + n → joined entry_bytes (map Some (pairs l)) ≡ joined (λ t. t) l
joined-pairs zero [] h = refl
joined-pairs zero (x ∷ l) h = absurd (omega arith)
joined-pairs (suc n) [] h = absurd (omega arith)
joined-pairs (suc n) (x ∷ []) h = absurd (omega arith)
joined-pairs (suc n) (x ∷ y ∷ l) h = ap (λ (r : List ℕ). (x ++ y) ++ r) (joined-pairs n l (omega arith)) ∙ append_assoc x y (joined (λ t. t) l)

pub pairs-append : (n : ℕ) (l m : List (List ℕ)) → length l ≡ n + n → pairs (l ++ m) ≡ pairs l ++ pairs m
pairs-append zero [] m h = refl
pairs-append zero (x ∷ l) m h = absurd (omega arith)
pairs-append (suc n) [] m h = absurd (omega arith)
pairs-append (suc n) (x ∷ []) m h = absurd (omega arith)
pairs-append (suc n) (x ∷ y ∷ l) m h = ap (λ (r : List Name). name x y ∷ r) (pairs-append n l m (omega arith))

pub name_at-pairs : (i : ℕ) (l : List (List ℕ)) → i + i + 1 < length l → name_at (map Some (pairs l)) i ≡ Some (name (get_or l (i + i) []) (get_or l (i + i + 1) []))
name_at-pairs i [] h = absurd (omega arith)
name_at-pairs i (x ∷ []) h = absurd (omega arith)
name_at-pairs zero (x ∷ y ∷ l) h = refl
name_at-pairs (suc i) (x ∷ y ∷ l) h =
    let e : suc i + suc i ≡ suc (suc (i + i)) = omega arith in
    let f : suc (suc (i + i)) + 1 ≡ suc (suc (i + i + 1)) = omega arith in
    rw (e, f) (name_at-pairs i l (omega arith))

-- ---- n names by ends that reach the bytes used, the first byte at index base

abbrev pub names_by : ℕ → ℕ → List ℕ → List (Option Name)
names_by base n words = map Some (pairs (pieces base (lengths_of (take (n + n) words)) words))

module _ (base n used : ℕ) (words : List ℕ) (fits : n + n ≤ length words) (h : ends_reach 0 (take (n + n) words) used ≡ true) where
  pub by_names : length (names_by base n words) ≡ n
  by_names =
      length-map (pairs (pieces base (lengths_of (take (n + n) words)) words)) Some
      ∙ length_pairs n (pieces base (lengths_of (take (n + n) words)) words) (count-taken (n + n) used words fits h base)

  pub by_bytes : base + used ≤ length words → length (joined entry_bytes (names_by base n words)) ≡ used
  by_bytes g =
      ap length (joined-pairs n (pieces base (lengths_of (take (n + n) words)) words) (count-taken (n + n) used words fits h base))
      ∙ bytes-taken (n + n) used words fits h base g

  module _ (i : ℕ) (m : i < n) where
    pub by-pieces : name_at (names_by base n words) i
        ≡ Some (name (get_or (pieces base (lengths_of (take (n + n) words)) words) (i + i) []) (get_or (pieces base (lengths_of (take (n + n) words)) words) (i + i + 1) []))
    by-pieces = name_at-pairs i (pieces base (lengths_of (take (n + n) words)) words) (omega (arith, count-taken (n + n) used words fits h base))

    -- the name of a number is where the ends say
    pub by-ends : name_at (names_by base n words) i
        ≡ Some (name (part (base + start_of words (i + i)) (length_of words (i + i)) words) (part (base + start_of words (i + i + 1)) (length_of words (i + i + 1)) words))
    by-ends =
        by-pieces
        ∙ rw (piece-taken (n + n) used words fits h (i + i) (omega arith) base, piece-taken (n + n) used words fits h (i + i + 1) (omega arith) base)

-- ---- the counts are those of the table

module _ (limits : NameLimits) (counts : NameCounts) (words : List ℕ) (h : TableHeld limits counts words) where
  fits : counts.names + counts.names ≤ length words
  fits = omega (arith, h.size)

  pub table-names : length (table_of limits counts words) ≡ counts.names
  unfolding table_of
  table-names = by_names (bytes_at limits) counts.names counts.bytes words fits h.ends

  pub table-bytes : length (joined entry_bytes (table_of limits counts words)) ≡ counts.bytes
  unfolding table_of
  table-bytes = by_bytes (bytes_at limits) counts.names counts.bytes words fits h.ends (omega (arith, h.size))

  -- ---- what is read is the name

  module _ (i : ℕ) where
    module _ (g : i < counts.names) where
      names-all : min counts.names limits.names ≡ counts.names
      names-all = omega (arith, h.names)

      bytes-all : min counts.bytes limits.bytes ≡ counts.bytes
      bytes-all = omega (arith, h.bytes)

      pub held-there : name_there limits counts i words ≡ true
      unfolding name_there
      held-there =
          let n : ℕ = counts.names + counts.names in
          rw (names-all, bytes-all)
          (and_both (piece_there n counts.bytes (i + i) words) (piece_there n counts.bytes (i + i + 1) words)
          (place.reach-there n counts.bytes words fits h.ends (i + i) (omega arith))
          (place.reach-there n counts.bytes words fits h.ends (i + i + 1) (omega arith)))

      shown : (k : ℕ) → k ≤ 1 → part_shown limits counts i k words ≡ get_or (pieces (bytes_at limits) (lengths_of (take (counts.names + counts.names) words)) words) (i + i + k) []
      unfolding part_shown
      shown k f =
          rw (names-all, bytes-all)
          (place.reach-shown (counts.names + counts.names) counts.bytes words fits h.ends (i + i + k) (omega arith) (bytes_at limits))

      there-name : name_shown limits counts i words ≡ name_at (names_by (bytes_at limits) counts.names words) i
      there-name =
          let z : i + i + 0 ≡ i + i = omega arith in
          shown-there limits counts words i held-there
          ∙ rw (shown 0 (omega arith), shown 1 (omega arith), z)
          (sym (by-pieces (bytes_at limits) counts.names counts.bytes words fits h.ends i g))

    pub shown-name : name_shown limits counts i words ≡ name_at (table_of limits counts words) i
    unfolding table_of
    shown-name = go (dec_lt i counts.names)
      where
        go : Dec (i < counts.names) → name_shown limits counts i words ≡ name_at (names_by (bytes_at limits) counts.names words) i
        go (yes g) = there-name g
        go (no g) =
            shown-none limits counts words i (there-number limits counts words i (omega arith))
            ∙ sym (get_or-eq_default (names_by (bytes_at limits) counts.names words) None {n = i}
            (omega (arith, by_names (bytes_at limits) counts.names counts.bytes words fits h.ends)))
