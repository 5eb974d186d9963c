-- A search through the words of a name table, name by name: what is left of the table after k names.
-- Assumes nothing.
use Rattle.std.specs.Prelude.{Option, None}
use mathlib.Core.Path.{◌≡◌, sym, ap, ◌∙◌}
use mathlib.Core.Bool.{Bool, true, false, ◌&&◌, cond}
use mathlib.Core.List.{List, []}
use Prim.Native.Nat.{ℕ, suc, ◌+◌, ◌-◌, ◌≤◌, ◌<◌}
use native.Mathlib.Numerals.{add-one}
use native.Mathlib.Omega.{arith}
use lib.ListN.{length, get_or, take, drop}
use lib.Seq.{drop-cons, drop-length}
use Rattle.words.specs.Parts.{part}
use Rattle.words.specs.Pieces.{same_bytes}
use Rattle.words.specs.Ends.{start_of, length_of, ends_reach}
use Rattle.words.proofs.Reach.{piece-rises, piece-within}
use Rattle.names.specs.Table.{Name, name, shows, number_of, name_at}
use Rattle.names.proofs.Words.{names_by, by_names, by-ends}

-- k names have been passed, and the next one's bytes begin at index at; base is where the first begin
pub record Reached (base n : ℕ) (words : List ℕ) (k at : ℕ) : Type 0 where
  pub within : k ≤ n
  pub begins : at ≡ base + start_of words (k + k)

-- the number is k more than the number in what is left
pub record Left (base n : ℕ) (words namespace local : List ℕ) (k : ℕ) : Type 0 where
  pub number : number_of (names_by base n words) (name namespace local) ≡ k + number_of (drop k (names_by base n words)) (name namespace local)

pub reached-start : (base n : ℕ) (words : List ℕ) → Reached base n words 0 base
unfolding start_of
reached-start base n words = record { within = omega arith; begins = omega arith }

pub left-start : (base n : ℕ) (words namespace local : List ℕ) → Left base n words namespace local 0
left-start base n words namespace local = record { number = omega arith }

module _ (base n used : ℕ) (words : List ℕ) (fits : n + n ≤ length words) (h : ends_reach 0 (take (n + n) words) used ≡ true) where
  pub left_end : (namespace local : List ℕ) (k : ℕ) → n ≤ k → k ≤ n → Left base n words namespace local k → n ≡ number_of (names_by base n words) (name namespace local)
  left_end namespace local k f g e =
      let q : k ≡ length (names_by base n words) = omega (arith, by_names base n used words fits h) in
      let z : drop k (names_by base n words) ≡ [] = ap (λ (i : ℕ). drop i (names_by base n words)) q ∙ drop-length (names_by base n words) in
      let r : number_of (drop k (names_by base n words)) (name namespace local) ≡ 0 = ap (λ (t : List (Option Name)). number_of t (name namespace local)) z in
      omega (arith, e.number)

  -- one name more: its namespace ends at word k + k, its local part at the next
  module _ (k at : ℕ) (g : k < n) (r : Reached base n words k at) where
    next_start : start_of words (k + k + 1) ≡ get_or words (k + k) 0
    unfolding start_of
    next_start =
        let e : k + k + 1 ≡ suc (k + k) = omega arith in
        rw e

    pub reached-fits : (at ≤ base + get_or words (k + k) 0) × (get_or words (k + k) 0 ≤ get_or words (k + k + 1) 0) × (get_or words (k + k + 1) 0 ≤ used)
    reached-fits = (
      omega (arith, r.begins, piece-rises (n + n) used words fits h (k + k) (omega arith)),
      omega (arith, next_start, piece-rises (n + n) used words fits h (k + k + 1) (omega arith)),
      piece-within (n + n) used words fits h (k + k + 1) (omega arith),
    )

    pub reached-next : Reached base n words (k + 1) (base + get_or words (k + k + 1) 0)
    unfolding start_of
    reached-next =
        let e : k + 1 + (k + 1) ≡ suc (k + k + 1) = omega arith in
        record { within = omega arith; begins = rw e }

    module _ (namespace local : List ℕ) (e : Left base n words namespace local k) (t : Bool)
        (et : t ≡ (same_bytes namespace (part at (base + get_or words (k + k) 0 - at) words)
        && same_bytes local (part (base + get_or words (k + k) 0) (base + get_or words (k + k + 1) 0 - (base + get_or words (k + k) 0)) words))) where
      -- the test is that of the next entry
      tested : shows (name namespace local) (name_at (names_by base n words) k) ≡ t
      unfolding length_of
      tested =
          let p : base + get_or words (k + k) 0 - at ≡ get_or words (k + k) 0 - start_of words (k + k) = omega (arith, r.begins) in
          let q : base + get_or words (k + k + 1) 0 - (base + get_or words (k + k) 0) ≡ get_or words (k + k + 1) 0 - get_or words (k + k) 0 = omega arith in
          ap (shows (name namespace local)) (by-ends base n used words fits h k g) ∙ sym (et ∙ rw (p, q, r.begins, next_start))

      opened : number_of (drop k (names_by base n words)) (name namespace local) ≡ cond t 0 (suc (number_of (drop (k + 1) (names_by base n words)) (name namespace local)))
      opened =
          ap (λ (x : List (Option Name)). number_of x (name namespace local)) (drop-cons (names_by base n words) k None (omega (arith, by_names base n used words fits h)))
          ∙ rw (tested, add-one k)

      pub found : t ≡ true → k ≡ number_of (names_by base n words) (name namespace local)
      found q =
          let z : number_of (drop k (names_by base n words)) (name namespace local) ≡ 0 = opened ∙ rw q in
          omega (arith, e.number)

      pub passed : t ≡ false → Left base n words namespace local (k + 1)
      passed q =
          let z : number_of (drop k (names_by base n words)) (name namespace local) ≡ suc (number_of (drop (k + 1) (names_by base n words)) (name namespace local)) = opened ∙ rw q in
          record { number = omega (arith, e.number) }
