-- The texts and the names that are shown are never more than the limits say where their lengths add up, so rule 1 is decided without them.
-- Assumes nothing.
use Rattle.std.specs.Prelude.{Option, Some}
use mathlib.Core.Path.{◌≡◌, refl, ap, ◌∙◌}
use mathlib.Core.Logic.{◌⊎◌, inl, inr}
use mathlib.Core.Bool.{Bool, true, false, ◌&&◌}
use mathlib.Core.List.{List}
use Prim.Native.Nat.{ℕ, zero, suc, ◌+◌, ◌≤◌, ◌<◌, min}
use native.Mathlib.Omega.{arith}
use lib.ListN.{length, get_or, take, drop, length-take, length-append}
use lib.Seq.{get_or-take}
use borrow.Author.Tests.{le-leb}
use Rattle.words.specs.Parts.{part}
use Rattle.words.specs.Lists.{joined, tabulate}
use Rattle.words.specs.Ends.{start_of, length_of, ends_reach, piece_place, piece_shown}
use Rattle.words.specs.declared.ends.Place.{Place}
use Rattle.words.proofs.Parts.{length_part}
use Rattle.words.proofs.Lists.{length-tabulate}
use Rattle.words.proofs.Joined.{length-joined-snoc}
use Rattle.words.proofs.Reach.{ends-rise, start-taken}
use Rattle.words.proofs.Places.{place-either, place-fits}
use Rattle.words.proofs.Tests.{and_left, and_right}
use Rattle.texts.specs.Pool.{bytes_of}
use Rattle.texts.specs.Words as texts
use Rattle.texts.specs.Words.{text_shown}
use Rattle.texts.specs.declared.TextLimits.{TextLimits}
use Rattle.texts.specs.declared.TextCounts.{TextCounts}
use Rattle.names.specs.Table.{Name, name, entry_bytes}
use Rattle.names.specs.Words.{bytes_at, shown_names, shown_bytes, part_shown, name_there, name_shown}
use Rattle.names.specs.declared.NameLimits.{NameLimits}
use Rattle.names.specs.declared.NameCounts.{NameCounts}
use Rattle.names.proofs.Words.{shown-there, shown-none}
use Rattle.model.specs.RulesTest.{all_slots, all_live, counts_within, words_within, one_root, counts_and_fields_hold}
use Rattle.layout.specs.declared.Document.{Document}
use Rattle.layout.specs.Layout.{limits_of, texts_at, texts_words, names_at, names_words, memory_ok}
use Rattle.memory.specs.Decode.{text_limits, text_counts, name_limits, name_counts, texts_part, names_part, pool_in, names_in, texts_add, names_add, lengths_add, decode}
use Rattle.layout.proofs.Sizes.{memory-long, names-next, words-next}
use Rattle.memory.proofs.Shown.{names-shown}
use Rattle.entries.specs.Nodes.{decode_nodes}

-- ---- pieces by their ends: where no end falls, those that are shown lie one behind the other

part-short : (w : List ℕ) (s n : ℕ) → length (part s n w) ≤ n
unfolding part
part-short w s n = omega (arith, length-take n (drop s w))

module _ (at count used : ℕ) (w : List ℕ) where
  abbrev shown : ℕ → List (List ℕ)
  shown k = tabulate (λ i. piece_shown at count used i w) k

  abbrev total : ℕ → ℕ
  total k = length (joined (λ t. t) (shown k))

  piece-short : (i : ℕ) → length (piece_shown at count used i w) ≤ (piece_place count used i w).len
  unfolding piece_shown
  piece-short i = part-short w (at + (piece_place count used i w).start) (piece_place count used i w).len

  module _ (n reached : ℕ) (reach : ends_reach 0 (take n w) reached ≡ true) where
    rises : (i : ℕ) → i < n → i < length w → start_of w i ≤ get_or w i 0
    rises i b f =
        omega (
          arith,
          ends-rise 0 reached (take n w) reach i (omega (arith, length-take n w)),
          start-taken n w i (omega arith),
          get_or-take n w i 0 b,
        )

    pieces-short : (k : ℕ) → k ≤ n → k ≤ length w → (total k ≤ start_of w k) × (total k ≤ used)
    unfolding start_of length_of
    pieces-short zero h f = (omega arith, omega arith)
    pieces-short (suc k) h f = go (place-either count used k w) (pieces-short k (omega arith) (omega arith))
      where
        go : (piece_place count used k w ≡ record { start = start_of w k; len = length_of w k }) ⊎ (piece_place count used k w ≡ record { start = 0; len = 0 })
            → (total k ≤ start_of w k) × (total k ≤ used) → (total (suc k) ≤ start_of w (suc k)) × (total (suc k) ≤ used)
        go (inl e) ih =
            let a = length-joined-snoc (λ (t : List ℕ). t) (shown k) (piece_shown at count used k w) in
            let b = rises k (omega arith) (omega arith) in
            let c = piece-short k in
            let g = place-fits count used k w in
            let p = ap (λ (q : Place). q.start) e in
            let q = ap (λ (q : Place). q.len) e in
            (omega (arith, ih.0), omega (arith, ih.0))
        go (inr e) ih =
            let a = length-joined-snoc (λ (t : List ℕ). t) (shown k) (piece_shown at count used k w) in
            let b = rises k (omega arith) (omega arith) in
            let c = piece-short k in
            let q = ap (λ (q : Place). q.len) e in
            (omega (arith, ih.0), omega (arith, ih.1))

-- ---- texts and names have no more bytes than their pieces

module _ (limits : TextLimits) (counts : TextCounts) (w : List ℕ) (n reached : ℕ) (reach : ends_reach 0 (take n w) reached ≡ true) where
  texts-short : (k : ℕ) → k ≤ n → k ≤ length w → length (bytes_of (tabulate (λ s. text_shown limits counts s w) k)) ≤ min counts.bytes limits.bytes
  unfolding text_shown
  texts-short k h f = (pieces-short (texts.bytes_at limits) (min counts.slots limits.slots) (min counts.bytes limits.bytes) w n reached reach k h f).1

module _ (limits : NameLimits) (counts : NameCounts) (w : List ℕ) where
  abbrev count : ℕ
  count = shown_names limits counts + shown_names limits counts

  abbrev names : ℕ → List (Option Name)
  names k = tabulate (λ i. name_shown limits counts i w) k

  abbrev parts : ℕ → ℕ
  parts k = length (joined (λ t. t) (tabulate (λ i. piece_shown (bytes_at limits) count (shown_bytes limits counts) i w) k))

  name-short : (k : ℕ) → length (entry_bytes (name_shown limits counts k w))
      ≤ length (piece_shown (bytes_at limits) count (shown_bytes limits counts) (k + k) w) + length (piece_shown (bytes_at limits) count (shown_bytes limits counts) (suc (k + k)) w)
  unfolding part_shown
  name-short k = go (name_there limits counts k w) refl
    where
      first : k + k + 0 ≡ k + k
      first = omega arith

      second : k + k + 1 ≡ suc (k + k)
      second = omega arith

      both : length (entry_bytes (Some (name (part_shown limits counts k 0 w) (part_shown limits counts k 1 w))))
          ≡ length (piece_shown (bytes_at limits) count (shown_bytes limits counts) (k + k) w) + length (piece_shown (bytes_at limits) count (shown_bytes limits counts) (suc (k + k)) w)
      both = length-append (part_shown limits counts k 0 w) (part_shown limits counts k 1 w) ∙ rw (first, second)

      go : (t : Bool) → name_there limits counts k w ≡ t → length (entry_bytes (name_shown limits counts k w))
          ≤ length (piece_shown (bytes_at limits) count (shown_bytes limits counts) (k + k) w) + length (piece_shown (bytes_at limits) count (shown_bytes limits counts) (suc (k + k)) w)
      go true e = omega (arith, ap (λ (o : Option Name). length (entry_bytes o)) (shown-there limits counts w k e), both)
      go false e = omega (arith, ap (λ (o : Option Name). length (entry_bytes o)) (shown-none limits counts w k e))

  names-parts : (k : ℕ) → length (joined entry_bytes (names k)) ≤ parts (k + k)
  names-parts zero = omega arith
  names-parts (suc k) =
      let piece : ℕ → List ℕ = λ i. piece_shown (bytes_at limits) count (shown_bytes limits counts) i w in
      let e : suc k + suc k ≡ suc (suc (k + k)) = omega arith in
      let a = length-joined-snoc entry_bytes (names k) (name_shown limits counts k w) in
      let b = length-joined-snoc (λ (t : List ℕ). t) (tabulate piece (k + k)) (piece (k + k)) in
      let c = length-joined-snoc (λ (t : List ℕ). t) (tabulate piece (suc (k + k))) (piece (suc (k + k))) in
      rw e (omega (arith, a, b, c, name-short k, names-parts k))

  names-short : (n reached : ℕ) → ends_reach 0 (take (n + n) w) reached ≡ true → (k : ℕ) → k ≤ n → k + k ≤ length w → length (joined entry_bytes (names k)) ≤ shown_bytes limits counts
  names-short n reached reach k h f =
      omega (arith, names-parts k, (pieces-short (bytes_at limits) count (shown_bytes limits counts) w (n + n) reached reach (k + k) (omega arith) f).1)

-- ---- rule 1

module _ (d : Document) (mem : List ℕ) (ok : memory_ok d (length mem) ≡ true) where
  length-texts_part : length (texts_part d mem) ≡ texts_words (limits_of d.limits)
  length-texts_part =
      let l = limits_of d.limits in
      length_part mem (texts_at l) (texts_words l) (omega (arith, memory-long d (length mem) ok, names-next l, words-next l))

  length-names_part : length (names_part d mem) ≡ names_words (limits_of d.limits)
  length-names_part =
      let l = limits_of d.limits in
      length_part mem (names_at l) (names_words l) (omega (arith, memory-long d (length mem) ok, words-next l))

  abbrev slots : ℕ
  slots = min d.counts.texts d.limits.texts

  texts-fit : lengths_add d mem ≡ true → length (bytes_of (pool_in d mem).texts) ≤ d.limits.textbytes
  unfolding lengths_add
  texts-fit h =
      let reach = and_left (texts_add d mem) (names_add d mem) h in
      omega (
        arith,
        texts-short (text_limits d) (text_counts d) (texts_part d mem) d.counts.texts d.counts.textbytes reach slots (omega arith) (omega (arith, length-texts_part)),
      )

  names-fit : lengths_add d mem ≡ true → length (joined entry_bytes (names_in d mem)) ≤ d.limits.namebytes
  unfolding lengths_add
  names-fit h =
      let reach = and_right (texts_add d mem) (names_add d mem) h in
      omega (
        arith,
        names-short (name_limits d) (name_counts d) (names_part d mem) d.counts.names d.counts.namebytes reach (min d.counts.names d.limits.names) (omega arith)
            (omega (arith, length-names_part)),
      )

  pub counts-decoded : lengths_add d mem ≡ true → counts_within (decode d mem) ≡ counts_within (decode_nodes d mem)
  unfolding counts_within
  counts-decoded h =
      let a = length-tabulate (λ s. text_shown (text_limits d) (text_counts d) s (texts_part d mem)) slots in
      let c = names-shown d mem in
      rw (
        le-leb (length (pool_in d mem).texts) d.limits.texts (omega arith),
        le-leb (length (bytes_of (pool_in d mem).texts)) d.limits.textbytes (texts-fit h),
        le-leb (length (names_in d mem)) d.limits.names (omega arith),
        le-leb (length (joined entry_bytes (names_in d mem))) d.limits.namebytes (names-fit h),
        le-leb 0 d.limits.texts (omega arith),
        le-leb 0 d.limits.textbytes (omega arith),
        le-leb 0 d.limits.names (omega arith),
        le-leb 0 d.limits.namebytes (omega arith),
      )

  pub fields-decoded : lengths_add d mem ≡ true → counts_and_fields_hold (decode d mem) ≡ counts_and_fields_hold (decode_nodes d mem)
  unfolding counts_and_fields_hold words_within one_root all_slots all_live
  fields-decoded h = ap (λ (t : Bool). t && words_within (decode_nodes d mem) && one_root (decode_nodes d mem)) (counts-decoded h)
