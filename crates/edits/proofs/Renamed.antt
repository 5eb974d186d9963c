-- What new words of the names do to the document: another table, all else equal.
-- Assumes nothing.
use Rattle.std.specs.Prelude.{Option}
use mathlib.Core.Path.{◌≡◌, refl, sym, ap, subst, ◌∙◌}
use mathlib.Core.Bool.{true}
use mathlib.Core.List.{List, reverse}
use Prim.Native.Nat.{ℕ, ◌+◌, ◌*◌, ◌≤◌, min}
use native.Mathlib.Omega.{arith}
use lib.ListN.{length, take}
use Rattle.words.specs.Parts.{part, put}
use Rattle.words.specs.Lists.{tabulate}
use Rattle.words.specs.Ends.{ends_reach}
use Rattle.words.proofs.Parts.{length_part, length-put, part-put-same, part-put-before, drop-put-after}
use Rattle.words.proofs.Tests.{and_left, and_right, and_both}
use Rattle.blocks.specs.Arena.{arena_of}
use Rattle.texts.specs.Words.{text_shown}
use Rattle.names.specs.Table.{Name}
use Rattle.names.specs.Words.{table_of, TableHeld}
use Rattle.names.specs.declared.NameCounts.{NameCounts}
use Rattle.model.specs.Kinds.{Which, children, attributes, namespaces}
use Rattle.model.specs.Doc.{change_arenas, change_names, change_fits}
use Rattle.layout.specs.declared.Document.{Document}
use Rattle.layout.specs.Layout.{limits_of, entries_of, arena_at, texts_at, texts_words, names_at, names_words, document_words, memory_ok}
use Rattle.memory.specs.Decode.{counts_within, slots_part, arena_part, texts_part, names_part, text_limits, text_counts, name_limits, name_counts, pool_in, names_in, texts_add, names_add, lengths_add, document_of, decode}
use Rattle.layout.specs.Record.{used_of, table_counts, with_names}
use Rattle.memory.specs.Step.{Step}
use Rattle.memory.specs.Writing.{put_names}
use Rattle.layout.proofs.Sizes.{memory-long, arena-behind-slots, arena-inside, names-next, words-next}
use Rattle.memory.proofs.Counted.{counts-fit, fit-counts}
use Rattle.memory.proofs.Shown.{names-held}
use Rattle.edits.specs.Pooled.{set_names}

module _ (d : Document) (mem : List ℕ) (ok : memory_ok d (length mem) ≡ true) where
  -- ---- what the table asks, from rules 1 and 8

  names-within : names_at (limits_of d.limits) + names_words (limits_of d.limits) ≤ length mem
  names-within =
      let l = limits_of d.limits in
      omega (arith, words-next l, memory-long d (length mem) ok)

  pub names-counted : (decode d mem).counts_fit ≡ true → (decode d mem).lengths_fit ≡ true → TableHeld (name_limits d) (name_counts d) (names_part d mem)
  unfolding lengths_add
  names-counted c e =
      let l = limits_of d.limits in
      let f = counts-fit l d.counts c in
      record {
        size = length_part mem (names_at l) (names_words l) names-within ∙ omega arith;
        names = f.names;
        bytes = f.name-bytes;
        ends = and_right (texts_add d mem) (names_add d mem) e;
      }

  -- ---- other words of the names

  module _ (counts : (decode d mem).counts_fit ≡ true) (lengths : (decode d mem).lengths_fit ≡ true) (t : NameCounts) (words : List ℕ) (c : TableHeld (name_limits d) t words) where
    abbrev after : List ℕ
    after = put_names d words mem

    abbrev e : Document
    e = with_names d t

    long : length words ≡ names_words (limits_of d.limits)
    long = c.size ∙ omega arith

    -- every region before is as it was
    before_same : (at n : ℕ) → at + n ≤ names_at (limits_of d.limits) → part at n after ≡ part at n mem
    unfolding put_names
    before_same at n b = part-put-before mem (names_at (limits_of d.limits)) words at n b (omega (arith, names-within))

    slots_same : slots_part d after ≡ slots_part d mem
    slots_same =
        let l = limits_of d.limits in
        before_same 0 (15 * d.limits.nodes) (omega (arith, arena-behind-slots l children, arena-inside l children, names-next l))

    arena-same : (a : Which) → arena_part d a after ≡ arena_part d a mem
    arena-same a =
        let l = limits_of d.limits in
        before_same (arena_at l a) (2 * entries_of d.limits a) (omega (arith, arena-inside l a, names-next l))

    texts-same : texts_part d after ≡ texts_part d mem
    texts-same =
        let l = limits_of d.limits in
        before_same (texts_at l) (texts_words l) (omega (arith, names-next l))

    names-part : names_part d after ≡ words
    unfolding put_names
    names-part =
        let l = limits_of d.limits in
        ap (λ (k : ℕ). part (names_at l) k (put (names_at l) words mem)) (sym long) ∙ part-put-same mem (names_at l) words (omega (arith, names-within))

    names-are : names_in e after ≡ table_of (name_limits d) t words
    names-are = names-held e after (subst (λ (x : List ℕ). TableHeld (name_limits d) t x) (sym names-part) c) ∙ ap (table_of (name_limits d) t) names-part

    pool-are : pool_in e after ≡ pool_in d mem
    pool-are = λ i. record {
      texts = tabulate (λ s. text_shown (text_limits d) (text_counts d) s (texts-same i)) (min d.counts.texts d.limits.texts);
      free = reverse (part d.limits.texts (min d.counts.freetexts d.limits.texts) (texts-same i));
    }

    lengths-are : lengths_add e after ≡ lengths_add d mem
    unfolding lengths_add
    lengths-are =
        and_both (texts_add e after) (names_add e after)
        (ap (λ (x : List ℕ). ends_reach 0 (take d.counts.texts x) d.counts.textbytes) texts-same
        ∙ and_left (texts_add d mem) (names_add d mem) lengths)
        (ap (λ (x : List ℕ). ends_reach 0 (take (t.names + t.names) x) t.bytes) names-part ∙ c.ends)
        ∙ sym lengths

    used-same : (v : Which) → used_of (table_counts d.counts t) v ≡ used_of d.counts v
    used-same children = refl
    used-same attributes = refl
    used-same namespaces = refl

    counts-are : counts_within (limits_of d.limits) (table_counts d.counts t) ≡ counts_within (limits_of d.limits) d.counts
    counts-are =
        let f = counts-fit (limits_of d.limits) d.counts counts in
        fit-counts (limits_of d.limits) (table_counts d.counts t)
        (record { slots = f.slots; free = f.free; used = within; texts = f.texts; free-texts = f.free-texts; text-bytes = f.text-bytes; names = c.names; name-bytes = c.bytes })
        ∙ sym counts
      where
        within : (v : Which) → used_of (table_counts d.counts t) v ≤ entries_of d.limits v
        within v = omega (arith, used-same v, (counts-fit (limits_of d.limits) d.counts counts).used v)

    renamed : (n : List (Option Name)) → table_of (name_limits d) t words ≡ n → decode (with_names d t) (put_names d words mem) ≡ set_names (decode d mem) n
    unfolding set_names
    renamed n q =
        let D = decode d mem in
        (λ i. document_of (pool-are i) ((names-are ∙ q) i) (lengths-are i) e (slots_same i) (λ a. arena-same a i))
        ∙ (λ i.
        let lists = change_arenas (change_names D n) (λ a. arena_of (entries_of d.limits a) (min (used-same a i) (entries_of d.limits a)) (arena_part d a mem)) in
        change_fits lists (counts-are i) D.lengths_fit)

    pub names-step : (n : List (Option Name)) → table_of (name_limits d) t words ≡ n → Step d mem (with_names d t) (put_names d words mem) (set_names (decode d mem) n)
    unfolding put_names
    names-step n q =
        let l = limits_of d.limits in
        record {
          document = renamed n q;
          limits = refl;
          size = length-put mem (names_at l) words (omega (arith, long, names-within));
          past = drop-put-after mem (names_at l) words (document_words l) (omega (arith, names-within)) (omega (arith, long, words-next l));
        }
