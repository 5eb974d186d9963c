-- What new words of the texts do to the document: another pool, all else equal.
-- Assumes nothing.
use mathlib.Core.Path.{◌≡◌, refl, sym, ap, subst, ◌∙◌}
use mathlib.Core.Bool.{true}
use mathlib.Core.List.{List}
use Prim.Native.Nat.{ℕ, ◌+◌, ◌*◌, ◌≤◌, min}
use native.Mathlib.Omega.{arith}
use lib.ListN.{length, take}
use Rattle.words.specs.Parts.{part, put}
use Rattle.words.specs.Lists.{tabulate}
use Rattle.words.specs.Ends.{ends_reach}
use Rattle.words.proofs.Parts.{length_part, length-put, part-put-same, part-put-before, part-put-after, drop-put-after}
use Rattle.words.proofs.Tests.{and_left, and_right, and_both}
use Rattle.blocks.specs.Arena.{arena_of}
use Rattle.texts.specs.Pool.{Pool}
use Rattle.texts.specs.Words.{Counted, pool_of}
use Rattle.texts.specs.declared.TextCounts.{TextCounts}
use Rattle.names.specs.Words.{name_shown}
use Rattle.model.specs.Kinds.{Which, children, attributes, namespaces}
use Rattle.model.specs.Doc.{change_arenas, change_pool, change_fits}
use Rattle.layout.specs.declared.Document.{Document}
use Rattle.layout.specs.Layout.{limits_of, entries_of, arena_at, texts_at, texts_words, names_at, names_words, document_words, memory_ok}
use Rattle.memory.specs.Decode.{counts_within, slots_part, arena_part, texts_part, names_part, text_limits, text_counts, name_limits, name_counts, pool_in, names_in, texts_add, names_add, lengths_add, document_of, decode}
use Rattle.layout.specs.Record.{used_of, pool_counts, with_texts}
use Rattle.layout.proofs.Sizes.{memory-long, arena-behind-slots, arena-inside, names-next, words-next}
use Rattle.memory.proofs.Counted.{counts-fit, fit-counts}
use Rattle.memory.proofs.Shown.{pool-held}
use Rattle.memory.specs.Step.{Step}
use Rattle.memory.specs.Writing.{put_texts}
use Rattle.edits.specs.Pooled.{set_pool}

module _ (d : Document) (mem : List ℕ) (ok : memory_ok d (length mem) ≡ true) where
  -- ---- what the pool asks, from rules 1 and 8

  inside : texts_at (limits_of d.limits) + texts_words (limits_of d.limits) ≤ length mem
  inside =
      let l = limits_of d.limits in
      omega (arith, names-next l, words-next l, memory-long d (length mem) ok)

  pub texts-counted : (decode d mem).counts_fit ≡ true → (decode d mem).lengths_fit ≡ true → Counted (text_limits d) (text_counts d) (texts_part d mem)
  unfolding lengths_add
  texts-counted c e =
      let l = limits_of d.limits in
      let f = counts-fit l d.counts c in
      record {
        size = length_part mem (texts_at l) (texts_words l) inside ∙ omega arith;
        slots = f.texts;
        free = f.free-texts;
        bytes = f.text-bytes;
        ends = and_left (texts_add d mem) (names_add d mem) e;
      }

  -- ---- other words of the texts

  module _ (counts : (decode d mem).counts_fit ≡ true) (lengths : (decode d mem).lengths_fit ≡ true) (t : TextCounts) (words : List ℕ) (c : Counted (text_limits d) t words) where
    abbrev after : List ℕ
    after = put_texts d words mem

    abbrev e : Document
    e = with_texts d t

    long : length words ≡ texts_words (limits_of d.limits)
    long = c.size ∙ omega arith

    slots_same : slots_part d after ≡ slots_part d mem
    unfolding put_texts
    slots_same =
        let l = limits_of d.limits in
        part-put-before mem (texts_at l) words 0 (15 * d.limits.nodes) (omega (arith, arena-behind-slots l children, arena-inside l children)) (omega (arith, inside))

    arena-same : (a : Which) → arena_part d a after ≡ arena_part d a mem
    unfolding put_texts
    arena-same a =
        let l = limits_of d.limits in
        part-put-before mem (texts_at l) words (arena_at l a) (2 * entries_of d.limits a) (arena-inside l a) (omega (arith, inside))

    names_same : names_part d after ≡ names_part d mem
    unfolding put_texts
    names_same =
        let l = limits_of d.limits in
        part-put-after mem (texts_at l) words (names_at l) (names_words l) (omega (arith, long, names-next l)) (omega (arith, inside))

    texts-are : texts_part d after ≡ words
    unfolding put_texts
    texts-are =
        let l = limits_of d.limits in
        ap (λ (k : ℕ). part (texts_at l) k (put (texts_at l) words mem)) (sym long) ∙ part-put-same mem (texts_at l) words (omega (arith, inside))

    pool-are : pool_in e after ≡ pool_of (text_limits d) t words
    pool-are = pool-held e after (subst (λ (x : List ℕ). Counted (text_limits d) t x) (sym texts-are) c) ∙ ap (pool_of (text_limits d) t) texts-are

    names-are : names_in e after ≡ names_in d mem
    names-are = λ i. tabulate (λ n. name_shown (name_limits d) (name_counts d) n (names_same i)) (min d.counts.names d.limits.names)

    lengths-are : lengths_add e after ≡ lengths_add d mem
    unfolding lengths_add
    lengths-are =
        and_both (texts_add e after) (names_add e after)
        (ap (λ (x : List ℕ). ends_reach 0 (take t.slots x) t.bytes) texts-are ∙ c.ends)
        (ap (λ (x : List ℕ). ends_reach 0 (take (d.counts.names + d.counts.names) x) d.counts.namebytes) names_same
        ∙ and_right (texts_add d mem) (names_add d mem) lengths)
        ∙ sym lengths

    used-same : (v : Which) → used_of (pool_counts d.counts t) v ≡ used_of d.counts v
    used-same children = refl
    used-same attributes = refl
    used-same namespaces = refl

    counts-are : counts_within (limits_of d.limits) (pool_counts d.counts t) ≡ counts_within (limits_of d.limits) d.counts
    counts-are =
        let f = counts-fit (limits_of d.limits) d.counts counts in
        fit-counts (limits_of d.limits) (pool_counts d.counts t)
        (record { slots = f.slots; free = f.free; used = within; texts = c.slots; free-texts = c.free; text-bytes = c.bytes; names = f.names; name-bytes = f.name-bytes })
        ∙ sym counts
      where
        within : (v : Which) → used_of (pool_counts d.counts t) v ≤ entries_of d.limits v
        within v = omega (arith, used-same v, (counts-fit (limits_of d.limits) d.counts counts).used v)

    pooled : (p : Pool) → pool_of (text_limits d) t words ≡ p → decode (with_texts d t) (put_texts d words mem) ≡ set_pool (decode d mem) p
    unfolding set_pool
    pooled p q =
        let D = decode d mem in
        (λ i. document_of ((pool-are ∙ q) i) (names-are i) (lengths-are i) e (slots_same i) (λ a. arena-same a i))
        ∙ (λ i.
        let lists = change_arenas (change_pool D p) (λ a. arena_of (entries_of d.limits a) (min (used-same a i) (entries_of d.limits a)) (arena_part d a mem)) in
        change_fits lists (counts-are i) D.lengths_fit)

    -- store_text and replace_text, with the pool that they promise
    pub texts-step : (p : Pool) → pool_of (text_limits d) t words ≡ p → Step d mem (with_texts d t) (put_texts d words mem) (set_pool (decode d mem) p)
    unfolding put_texts
    texts-step p q =
        let l = limits_of d.limits in
        record {
          document = pooled p q;
          limits = refl;
          size = length-put mem (texts_at l) words (omega (arith, long, inside));
          past = drop-put-after mem (texts_at l) words (document_words l) (omega (arith, inside)) (omega (arith, long, names-next l, words-next l));
        }

-- the memory and the record of a call that was lent the words
pub texts-changed : (d : Document) (mem : List ℕ) → memory_ok d (length mem) ≡ true → (decode d mem).counts_fit ≡ true → (decode d mem).lengths_fit ≡ true
    → (mem' : List ℕ) (t : TextCounts) → Counted (text_limits d) t (texts_part d mem') → mem' ≡ put_texts d (texts_part d mem') mem
    → (p : Pool) → pool_of (text_limits d) t (texts_part d mem') ≡ p → (e : Document) → e ≡ with_texts d t → Step d mem e mem' (set_pool (decode d mem) p)
texts-changed d mem ok counts lengths mem' t c em p q e ee =
    subst (λ (x : Document). Step d mem x mem' (set_pool (decode d mem) p)) (sym ee)
    (subst (λ (x : List ℕ). Step d mem (with_texts d t) x (set_pool (decode d mem) p)) (sym em)
    (texts-step d mem ok counts lengths t (texts_part d mem') c p q))
