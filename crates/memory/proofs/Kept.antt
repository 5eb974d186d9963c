-- Texts and names are kept by what is written to the slots and to the arenas.
-- Assumes nothing.
use mathlib.Core.Path.{◌≡◌, ◌∙◌}
use mathlib.Core.List.{List, reverse}
use Prim.Native.Nat.{ℕ, ◌+◌, ◌*◌, ◌≤◌, min}
use native.Mathlib.Omega.{arith}
use lib.ListN.{length, take}
use Rattle.words.specs.Parts.{part, put}
use Rattle.words.specs.Lists.{tabulate}
use Rattle.words.proofs.Parts.{part-put-after}
use Rattle.texts.specs.Words.{text_shown}
use Rattle.names.specs.Words.{name_shown}
use Rattle.model.specs.Kinds.{Which, children}
use Rattle.layout.specs.declared.Document.{Document}
use Rattle.layout.specs.Layout.{limits_of, entries_of, arena_at, texts_at, texts_words, names_at, names_words, document_words}
use Rattle.memory.specs.Decode.{text_limits, text_counts, name_limits, name_counts, texts_part, names_part, pool_in, names_in, lengths_add, decode_with, decode}
use Rattle.memory.specs.Writing.{put_slots, put_arena}
use Rattle.layout.proofs.Sizes.{arena-behind-slots, arena-inside, names-next, words-next}
use Rattle.memory.proofs.Shaped.{part-take, decode-front}

-- the words of texts and names are as they were
pub record TextsKept (d : Document) (mem mem' : List ℕ) : Type 0 where
  pub texts : texts_part d mem' ≡ texts_part d mem
  pub names : names_part d mem' ≡ names_part d mem

pub kept_again : {d : Document} {mem mem' mem'' : List ℕ} → TextsKept d mem mem' → TextsKept d mem' mem'' → TextsKept d mem mem''
kept_again k l = record { texts = l.texts ∙ k.texts; names = l.names ∙ k.names }

lengths-kept : (d : Document) (mem mem' : List ℕ) → TextsKept d mem mem' → lengths_add d mem' ≡ lengths_add d mem
unfolding lengths_add
lengths-kept d mem mem' k = rw (k.texts, k.names)

-- then so are texts and names
pub decode-kept : (d : Document) (mem mem' : List ℕ) → TextsKept d mem mem' → decode d mem' ≡ decode_with (pool_in d mem) (names_in d mem) (lengths_add d mem) d mem'
decode-kept d mem mem' k = λ i. decode_with (pool i) (names i) (lengths-kept d mem mem' k i) d mem'
  where
    pool : pool_in d mem' ≡ pool_in d mem
    pool =
        λ i. record {
          texts = tabulate (λ s. text_shown (text_limits d) (text_counts d) s (k.texts i)) (min d.counts.texts d.limits.texts);
          free = reverse (part d.limits.texts (min d.counts.freetexts d.limits.texts) (k.texts i));
        }

    names : names_in d mem' ≡ names_in d mem
    names = λ i. tabulate (λ n. name_shown (name_limits d) (name_counts d) n (k.names i)) (min d.counts.names d.limits.names)

module _ (d : Document) (mem words : List ℕ) where
  -- what is put before the texts does not meet them
  put-before-texts : (at : ℕ) → at + length words ≤ texts_at (limits_of d.limits) → at ≤ length mem → TextsKept d mem (put at words mem)
  put-before-texts at h b =
      let l = limits_of d.limits in
      record {
        texts = part-put-after mem at words (texts_at l) (texts_words l) h b;
        names = part-put-after mem at words (names_at l) (names_words l) (omega (arith, names-next l)) b;
      }

  pub put_slots-texts : length words ≡ 15 * d.limits.nodes → TextsKept d mem (put_slots words mem)
  unfolding put_slots
  put_slots-texts size =
      let l = limits_of d.limits in
      put-before-texts 0 (omega (arith, arena-behind-slots l children, arena-inside l children)) (omega arith)

  pub put_arena-texts : (w : Which) → length words ≡ entries_of d.limits w + entries_of d.limits w → arena_at (limits_of d.limits) w ≤ length mem → TextsKept d mem (put_arena d w words mem)
  unfolding put_arena
  put_arena-texts w size b =
      let l = limits_of d.limits in
      put-before-texts (arena_at l w) (omega (arith, arena-inside l w)) b

-- only the words of the layout are read
pub decode-layout : (d : Document) (mem : List ℕ) → decode d (take (document_words (limits_of d.limits)) mem) ≡ decode d mem
decode-layout d mem =
    let l = limits_of d.limits in
    decode-kept d mem (take (document_words l) mem)
    (record {
      texts = part-take mem (texts_at l) (texts_words l) (document_words l) (omega (arith, names-next l, words-next l));
      names = part-take mem (names_at l) (names_words l) (document_words l) (omega (arith, words-next l));
    })
    ∙ decode-front (pool_in d mem) (names_in d mem) (lengths_add d mem) d mem
