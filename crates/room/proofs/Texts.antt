-- The texts of a document that keeps the rules are those of its pool's words.
-- Assumes nothing.
use mathlib.Core.Path.{◌≡◌, sym, ap, ◌∙◌}
use mathlib.Core.Bool.{true}
use mathlib.Core.List.{List, [], reverse}
use Prim.Native.Nat.{ℕ, min}
use native.Mathlib.Omega.{arith}
use lib.ListN.{length}
use lib.Seq.{ext_get_or}
use Rattle.words.specs.Parts.{part}
use Rattle.words.specs.Lists.{tabulate}
use Rattle.words.proofs.Parts.{length_part}
use Rattle.words.proofs.Lists.{length-tabulate, get_or-tabulate}
use Rattle.words.proofs.Tests.{and_left}
use Rattle.texts.specs.Pool.{Pool, texts_fit}
use Rattle.texts.specs.Words.{pool_of, Counted, text_shown, counts_fit}
use Rattle.texts.proofs.Words.{pool-slots, fits-pool, shown-text}
use Rattle.model.specs.Calls.{text_fits}
use Rattle.layout.specs.declared.Document.{Document}
use Rattle.layout.specs.Layout.{limits_of, texts_at, texts_words}
use Rattle.memory.specs.Decode.{text_limits, text_counts, texts_part, pool_in, texts_add, names_add, lengths_add, decode}
use Rattle.layout.proofs.Sizes.{memory-long, names-next, words-next}
use Rattle.memory.specs.Undamaged.{Undamaged}
use Rattle.lookup.proofs.Counts.{counts-within}

texts-reach : (d : Document) (mem : List ℕ) → lengths_add d mem ≡ true → texts_add d mem ≡ true
unfolding lengths_add
texts-reach d mem h = and_left (texts_add d mem) (names_add d mem) h

module _ (d : Document) (mem : List ℕ) (u : Undamaged d mem) where
  pub counted : Counted (text_limits d) (text_counts d) (texts_part d mem)
  counted =
      let l = limits_of d.limits in
      let w = counts-within d mem u in
      record {
        size =
            length_part mem (texts_at l) (texts_words l) (omega (arith, names-next l, words-next l, memory-long d (length mem) u.memory))
            ∙ omega arith;
        slots = w.texts;
        free = w.freetexts;
        bytes = w.textbytes;
        ends = texts-reach d mem u.rules.texts.lengths;
      }

  free-same : reverse (part d.limits.texts (min d.counts.freetexts d.limits.texts) (texts_part d mem)) ≡ (pool_of (text_limits d) (text_counts d) (texts_part d mem)).free
  unfolding pool_of
  free-same =
      let e : min d.counts.freetexts d.limits.texts ≡ d.counts.freetexts = omega (arith, (counts-within d mem u).freetexts) in
      rw e

  abbrev shown : ℕ → List ℕ
  shown s = text_shown (text_limits d) (text_counts d) s (texts_part d mem)

  pub pool-same : pool_in d mem ≡ pool_of (text_limits d) (text_counts d) (texts_part d mem)
  pool-same = λ i. record { texts = texts-same i; free = free-same i }
    where
      made : min d.counts.texts d.limits.texts ≡ d.counts.texts
      made = omega (arith, (counts-within d mem u).texts)

      texts-same : tabulate shown (min d.counts.texts d.limits.texts) ≡ (pool_of (text_limits d) (text_counts d) (texts_part d mem)).texts
      texts-same =
          rw made (ext_get_or [] (tabulate shown d.counts.texts) (pool_of (text_limits d) (text_counts d) (texts_part d mem)).texts
          (length-tabulate shown d.counts.texts ∙ sym (pool-slots (text_limits d) (text_counts d) (texts_part d mem) counted))
          (λ s h.
          get_or-tabulate shown d.counts.texts s [] (rw (length-tabulate shown d.counts.texts) at h)
          ∙ shown-text (text_limits d) (text_counts d) (texts_part d mem) counted s))

  -- Full, by the counts
  pub text-fits : (k off on : ℕ) → counts_fit (text_limits d) (text_counts d) k off on ≡ text_fits (decode d mem) k off on
  text-fits k off on =
      fits-pool (text_limits d) (text_counts d) (texts_part d mem) counted k off on
      ∙ sym (ap (λ (p : Pool). texts_fit d.limits.texts d.limits.textbytes p k off on) pool-same)
