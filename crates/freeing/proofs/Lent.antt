-- The words of the pool with a slot pushed, or with the bytes given back: the document then.
-- Assumes nothing.
use Rattle.std.specs.Prelude.{Some}
use mathlib.Core.Path.{◌≡◌, sym, ap, subst, ◌∙◌}
use mathlib.Core.Bool.{true}
use mathlib.Core.List.{List, [], ◌∷◌}
use Prim.Native.Nat.{ℕ, ◌≤◌, ◌<◌}
use native.Mathlib.Omega.{arith}
use lib.ListN.{length}
use lib.Dec.{eqb}
use Rattle.words.specs.Lists.{count_of}
use Rattle.texts.specs.Pool.{Pool, pushed, reclaimed}
use Rattle.texts.specs.Words.{Counted, PushedTo, ReclaimedTo}
use Rattle.texts.specs.Words as lower
use Rattle.texts.proofs.Words.{pool-slots, pool-free}
use Rattle.texts.specs.declared.TextCounts.{TextCounts}
use Rattle.memory.proofs.Counted.{counts-fit}
use Rattle.layout.specs.declared.Document.{Document}
use Rattle.layout.specs.Layout.{limits_of, memory_ok}
use Rattle.memory.specs.Decode.{text_limits, text_counts, texts_part, decode}
use Rattle.memory.specs.Step.{Step}
use Rattle.layout.specs.Record.{with_texts}
use Rattle.memory.specs.Writing.{put_texts}
use Rattle.memory.proofs.Shown.{pool-held}
use Rattle.edits.specs.Pooled.{set_pool}
use Rattle.edits.proofs.Repooled.{texts-counted, texts-changed}
use Rattle.freeing.specs.Freed.{pushed_all}
use Rattle.freeing.specs.Asked.{Releasable, Reclaimable}

-- ---- a text slot pushed

module _ (d : Document) (mem : List ℕ) (ok : memory_ok d (length mem) ≡ true) (s : ℕ) (r : Releasable (decode d mem) (Some s ∷ [])) where
  held : Counted (text_limits d) (text_counts d) (texts_part d mem)
  held = texts-counted d mem ok r.counts r.lengths

  pub slot-pushable : Counted (text_limits d) (text_counts d) (texts_part d mem) × (d.counts.freetexts < d.limits.texts)
  slot-pushable = (held, omega (arith, r.room, ap (λ (p : Pool). length p.free) (pool-held d mem held), pool-free (text_limits d) (text_counts d) (texts_part d mem) held))

  pub slot_pushed : (mem' : List ℕ) (t : TextCounts) → PushedTo (text_limits d) (text_counts d) (texts_part d mem) (texts_part d mem') s t → mem' ≡ put_texts d (texts_part d mem') mem
      → (after : Document) → after ≡ with_texts d t → Step d mem after mem' (set_pool (decode d mem) (pushed_all (decode d mem).pool (Some s ∷ [])))
  slot_pushed mem' t g em after ea =
      texts-changed d mem ok r.counts r.lengths mem' t g.counted em (pushed (decode d mem).pool (Some s)) (g.pool ∙ ap (λ (p : Pool). pushed p (Some s)) (sym (pool-held d mem held))) after ea

-- ---- the bytes given back

module _ (d : Document) (mem : List ℕ) (ok : memory_ok d (length mem) ≡ true) (r : Reclaimable (decode d mem)) where
  kept : Counted (text_limits d) (text_counts d) (texts_part d mem)
  kept = texts-counted d mem ok r.counts r.lengths

  reclaimable : lower.Reclaimable (text_limits d) (text_counts d) (texts_part d mem)
  reclaimable =
      record {
        counted = kept;
        made = λ s k. omega (
          arith,
          r.made s (subst (λ (p : Pool). 0 < count_of (eqb s) p.free) (sym (pool-held d mem kept)) k),
          ap (λ (p : Pool). length p.texts) (pool-held d mem kept),
          pool-slots (text_limits d) (text_counts d) (texts_part d mem) kept,
        );
      }

  pub texts-reclaimable : (scratch : List ℕ) → d.limits.texts ≤ length scratch
      → lower.Reclaimable (text_limits d) (text_counts d) (texts_part d mem) × (d.counts.texts ≤ length scratch)
  texts-reclaimable scratch b = (reclaimable, omega (arith, (counts-fit (limits_of d.limits) d.counts r.counts).texts))

  pub texts-reclaimed : (mem' : List ℕ) (t : TextCounts) → ReclaimedTo (text_limits d) (text_counts d) (texts_part d mem) (texts_part d mem') t → mem' ≡ put_texts d (texts_part d mem') mem
      → (after : Document) → after ≡ with_texts d t → Step d mem after mem' (set_pool (decode d mem) (reclaimed (decode d mem).pool))
  texts-reclaimed mem' t g em after ea =
      texts-changed d mem ok r.counts r.lengths mem' t g.counted em (reclaimed (decode d mem).pool) (g.pool ∙ ap reclaimed (sym (pool-held d mem kept))) after ea
