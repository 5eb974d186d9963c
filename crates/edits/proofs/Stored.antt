-- The words of the texts lent to the pool, and what a stored text is to the document.
-- Assumes nothing.
use mathlib.Core.Path.{◌≡◌, refl, sym, ap, subst, ◌∙◌}
use mathlib.Core.Bool.{true}
use mathlib.Core.List.{List, [], ◌∷◌}
use Prim.Native.Nat.{ℕ, ◌+◌, ◌≤◌, ◌<◌}
use native.Mathlib.Omega.{arith}
use native.Mathlib.Decide.{dec_lt}
use lib.ListN.{length}
use lib.Dec.{eqb}
use Rattle.words.specs.Lists.{count_of}
use Rattle.words.specs.declared.TextSlot.{TextSlot}
use Rattle.texts.specs.Pool.{Pool, stored, stored_from, stored_slot, slots_for, texts_fit}
use Rattle.texts.specs.Rule.{FreeTexts}
use Rattle.texts.specs.Words.{field_of, counts_fit, Counted, PoolHeld, StoredTo}
use Rattle.texts.specs.declared.storing.Stored.{Stored}
use Rattle.std.specs.Prelude.{Option}
use Rattle.texts.proofs.Pool.{stored-slots, stored-free, stored_bytes, texts_fit-within, within-texts_fit}
use Rattle.texts.proofs.Rule.{stored-free-texts}
use Rattle.texts.proofs.Words.{fits-pool}
use Rattle.model.specs.Doc.{Doc}
use Rattle.model.specs.Rules.{Rules}
use Rattle.model.specs.Calls.{text_fits}
use Rattle.layout.specs.declared.Document.{Document}
use Rattle.memory.specs.Decode.{slot_of, text_limits, text_counts, texts_part, decode}
use Rattle.memory.specs.Step.{Step}
use Rattle.layout.specs.Record.{with_texts}
use Rattle.memory.specs.Writing.{put_texts}
use Rattle.memory.proofs.Shown.{pool-held}
use Rattle.edits.specs.Pooled.{set_pool}
use Rattle.edits.specs.Stores.{TextsReady, Storable, TwoStorable}
use Rattle.edits.proofs.Composed.{step-as, step-memory, step-next}
use Rattle.edits.proofs.Repooled.{texts-counted, texts-changed}

-- ---- what storing asks, from the rules, and again after a text was stored

pub rules-texts : (D : Doc) → Rules D → TextsReady D
rules-texts D r =
    record {
      counts = r.fields.counts;
      lengths = r.texts.lengths;
      free = record { inside = inside; empty = r.texts.emptied };
      once = once;
    }
  where
    inside : (s : ℕ) → 0 < count_of (eqb s) D.pool.free → s < length D.pool.texts
    inside s c = go (dec_lt s (length D.pool.texts))
      where
        go : Dec (s < length D.pool.texts) → s < length D.pool.texts
        go (yes b) = b
        go (no b) = absurd (omega (arith, r.texts.inside s (omega arith)))

    once : (s : ℕ) → count_of (eqb s) D.pool.free ≤ 1
    once s = go (dec_lt s (length D.pool.texts))
      where
        go : Dec (s < length D.pool.texts) → count_of (eqb s) D.pool.free ≤ 1
        go (yes b) = omega (arith, r.texts.once s b)
        go (no b) = omega (arith, r.texts.inside s (omega arith))

stored-once : (p : Pool) (t : List ℕ) (s : ℕ) → count_of (eqb s) (stored p t).free ≤ count_of (eqb s) p.free
unfolding stored
stored-once p [] s = omega arith
stored-once p (b ∷ t) s = go p.free
  where
    go : (l : List ℕ) → count_of (eqb s) (stored_from l p (b ∷ t)).free ≤ count_of (eqb s) l
    go [] = omega arith
    go (x ∷ l) = omega arith

pub stored-ready : (D : Doc) (t : List ℕ) → TextsReady D → TextsReady (set_pool D (stored D.pool t))
unfolding set_pool
stored-ready D t r =
    record {
      counts = r.counts;
      lengths = r.lengths;
      free = stored-free-texts D.pool t r.once r.free;
      once = λ s. omega (arith, r.once s, stored-once D.pool t s);
    }

-- ---- a text stored

module _ (d : Document) (mem t : List ℕ) (s : Storable d mem t) where
  counted : Counted (text_limits d) (text_counts d) (texts_part d mem)
  counted = texts-counted d mem s.memory s.ready.counts s.ready.lengths

  held-texts : PoolHeld (text_limits d) (text_counts d) (texts_part d mem)
  held-texts = record { counted = counted; texts = subst FreeTexts (pool-held d mem counted) s.ready.free }

  fits : counts_fit (text_limits d) (text_counts d) (slots_for t) 0 (length t) ≡ true
  fits =
      fits-pool (text_limits d) (text_counts d) (texts_part d mem) counted (slots_for t) 0 (length t)
      ∙ ap (λ (p : Pool). texts_fit d.limits.texts d.limits.textbytes p (slots_for t) 0 (length t)) (sym (pool-held d mem counted))
      ∙ s.room

  pub store-asked : PoolHeld (text_limits d) (text_counts d) (texts_part d mem) × (counts_fit (text_limits d) (text_counts d) (slots_for t) 0 (length t) ≡ true)
  store-asked = (held-texts, fits)

  module _ (mem' : List ℕ) (r : Stored) (k : StoredTo (text_limits d) (text_counts d) (texts_part d mem) (texts_part d mem') t r) where
    pub store_step : mem' ≡ put_texts d (texts_part d mem') mem → (e : Document) → e ≡ with_texts d r.counts
        → Step d mem e mem' (set_pool (decode d mem) (stored (decode d mem).pool t))
    store_step em e ee =
        texts-changed d mem s.memory s.ready.counts s.ready.lengths mem' r.counts k.counted em (stored (decode d mem).pool t)
        (k.pool ∙ ap (λ (x : Pool). stored x t) (sym (pool-held d mem counted))) e ee

    pub stored-field : (f : Option TextSlot) → slot_of f ≡ field_of r.field → slot_of f ≡ stored_slot (decode d mem).pool t
    stored-field f q = q ∙ k.field ∙ ap (λ (x : Pool). stored_slot x t) (sym (pool-held d mem counted))

-- ---- two texts stored, one after the other

module _ (d : Document) (mem t u : List ℕ) (s : TwoStorable d mem t u) where
  abbrev P : Pool
  P = (decode d mem).pool

  first_fits : texts_fit d.limits.texts d.limits.textbytes P (slots_for t) 0 (length t) ≡ true
  first_fits =
      let f = texts_fit-within d.limits.texts d.limits.textbytes P (slots_for t + slots_for u) 0 (length t + length u) s.room in
      within-texts_fit d.limits.texts d.limits.textbytes P (slots_for t) 0 (length t) (omega arith) (omega arith)

  second_fits : texts_fit d.limits.texts d.limits.textbytes (stored P t) (slots_for u) 0 (length u) ≡ true
  second_fits =
      let f = texts_fit-within d.limits.texts d.limits.textbytes P (slots_for t + slots_for u) 0 (length t + length u) s.room in
      within-texts_fit d.limits.texts d.limits.textbytes (stored P t) (slots_for u) 0 (length u)
      (omega (arith, stored-slots P t, stored-free P t))
      (omega (arith, stored_bytes P t s.ready.free))

  pub first-storable : Storable d mem t
  first-storable = record { memory = s.memory; ready = s.ready; room = first_fits }

  module _ (e : Document) (mem₁ : List ℕ) (a : Step d mem e mem₁ (set_pool (decode d mem) (stored (decode d mem).pool t))) where
    abbrev E : Doc
    E = set_pool (decode d mem) (stored (decode d mem).pool t)

    fits-there : text_fits E (slots_for u) 0 (length u) ≡ true
    unfolding set_pool
    fits-there = second_fits

    pub second-storable : Storable e mem₁ u
    second-storable =
        record {
          memory = step-memory d mem e mem₁ E a s.memory;
          ready = subst TextsReady (sym a.document) (stored-ready (decode d mem) t s.ready);
          room = ap (λ (x : Doc). text_fits x (slots_for u) 0 (length u)) a.document ∙ fits-there;
        }

    pool-there : E.pool ≡ stored P t
    unfolding set_pool
    pool-there = refl

    between : (decode e mem₁).pool ≡ stored P t
    between = ap (λ (x : Doc). x.pool) a.document ∙ pool-there

    again : set_pool E (stored (stored P t) u) ≡ set_pool (decode d mem) (stored (stored P t) u)
    unfolding set_pool
    again = refl

    pub two-step : (r : Document) (mem₂ : List ℕ) → Step e mem₁ r mem₂ (set_pool (decode e mem₁) (stored (decode e mem₁).pool u))
        → Step d mem r mem₂ (set_pool (decode d mem) (stored (stored (decode d mem).pool t) u))
    two-step r mem₂ b =
        step-as d mem r mem₂ (set_pool E (stored E.pool u)) (set_pool (decode d mem) (stored (stored P t) u))
        (step-next d mem e mem₁ E a (λ (x : Doc). set_pool x (stored x.pool u)) r mem₂ b)
        (ap (λ (p : Pool). set_pool E (stored p u)) pool-there ∙ again)

    pub second-field : (f : Option TextSlot) → slot_of f ≡ stored_slot (decode e mem₁).pool u → slot_of f ≡ stored_slot (stored (decode d mem).pool t) u
    second-field f q = q ∙ ap (λ (p : Pool). stored_slot p u) between
