-- Texts and names of the decoded document: what is shown, in every memory; and where the lengths add up, the pool and the table that the words hold.
-- Assumes nothing.
use Rattle.std.specs.Prelude.{Option, None, Some}
use mathlib.Core.Path.{◌≡◌, sym, ap, ◌∙◌}
use mathlib.Core.List.{List, [], reverse}
use Prim.Native.Nat.{ℕ, ◌≤◌, ◌<◌, min}
use native.Mathlib.Omega.{arith}
use native.Mathlib.Decide.{dec_lt}
use native.Mathlib.Nat.{min-eq_left}
use lib.ListN.{length, get_or, get_or-eq_default}
use lib.Seq.{ext_get_or}
use Rattle.words.specs.Parts.{part}
use Rattle.words.proofs.Lists.{length-tabulate, get_or-tabulate}
use Rattle.texts.specs.Pool.{Pool, text_at}
use Rattle.texts.specs.Words.{text_shown, pool_of, Counted}
use Rattle.texts.proofs.Places.{shown-empty}
use Rattle.texts.proofs.Words.{pool-slots, shown-text}
use Rattle.names.specs.Table.{Name, name_at}
use Rattle.names.specs.Words.{name_shown, table_of, TableHeld}
use Rattle.names.proofs.Words.{there-number, shown-none, table-names, shown-name}
use Rattle.layout.specs.declared.Document.{Document}
use Rattle.memory.specs.Decode.{text_limits, text_counts, name_limits, name_counts, texts_part, names_part, pool_in, names_in}

-- the stack of released text slots
free-held : (d : Document) (mem : List ℕ) → d.counts.freetexts ≤ d.limits.texts
    → (pool_in d mem).free ≡ (pool_of (text_limits d) (text_counts d) (texts_part d mem)).free
unfolding pool_of
free-held d mem h = ap (λ (k : ℕ). reverse (part d.limits.texts k (texts_part d mem))) (min-eq_left h)

-- ---- the document's names, for every memory

module _ (d : Document) (mem : List ℕ) where
  abbrev shown : ℕ → Option Name
  shown i = name_shown (name_limits d) (name_counts d) i (names_part d mem)

  pub names-shown : length (names_in d mem) ≡ min d.counts.names d.limits.names
  names-shown = length-tabulate shown (min d.counts.names d.limits.names)

  pub name-shown : (i : ℕ) → name_at (names_in d mem) i ≡ name_shown (name_limits d) (name_counts d) i (names_part d mem)
  name-shown i = go (dec_lt i (min d.counts.names d.limits.names))
    where
      go : Dec (i < min d.counts.names d.limits.names) → name_at (names_in d mem) i ≡ shown i
      go (yes b) = get_or-tabulate shown (min d.counts.names d.limits.names) i None b
      go (no b) =
          get_or-eq_default (names_in d mem) None {n = i} (omega (arith, names-shown))
          ∙ sym (shown-none (name_limits d) (name_counts d) (names_part d mem) i (there-number (name_limits d) (name_counts d) (names_part d mem) i (omega arith)))

  -- ---- and its texts
  pub text-shown : (t : ℕ) → text_at (pool_in d mem) (Some t) ≡ text_shown (text_limits d) (text_counts d) t (texts_part d mem)
  text-shown t = go (dec_lt t k)
    where
      k : ℕ
      k = min d.counts.texts d.limits.texts

      go : Dec (t < k) → get_or (pool_in d mem).texts t [] ≡ text_shown (text_limits d) (text_counts d) t (texts_part d mem)
      go (yes b) = get_or-tabulate (λ s. text_shown (text_limits d) (text_counts d) s (texts_part d mem)) k t [] b
      go (no b) =
          get_or-eq_default (pool_in d mem).texts [] {n = t} (omega (arith, length-tabulate (λ s. text_shown (text_limits d) (text_counts d) s (texts_part d mem)) k))
          ∙ sym (shown-empty (text_limits d) (text_counts d) t (texts_part d mem) (omega arith))

  -- ---- where counts and lengths are right, they are the pool and the table that the words hold
  pub names-held : TableHeld (name_limits d) (name_counts d) (names_part d mem) → names_in d mem ≡ table_of (name_limits d) (name_counts d) (names_part d mem)
  names-held h =
      ext_get_or None (names_in d mem) (table_of (name_limits d) (name_counts d) (names_part d mem))
      (names-shown ∙ min-eq_left h.names ∙ sym (table-names (name_limits d) (name_counts d) (names_part d mem) h))
      (λ i b. name-shown i ∙ shown-name (name_limits d) (name_counts d) (names_part d mem) h i)

  pub pool-held : Counted (text_limits d) (text_counts d) (texts_part d mem) → pool_in d mem ≡ pool_of (text_limits d) (text_counts d) (texts_part d mem)
  pool-held h = pool-parts (pool_of (text_limits d) (text_counts d) (texts_part d mem)) texts free
    where
      P : Pool
      P = pool_of (text_limits d) (text_counts d) (texts_part d mem)

      pool-parts : (p : Pool) → (pool_in d mem).texts ≡ p.texts → (pool_in d mem).free ≡ p.free → pool_in d mem ≡ p
      pool-parts p a b = λ i. record { texts = a i; free = b i }

      slots : min d.counts.texts d.limits.texts ≡ d.counts.texts
      slots = min-eq_left h.slots

      texts : (pool_in d mem).texts ≡ (pool_of (text_limits d) (text_counts d) (texts_part d mem)).texts
      texts =
          ext_get_or [] (pool_in d mem).texts (pool_of (text_limits d) (text_counts d) (texts_part d mem)).texts
          (length-tabulate (λ s. text_shown (text_limits d) (text_counts d) s (texts_part d mem)) (min d.counts.texts d.limits.texts)
          ∙ slots
          ∙ sym (pool-slots (text_limits d) (text_counts d) (texts_part d mem) h))
          (λ i b. text-shown i ∙ shown-text (text_limits d) (text_counts d) (texts_part d mem) h i)

      free : (pool_in d mem).free ≡ (pool_of (text_limits d) (text_counts d) (texts_part d mem)).free
      free = free-held d mem h.free
