-- A turn of `close_gaps`: a text moves down to those kept before it, or is left out.
-- Assumes nothing.
use mathlib.Core.Path.{◌≡◌, refl, sym, ap, ◌∙◌}
use mathlib.Core.Bool.{Bool, true, false, cond}
use mathlib.Core.List.{List, []}
use Prim.Native.Nat.{ℕ, zero, suc, ◌+◌, ◌-◌, ◌≤◌, ◌<◌}
use native.Mathlib.Numerals.{add-one}
use native.Mathlib.Omega.{arith}
use lib.ListN.{length, get_or, set, take}
use lib.Dec.{eqb}
use Rattle.words.specs.Parts.{part, put}
use Rattle.words.specs.Lists.{tabulate}
use Rattle.words.specs.Pieces.{pieces}
use Rattle.words.specs.Ends.{start_of, length_of, lengths_of}
use Rattle.words.proofs.Parts.{part_none, length_part}
use Rattle.words.proofs.Lists.{length-tabulate}
use Rattle.words.proofs.Joined.{length-joined-snoc}
use Rattle.texts.specs.Pool.{bytes_of}
use Rattle.texts.specs.Words.{bytes_at, pool_of, Counted, kept_text, laid}
use Rattle.texts.specs.declared.TextLimits.{TextLimits}
use Rattle.texts.specs.declared.TextCounts.{TextCounts}
use Rattle.texts.proofs.Words.{text-rises, text-within, text-end, pool-text}
use Rattle.releasing.proofs.Laid.{size-laid, laid_table, laid-behind, laid_next, laid_none}

-- so many texts are done: those kept so far are laid, and the rest of the words is as it was
pub record Closing (words₀ marks : List ℕ) (n base : ℕ) (words : List ℕ) (slot from to : ℕ) : Type 0 where
  pub reached : slot ≤ n
  pub start : from ≡ start_of words₀ slot
  pub end : to ≡ length (bytes_of (tabulate (kept_text marks (pieces base (lengths_of (take n words₀)) words₀)) slot))
  pub lower : to ≤ from
  pub now : words ≡ laid base (tabulate (kept_text marks (pieces base (lengths_of (take n words₀)) words₀)) slot) words₀

start_first : (words : List ℕ) → start_of words 0 ≡ 0
unfolding start_of
start_first words = refl

start-next : (words : List ℕ) (slot : ℕ) → start_of words (suc slot) ≡ get_or words slot 0
unfolding start_of
start-next words slot = refl

pub closing-first : (words marks : List ℕ) (n base : ℕ) → Closing words marks n base words 0 0 0
closing-first words marks n base = record { reached = omega arith; start = sym (start_first words); end = refl; lower = omega arith; now = sym (laid_none base words) }

module _ (limits : TextLimits) (counts : TextCounts) (words₀ : List ℕ) (h : Counted limits counts words₀) (marks words : List ℕ) (slot from to : ℕ)
    (C : Closing words₀ marks counts.slots (bytes_at limits) words slot from to) where
  abbrev kept : ℕ → List ℕ
  kept = kept_text marks (pieces (bytes_at limits) (lengths_of (take counts.slots words₀)) words₀)

  size-kept : length (tabulate kept slot) ≡ slot
  size-kept = length-tabulate kept slot

  pub from-used : from ≤ counts.bytes
  from-used = omega (arith, C.start, go slot C.reached)
    where
      go : (s : ℕ) → s ≤ counts.slots → start_of words₀ s ≤ counts.bytes
      go zero b = omega (arith, start_first words₀)
      go (suc s) b = omega (arith, start-next words₀ s, text-within limits counts words₀ h s b)

  few : length (tabulate kept slot) ≤ bytes_at limits
  few = omega (arith, size-kept, C.reached, h.slots)

  fit : bytes_at limits + length (bytes_of (tabulate kept slot)) ≤ length words₀
  fit = omega (arith, from-used, C.lower, C.end, h.bytes, h.size)

  pub size-closing : length words ≡ length words₀
  size-closing = ap length C.now ∙ size-laid (bytes_at limits) words₀ (tabulate kept slot) few fit

  -- one more text
  module _ (m : slot < counts.slots) where
    end_same : get_or words slot 0 ≡ get_or words₀ slot 0
    end_same =
        ap (λ (l : List ℕ). get_or l slot 0) C.now
        ∙ laid_table (bytes_at limits) words₀ (tabulate kept slot) few fit slot (omega (arith, size-kept)) (omega (arith, h.slots))

    pub end-above : from ≤ get_or words slot 0
    end-above = omega (arith, C.start, end_same, text-rises limits counts words₀ h slot m)

    pub end-used : get_or words slot 0 ≤ counts.bytes
    end-used = omega (arith, end_same, text-within limits counts words₀ h slot m)

    length-same : get_or words slot 0 - from ≡ length_of words₀ slot
    length-same = omega (arith, C.start, end_same, text-end limits counts words₀ h slot m)

    text-is : part (bytes_at limits + from) (get_or words slot 0 - from) words ≡ get_or (pieces (bytes_at limits) (lengths_of (take counts.slots words₀)) words₀) slot []
    unfolding pool_of
    text-is =
        ap (λ (k : ℕ). part (bytes_at limits + from) k words) length-same
        ∙ ap (part (bytes_at limits + from) (length_of words₀ slot)) C.now
        ∙ laid-behind (bytes_at limits) words₀ (tabulate kept slot) few fit from (length_of words₀ slot) (omega (arith, C.end, C.lower))
        ∙ ap (λ (k : ℕ). part (bytes_at limits + k) (length_of words₀ slot) words₀) C.start
        ∙ sym (pool-text limits counts words₀ h slot m)

    module _ (len : ℕ) (e : len ≡ cond (eqb (get_or marks slot 0) 0) (get_or words slot 0 - from) 0) where
      pub kept-most : len ≤ get_or words slot 0 - from
      kept-most = go (eqb (get_or marks slot 0) 0) e
        where
          go : (t : Bool) → len ≡ cond t (get_or words slot 0 - from) 0 → len ≤ get_or words slot 0 - from
          go true q = omega arith
          go false q = omega arith

      kept-bytes : part (bytes_at limits + from) len words ≡ kept slot
      kept-bytes = go (eqb (get_or marks slot 0) 0) e
        where
          go : (t : Bool) → len ≡ cond t (get_or words slot 0 - from) 0
              → part (bytes_at limits + from) len words ≡ cond t (get_or (pieces (bytes_at limits) (lengths_of (take counts.slots words₀)) words₀) slot []) []
          go true q = ap (λ (k : ℕ). part (bytes_at limits + from) k words) q ∙ text-is
          go false q = ap (λ (k : ℕ). part (bytes_at limits + from) k words) q ∙ part_none words (bytes_at limits + from)

      pub kept-inside : bytes_at limits + from + len ≤ length words
      kept-inside = omega (arith, kept-most, end-above, end-used, size-closing, h.size, h.bytes)

      kept-length : len ≡ length (kept slot)
      kept-length = sym (ap length (sym kept-bytes) ∙ length_part words (bytes_at limits + from) len kept-inside)

      pub closing-next : (moved : List ℕ) → moved ≡ put (bytes_at limits + to) (part (bytes_at limits + from) len words) words
          → Closing words₀ marks counts.slots (bytes_at limits) (set moved slot (to + len)) (slot + 1) (get_or words slot 0) (to + len)
      closing-next moved q =
          record {
            reached = omega arith;
            start = end_same ∙ sym (start-next words₀ slot) ∙ ap (start_of words₀) (sym (add-one slot));
            end = omega (arith, C.end, kept-length, length-joined-snoc (λ t. t) (tabulate kept slot) (kept slot), ap (λ (k : ℕ). length (bytes_of (tabulate kept k))) (add-one slot));
            lower = omega (arith, C.lower, kept-most, end-above);
            now =
                ap (λ (l : List ℕ). set l slot (to + len)) (q ∙ ap (λ (l : List ℕ). put (bytes_at limits + to) l words) kept-bytes)
                ∙ ap (λ (l : List ℕ). set (put (bytes_at limits + to) (kept slot) l) slot (to + len)) C.now
                ∙ ap (λ (k : ℕ). set (put (bytes_at limits + k) (kept slot) (laid (bytes_at limits) (tabulate kept slot) words₀)) slot (to + len)) C.end
                ∙ ap (λ (k : ℕ). set (put (bytes_at limits + length (bytes_of (tabulate kept slot))) (kept slot) (laid (bytes_at limits) (tabulate kept slot) words₀)) k (to + len)) (sym size-kept)
                ∙ laid_next (bytes_at limits) words₀ (tabulate kept slot) few fit (kept slot) (to + len) (omega (arith, C.end, kept-length)) (omega (arith, size-kept, h.slots))
                ∙ ap (λ (k : ℕ). laid (bytes_at limits) (tabulate kept k) words₀) (sym (add-one slot));
          }

  -- all
  pub closed : counts.slots ≤ slot
      → (words ≡ laid (bytes_at limits) (tabulate (kept_text marks (pool_of limits counts words₀).texts) counts.slots) words₀)
      × ((to ≡ length (bytes_of (tabulate (kept_text marks (pool_of limits counts words₀).texts) counts.slots))) × (to ≤ counts.bytes))
  unfolding pool_of
  closed b =
      let e : slot ≡ counts.slots = omega (arith, C.reached) in (
        C.now ∙ ap (λ (k : ℕ). laid (bytes_at limits) (tabulate kept k) words₀) e,
        (C.end ∙ ap (λ (k : ℕ). length (bytes_of (tabulate kept k))) e, omega (arith, C.lower, from-used)),
      )
