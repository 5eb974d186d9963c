-- Parts of the buffer that are shown, or lent to a lower layer and returned.
-- Assumes nothing.
use mathlib.Core.Path.{◌≡◌, sym, ap, subst, ◌∙◌}
use mathlib.Core.Bool.{true}
use mathlib.Core.List.{List, ◌++◌}
use Prim.Native.Nat.{ℕ, ◌+◌, ◌-◌, ◌*◌, ◌≤◌}
use native.Mathlib.Omega.{arith}
use lib.ListN.{length, take, drop}
use lib.Seq.{length-take-le}
use Rattle.words.specs.Parts.{part, put}
use Rattle.words.proofs.Parts.{lent, returned, length_part, part-put-same}
use Rattle.blocks.specs.Arena.{Block, list_of, arena_of}
use Rattle.blocks.specs.Compact.{BlockCopied}
use Rattle.blocks.specs.Held.{Held}
use Rattle.slots.specs.Regions.{slots_words, order_start}
use Rattle.slots.specs.Slots.{taken, taken_words, CanTake}
use Rattle.slots.specs.declared.slot.Taken.{Taken}
use Rattle.texts.specs.declared.TextLimits.{TextLimits}
use Rattle.texts.specs.declared.TextCounts.{TextCounts}
use Rattle.names.specs.declared.NameLimits.{NameLimits}
use Rattle.names.specs.declared.NameCounts.{NameCounts}
use Rattle.model.specs.Kinds.{Which}
use Rattle.layout.specs.declared.Document.{Document}
use Rattle.layout.specs.Layout.{limits_of, entries_of, slots_at, arena_words, arena_at, texts_at, names_at, memory_ok}
use Rattle.layout.proofs.Sizes.{sizes}
use Rattle.memory.specs.Decode.{slots_part, slots_made, slots_free, arena_part, arena_used, arena_in, text_limits, text_counts, texts_part, name_limits, name_counts, names_part}
use Rattle.memory.specs.Writing.{put_slots, put_arena, put_texts, put_names, ArenaCopied}
use Rattle.memory.proofs.Reading.{slots_lent, entries-read}
use Rattle.memory.proofs.Shaped.{length-arena_part}
use Rattle.memory.proofs.Arenas.{arena-lent}
use Rattle.memory.proofs.PoolAndTable.{ends, texts-lent, names-lent}

-- what was cut from start on, and the buffer once it came back
module _ (mem : List ℕ) (start stop at n : ℕ) (e : start ≡ at) (es : stop ≡ start + n) (room : at + n ≤ length mem) (ys : List ℕ) (long : length ys ≡ length (take (stop - start) (drop start mem))) where
  abbrev left : List ℕ
  left = take start mem ++ (ys ++ drop (stop - start) (drop start mem))

  size : length ys ≡ n
  size = long ∙ rw es (ap length (lent mem start n) ∙ length_part mem start n (omega arith))

  left-put : left ≡ put at ys mem
  left-put = rw es (returned mem ys start n size) ∙ ap (λ (p : ℕ). put p ys mem) e

  left-part : part at n left ≡ ys
  left-part =
      ap (part at n) left-put
      ∙ ap (λ (k : ℕ). part at k (put at ys mem)) (sym size)
      ∙ part-put-same mem at ys (omega arith)

module _ (d : Document) (mem : List ℕ) where
  -- ---- the slots

  module _ (start stop : ℕ) (e : start ≡ slots_at) (es : stop ≡ start + slots_words d.limits.nodes) where
    abbrev slots-cut : List ℕ
    slots-cut = take (stop - start) (drop start mem)

    pub slots-asked : (P : List ℕ → Type 0) → P (slots_part d mem) → P slots-cut
    slots-asked P h = subst P (sym (slots_lent d mem start stop e es)) h

    -- f is what the lower layer made of them
    pub slots-told : memory_ok d (length mem) ≡ true → (f : List ℕ → List ℕ) (ys : List ℕ) → length ys ≡ length slots-cut → ys ≡ f slots-cut
        → take start mem ++ (ys ++ drop (stop - start) (drop start mem)) ≡ put_slots (f (slots_part d mem)) mem
    unfolding put_slots
    slots-told ok f ys k q =
        left-put mem start stop slots_at (slots_words d.limits.nodes) e es (omega (arith, (sizes d (length mem) ok).slots)) ys k
        ∙ ap (λ (x : List ℕ). put slots_at x mem) (q ∙ ap f (slots_lent d mem start stop e es))

    pub take-asked : (made free : ℕ) → made ≡ slots_made d → free ≡ slots_free d → CanTake d.limits.nodes (slots_part d mem) (slots_made d) (slots_free d)
        → CanTake d.limits.nodes slots-cut made free
    take-asked made free em ef h = slots-asked (λ w. CanTake d.limits.nodes w made free) (rw (em, ef) h)

    pub take-told : memory_ok d (length mem) ≡ true → (made free : ℕ) → made ≡ slots_made d → free ≡ slots_free d → (t : Taken) (ys : List ℕ) → length ys ≡ length slots-cut
        → (t ≡ taken d.limits.nodes slots-cut made free) × (ys ≡ taken_words d.limits.nodes slots-cut made free)
        → (t ≡ taken d.limits.nodes (slots_part d mem) (slots_made d) (slots_free d))
        × (take start mem ++ (ys ++ drop (stop - start) (drop start mem)) ≡ put_slots (taken_words d.limits.nodes (slots_part d mem) (slots_made d) (slots_free d)) mem)
    take-told ok made free em ef t ys k h =
        let n = d.limits.nodes in (
          h.0 ∙ ap (λ (w : List ℕ). taken n w made free) (slots_lent d mem start stop e es) ∙ rw (em, ef),
          slots-told ok (λ w. taken_words n w made free) ys k h.1 ∙ rw (em, ef),
        )

  pub orders-cut : (made : ℕ) → made ≡ slots_made d
      → take (d.limits.nodes * 14 + made - d.limits.nodes * 14) (drop (d.limits.nodes * 14) mem) ≡ part (order_start d.limits.nodes) (slots_made d) mem
  orders-cut made e = lent mem (d.limits.nodes * 14) made ∙ ap (λ (k : ℕ). part (d.limits.nodes * 14) k mem) e

  -- ---- an arena

  -- the entries of a block
  pub block-lent : (w : Which) (start : ℕ) (b : Block) → start ≡ arena_at (limits_of d.limits) w → b.start + b.len ≤ entries_of d.limits w
      → take (start + b.start + b.len - (start + b.start)) (drop (start + b.start) mem) ≡ list_of (arena_in d w mem) b
  block-lent w start b e h = lent mem (start + b.start) b.len ∙ sym (entries-read d w mem start b.start b.len e h)

  -- the words of an arena, for whoever is handed them
  module _ (w : Which) (words : List ℕ) (limit used : ℕ) (ew : words ≡ arena_part d w mem) (el : limit ≡ entries_of d.limits w) (eu : used ≡ arena_used d w) where
    pub arena-shown : arena_of limit used words ≡ arena_in d w mem
    arena-shown = rw (ew, el, eu)

    pub held-shown : (s n : ℕ) → Held (arena_part d w mem) (entries_of d.limits w) (arena_used d w) s n → Held words limit used s n
    held-shown s n h = rw (ew, el, eu) h

  module _ (ok : memory_ok d (length mem) ≡ true) (w : Which) (start stop : ℕ) (e : start ≡ arena_at (limits_of d.limits) w) (es : stop ≡ start + arena_words (limits_of d.limits) w)
      (ys : List ℕ) (k : length ys ≡ length (take (stop - start) (drop start mem))) where
    arena-back : take start mem ++ (ys ++ drop (stop - start) (drop start mem)) ≡ put_arena d w ys mem
    unfolding put_arena
    arena-back = left-put mem start stop (arena_at (limits_of d.limits) w) (arena_words (limits_of d.limits) w) e es (omega (arith, (sizes d (length mem) ok).arena w)) ys k

    -- f is what the lower layer made of the arena
    pub arena-told : (limit : ℕ) → limit ≡ entries_of d.limits w → (f : ℕ → List ℕ → List ℕ) → ys ≡ f limit (take (stop - start) (drop start mem))
        → take start mem ++ (ys ++ drop (stop - start) (drop start mem)) ≡ put_arena d w (f (entries_of d.limits w) (arena_part d w mem)) mem
    arena-told limit el f q =
        arena-back
        ∙ ap (λ (x : List ℕ). put_arena d w x mem) (q ∙ ap (f limit) (arena-lent d w mem start stop e es) ∙ ap (λ (n : ℕ). f n (arena_part d w mem)) el)

    pub arena-copied : (limit : ℕ) → limit ≡ entries_of d.limits w → (used s n : ℕ) → BlockCopied (take (stop - start) (drop start mem)) ys limit used s n
        → ArenaCopied d mem (take start mem ++ (ys ++ drop (stop - start) (drop start mem))) w used s n
    arena-copied limit el used s n b =
        record {
          words = ys;
          long = k ∙ ap length (arena-lent d w mem start stop e es) ∙ length-arena_part d mem ok w;
          memory = arena-back;
          block = rw (el) at (rw (arena-lent d w mem start stop e es) at b);
        }

  -- ---- the texts

  module _ (limits : TextLimits) (el : limits ≡ text_limits d) (counts : TextCounts) (ec : counts ≡ text_counts d) (start stop : ℕ) (e : start ≡ texts_at (limits_of d.limits)) (es : stop ≡ start + (2 * d.limits.texts + d.limits.textbytes)) where
    abbrev cut : List ℕ
    cut = take (stop - start) (drop start mem)

    -- P is what the lower layer asks of them
    pub texts-asked : (P : TextLimits → TextCounts → List ℕ → Type 0) → P (text_limits d) (text_counts d) (texts_part d mem) → P limits counts cut
    texts-asked P h =
        subst (λ (x : TextLimits). P x counts cut) (sym el)
        (subst (λ (x : TextCounts). P (text_limits d) x cut) (sym ec)
        (subst (λ (x : List ℕ). P (text_limits d) (text_counts d) x) (sym (texts-lent d mem start stop e es)) h))

    -- and P what it tells
    pub texts-told : memory_ok d (length mem) ≡ true → (P : TextLimits → TextCounts → List ℕ → List ℕ → Type 0) (ys : List ℕ) → length ys ≡ length cut → P limits counts cut ys
        → P (text_limits d) (text_counts d) (texts_part d mem) (texts_part d (take start mem ++ (ys ++ drop (stop - start) (drop start mem))))
        × (take start mem ++ (ys ++ drop (stop - start) (drop start mem))
        ≡ put_texts d (texts_part d (take start mem ++ (ys ++ drop (stop - start) (drop start mem)))) mem)
    unfolding put_texts
    texts-told ok P ys k h =
        let at = texts_at (limits_of d.limits) in
        let n = 2 * d.limits.texts + d.limits.textbytes in
        let room : at + n ≤ length mem = (ends d (length mem) ok).texts in
        let there = left-part mem start stop at n e es room ys k in (
          subst (λ (x : List ℕ). P (text_limits d) (text_counts d) (texts_part d mem) x) (sym there)
              (subst (λ (x : TextLimits). P x (text_counts d) (texts_part d mem) ys) el
              (subst (λ (x : TextCounts). P limits x (texts_part d mem) ys) ec
              (subst (λ (x : List ℕ). P limits counts x ys) (texts-lent d mem start stop e es) h))),
          left-put mem start stop at n e es room ys k ∙ ap (λ (x : List ℕ). put at x mem) (sym there),
        )

  -- ---- the names

  module _ (limits : NameLimits) (el : limits ≡ name_limits d) (counts : NameCounts) (ec : counts ≡ name_counts d) (start stop : ℕ) (e : start ≡ names_at (limits_of d.limits)) (es : stop ≡ start + (2 * d.limits.names + d.limits.namebytes)) where
    abbrev names-cut : List ℕ
    names-cut = take (stop - start) (drop start mem)

    pub names-asked : (P : NameLimits → NameCounts → List ℕ → Type 0) → P (name_limits d) (name_counts d) (names_part d mem) → P limits counts names-cut
    names-asked P h =
        subst (λ (x : NameLimits). P x counts names-cut) (sym el)
        (subst (λ (x : NameCounts). P (name_limits d) x names-cut) (sym ec)
        (subst (λ (x : List ℕ). P (name_limits d) (name_counts d) x) (sym (names-lent d mem start stop e es)) h))

    pub names-told : memory_ok d (length mem) ≡ true → (P : NameLimits → NameCounts → List ℕ → List ℕ → Type 0) (ys : List ℕ) → length ys ≡ length names-cut → P limits counts names-cut ys
        → P (name_limits d) (name_counts d) (names_part d mem) (names_part d (take start mem ++ (ys ++ drop (stop - start) (drop start mem))))
        × (take start mem ++ (ys ++ drop (stop - start) (drop start mem))
        ≡ put_names d (names_part d (take start mem ++ (ys ++ drop (stop - start) (drop start mem)))) mem)
    unfolding put_names
    names-told ok P ys k h =
        let at = names_at (limits_of d.limits) in
        let n = 2 * d.limits.names + d.limits.namebytes in
        let room : at + n ≤ length mem = (ends d (length mem) ok).names in
        let there = left-part mem start stop at n e es room ys k in (
          subst (λ (x : List ℕ). P (name_limits d) (name_counts d) (names_part d mem) x) (sym there)
              (subst (λ (x : NameLimits). P x (name_counts d) (names_part d mem) ys) el
              (subst (λ (x : NameCounts). P limits x (names_part d mem) ys) ec
              (subst (λ (x : List ℕ). P limits counts x ys) (names-lent d mem start stop e es) h))),
          left-put mem start stop at n e es room ys k ∙ ap (λ (x : List ℕ). put at x mem) (sym there),
        )

  -- ---- marks in scratch

  pub marks-lent : (scratch : List ℕ) (n : ℕ) → n ≤ length scratch → n ≤ length (take (n - 0) (drop 0 scratch))
  marks-lent scratch n h =
      let z : n - 0 ≡ n = omega arith in
      omega (arith, length-take-le (n - 0) scratch (omega arith))
