-- The parts of the buffer after the words of the slots, or of an arena, were replaced; and the document then.
-- Assumes nothing.
use Rattle.std.specs.Prelude.{Option}
use mathlib.Core.Path.{◌≡◌, refl, sym, ap, ◌∙◌}
use mathlib.Core.Logic.{⊎_elim}
use mathlib.Core.Bool.{Bool, true, false, cond, false≢true}
use mathlib.Core.List.{List}
use Prim.Native.Nat.{ℕ, ◌+◌, ◌*◌, ◌≤◌}
use native.Mathlib.Omega.{arith}
use lib.ListN.{length}
use Rattle.words.specs.Parts.{part, put}
use Rattle.words.proofs.Parts.{length-put, part-put-same, part-put-before, part-put-after}
use Rattle.texts.specs.Pool.{Pool}
use Rattle.names.specs.Table.{Name}
use Rattle.model.specs.Kinds.{Which, children, attributes, namespaces, same_which}
use Rattle.model.specs.Edits.{update_which}
use Rattle.layout.specs.declared.Counts.{Counts}
use Rattle.layout.specs.declared.Document.{Document}
use Rattle.layout.specs.Layout.{limits_of, entries_of, arena_at, memory_ok}
use Rattle.memory.specs.Decode.{slots_part, arena_part, document_of, decode_with}
use Rattle.memory.specs.Writing.{put_slots, put_arena}
use Rattle.layout.specs.Record.{record_with}
use Rattle.layout.proofs.Sizes.{sizes, arena-behind-slots, arenas-apart}

pub same_which-true : (v w : Which) → same_which v w ≡ true → v ≡ w
same_which-true children children e = refl
same_which-true children attributes e = absurd (false≢true e)
same_which-true children namespaces e = absurd (false≢true e)
same_which-true attributes children e = absurd (false≢true e)
same_which-true attributes attributes e = refl
same_which-true attributes namespaces e = absurd (false≢true e)
same_which-true namespaces children e = absurd (false≢true e)
same_which-true namespaces attributes e = absurd (false≢true e)
same_which-true namespaces namespaces e = refl

pub same_which-refl : (w : Which) → same_which w w ≡ true
same_which-refl children = refl
same_which-refl attributes = refl
same_which-refl namespaces = refl

-- a family of three that was changed at one place
pub update-is : {A : Type 0} (f g : Which → A) (w : Which) (x : A) → g w ≡ x → ((v : Which) → same_which v w ≡ false → g v ≡ f v) → (v : Which) → g v ≡ update_which f w x v
update-is f g w x here other v = go (same_which v w) refl
  where
    go : (t : Bool) → same_which v w ≡ t → g v ≡ cond t x (f v)
    go true e = ap g (same_which-true v w e) ∙ here
    go false e = other v e

module _ (d : Document) (mem words : List ℕ) (ok : memory_ok d (length mem) ≡ true) where
  -- ---- the words of the slots replaced
  module _ (size : length words ≡ 15 * d.limits.nodes) where
    pub length-put_slots : length (put_slots words mem) ≡ length mem
    unfolding put_slots
    length-put_slots =
        let z = sizes d (length mem) ok in
        length-put mem 0 words (omega arith)

    pub slots_part-put_slots : slots_part d (put_slots words mem) ≡ words
    unfolding put_slots
    slots_part-put_slots = ap (λ (k : ℕ). part 0 k (put 0 words mem)) (sym size) ∙ part-put-same mem 0 words (omega arith)

    pub arena_part-put_slots : (a : Which) → arena_part d a (put_slots words mem) ≡ arena_part d a mem
    unfolding put_slots
    arena_part-put_slots a =
        let l = limits_of d.limits in
        part-put-after mem 0 words (arena_at l a) (2 * entries_of d.limits a) (omega (arith, arena-behind-slots l a)) (omega arith)

    -- the document is that of the new words, whatever the counts are then
    pub decode-put_slots : (p : Pool) (names : List (Option Name)) (lengths : Bool) (counts : Counts) (current : Bool)
        → decode_with p names lengths (record_with d counts current) (put_slots words mem)
        ≡ document_of p names lengths (record_with d counts current) words (λ a. arena_part d a mem)
    decode-put_slots p names lengths counts current =
        λ i. document_of p names lengths (record_with d counts current) (slots_part-put_slots i) (λ a. arena_part-put_slots a i)

  -- ---- the words of an arena replaced
  module _ (w : Which) (size : length words ≡ entries_of d.limits w + entries_of d.limits w) where
    abbrev start : ℕ
    start = arena_at (limits_of d.limits) w

    inside : start + length words ≤ length mem
    inside =
        let z = sizes d (length mem) ok in
        omega (arith, z.arena w)

    pub length-put_arena : length (put_arena d w words mem) ≡ length mem
    unfolding put_arena
    length-put_arena = length-put mem start words inside

    pub slots_part-put_arena : slots_part d (put_arena d w words mem) ≡ slots_part d mem
    unfolding put_arena
    slots_part-put_arena =
        part-put-before mem start words 0 (15 * d.limits.nodes) (omega (arith, arena-behind-slots (limits_of d.limits) w)) (omega (arith, inside))

    pub arena_part-put_arena : arena_part d w (put_arena d w words mem) ≡ words
    unfolding put_arena
    arena_part-put_arena =
        let e : 2 * entries_of d.limits w ≡ length words = omega arith in
        ap (λ (k : ℕ). part start k (put start words mem)) e ∙ part-put-same mem start words (omega (arith, inside))

    pub arena_part-put_arena-other : (v : Which) → same_which v w ≡ false → arena_part d v (put_arena d w words mem) ≡ arena_part d v mem
    unfolding put_arena
    arena_part-put_arena-other v ne =
        let l = limits_of d.limits in
        ⊎_elim
        (λ h. part-put-before mem start words (arena_at l v) (2 * entries_of d.limits v) h (omega (arith, inside)))
        (λ h. part-put-after mem start words (arena_at l v) (2 * entries_of d.limits v) (omega arith) (omega (arith, inside)))
        (arenas-apart l v w ne)

    pub arena_parts-put_arena : (v : Which) → arena_part d v (put_arena d w words mem) ≡ update_which (λ a. arena_part d a mem) w words v
    arena_parts-put_arena = update-is (λ a. arena_part d a mem) (λ a. arena_part d a (put_arena d w words mem)) w words arena_part-put_arena arena_part-put_arena-other

    pub decode-put_arena : (p : Pool) (names : List (Option Name)) (lengths : Bool) (counts : Counts) (current : Bool)
        → decode_with p names lengths (record_with d counts current) (put_arena d w words mem)
        ≡ document_of p names lengths (record_with d counts current) (slots_part d mem) (update_which (λ a. arena_part d a mem) w words)
    decode-put_arena p names lengths counts current =
        λ i. document_of p names lengths (record_with d counts current) (slots_part-put_arena i) (λ a. arena_parts-put_arena a i)

-- a buffer as long as before passes test 4 as before
pub memory_kept : (d : Document) (mem mem' : List ℕ) → length mem' ≡ length mem → memory_ok d (length mem) ≡ true → memory_ok d (length mem') ≡ true
memory_kept d mem mem' e ok = ap (memory_ok d) e ∙ ok
