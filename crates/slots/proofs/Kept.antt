-- Rule 2 over the words: what it gives the functions that take and free a slot, and that they keep it.
-- Assumes nothing.
use Rattle.std.proofs.Common.{◌≡◌, ℕ, ◌+◌, ◌-◌, ◌%◌, ◌<◌, ◌≤◌, true, List, [], ◌∷◌, ◌++◌, length, get_or, set, sym, ap, ◌∙◌, arith}
use Rattle.words.proofs.Parts.{part_none}
use Rattle.slots.specs.declared.slot.Taken.{Taken}
use Rattle.slots.specs.Regions.{slots_words, generation_at, free_at, put_generation, put_order, no_position}
use Rattle.slots.specs.FreeRule.{generations, free_stack, FreeRule}
use Rattle.slots.specs.Slots.{up, has_slot, taken_words, CanTake, freed_words}
use Rattle.slots.proofs.Regions.{length-put_generation}
use Rattle.slots.proofs.FreeStack.{rule-freed, rule-reused, rule-made, rule-room}
use Rattle.slots.proofs.Stacks.{get_or-generations, get_or-free_stack, length-generations, length-free_stack, free_stack-next, generations-put_generation, free_stack-put_generation, generations-made, free_stack-put_free, generations-put_free, generations-put_order, free_stack-put_order, taken_words-put, taken-reused, taken-new, freed_words-put}

module _ (n : ℕ) (w : List ℕ) (made free : ℕ) (long : slots_words n ≤ length w) (mb : made ≤ n) (fb : free ≤ n) (r : FreeRule (generations n w made) (free_stack n w free)) where
  -- an entry of the free stack is a slot made
  pub rule-entry : (i : ℕ) → i < free → free_at n w i < made
  rule-entry i b =
      let q = r.inside i (omega (arith, length-free_stack n w long free fb)) in
      omega (arith, get_or-free_stack n w free i b, length-generations n w long made mb)

  pub can-take : n ≤ 4294967296 → has_slot n made free ≡ true → ((s : ℕ) → s < made → generation_at n w s < 4294967296) → CanTake n w made free
  can-take narrow h g = record { long = long; narrow = narrow; made-slots = mb; free-slots = fb; slot = h; rule-2 = rule-entry; rule-1 = g }

  -- ---- a live slot is freed
  module _ (s : ℕ) (b : s < made) (even : generation_at n w s % 2 ≡ 0) where
    at : get_or (generations n w made) s 0 ≡ generation_at n w s
    at = get_or-generations n w made s b

    pub freed-room : free < made
    freed-room =
        omega (
          arith,
          rule-room (generations n w made) (free_stack n w free) r s (omega (arith, length-generations n w long made mb)) (ap (λ (g : ℕ). g % 2) at ∙ even),
          length-generations n w long made mb,
          length-free_stack n w long free fb,
        )

    abbrev raised : List ℕ
    raised = put_generation n w s (up (generation_at n w s))

    pub freed-generations : generations n (freed_words n w free s) made ≡ set (generations n w made) s (up (generation_at n w s))
    freed-generations =
        let k : free < n = omega (arith, freed-room) in
        let lv : slots_words n ≤ length raised = rw (length-put_generation n w s (up (generation_at n w s))) long in
        ap (λ (v : List ℕ). generations n v made) (freed_words-put n w free s)
        ∙ generations-put_free n raised lv free s k made mb
        ∙ generations-put_generation n w long s (up (generation_at n w s)) (omega arith) made mb b

    pub freed-stack : free_stack n (freed_words n w free s) (free + 1) ≡ free_stack n w free ++ (s ∷ [])
    freed-stack =
        let k : free < n = omega (arith, freed-room) in
        let lv : slots_words n ≤ length raised = rw (length-put_generation n w s (up (generation_at n w s))) long in
        ap (λ (v : List ℕ). free_stack n v (free + 1)) (freed_words-put n w free s)
        ∙ free_stack-put_free n raised lv free s k
        ∙ ap (λ (l : List ℕ). l ++ (s ∷ [])) (free_stack-put_generation n w long s (up (generation_at n w s)) (omega arith) free fb)

    pub freed-rule : FreeRule (generations n (freed_words n w free s) made) (free_stack n (freed_words n w free s) (free + 1))
    freed-rule =
        rw (freed-generations, freed-stack)
        (rw at at (rule-freed (generations n w made) (free_stack n w free) s (omega (arith, length-generations n w long made mb)) r (ap (λ (g : ℕ). g % 2) at ∙ even)))

  -- ---- a slot is reused
  module _ (b : 0 < free) where
    abbrev top : ℕ
    top = free_at n w (free - 1)

    stack : free_stack n w free ≡ free_stack n w (free - 1) ++ (top ∷ [])
    stack =
        let e : free ≡ free - 1 + 1 = omega arith in
        ap (free_stack n w) e ∙ free_stack-next n w long (free - 1) (omega arith)

    pub reused-slot : top < made
    reused-slot = rule-entry (free - 1) (omega arith)

    abbrev renewed : List ℕ
    renewed = put_generation n w top (up (generation_at n w top))

    long-renewed : slots_words n ≤ length renewed
    long-renewed = rw (length-put_generation n w top (up (generation_at n w top))) long

    reused-words : taken_words n w made free ≡ put_order n renewed top no_position
    reused-words = taken_words-put n w made free ∙ ap (λ (t : Taken). put_order n (put_generation n w t.id.index t.id.generation) t.id.index no_position) (taken-reused n w made free b)

    pub reused-generations : generations n (taken_words n w made free) made ≡ set (generations n w made) top (up (generation_at n w top))
    reused-generations =
        let k : top < made = reused-slot in
        ap (λ (v : List ℕ). generations n v made) reused-words
        ∙ generations-put_order n renewed long-renewed top no_position (omega arith) made mb
        ∙ generations-put_generation n w long top (up (generation_at n w top)) (omega arith) made mb k

    pub reused-stack : free_stack n (taken_words n w made free) (free - 1) ≡ free_stack n w (free - 1)
    reused-stack =
        let k : top < made = reused-slot in
        ap (λ (v : List ℕ). free_stack n v (free - 1)) reused-words
        ∙ free_stack-put_order n renewed long-renewed top no_position (omega arith) (free - 1) (omega arith)
        ∙ free_stack-put_generation n w long top (up (generation_at n w top)) (omega arith) (free - 1) (omega arith)

    pub reused-rule : FreeRule (generations n (taken_words n w made free) made) (free_stack n (taken_words n w made free) (free - 1))
    reused-rule =
        let k : top < made = reused-slot in
        rw (reused-generations, reused-stack)
        (rw (get_or-generations n w made top k) at (rule-reused (generations n w made) (free_stack n w (free - 1)) top (omega (arith, length-generations n w long made mb)) (rw stack at r)))

  -- ---- a slot is made
  module _ (e : free ≡ 0) (b : made < n) where
    made-words : taken_words n w made free ≡ put_order n (put_generation n w made 0) made no_position
    made-words = taken_words-put n w made free ∙ ap (λ (t : Taken). put_order n (put_generation n w t.id.index t.id.generation) t.id.index no_position) (taken-new n w made free e)

    pub made-generations : generations n (taken_words n w made free) (made + 1) ≡ generations n w made ++ (0 ∷ [])
    made-generations =
        ap (λ (v : List ℕ). generations n v (made + 1)) made-words
        ∙ generations-put_order n (put_generation n w made 0) (rw (length-put_generation n w made 0) long) made no_position b (made + 1) (omega arith)
        ∙ generations-made n w long made b 0

    pub made-stack : free_stack n (taken_words n w made free) 0 ≡ free_stack n w free
    made-stack = part_none (taken_words n w made free) n ∙ sym (ap (free_stack n w) e ∙ part_none w n)

    pub made-rule : FreeRule (generations n (taken_words n w made free) (made + 1)) (free_stack n (taken_words n w made free) 0)
    made-rule = rw (made-generations, made-stack) (rule-made (generations n w made) (free_stack n w free) r)
