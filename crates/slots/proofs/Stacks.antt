-- The generations and the free stack as lists, after each writer, and after a slot is taken or freed.
-- Assumes nothing.
use Rattle.std.proofs.Common.{◌≡◌, ℕ, ◌+◌, ◌-◌, ◌<◌, ◌≤◌, List, [], ◌∷◌, ◌++◌, length, get_or, set, sym, refl, ap, ◌∙◌, add-one, arith, length-set, get_or-set_other, get_or-set_same, ext_get_or, lt-ltb}
use native.Mathlib.Decide.{ℕ_discrete}
use Rattle.words.specs.Parts.{part}
use Rattle.words.specs.Lists.{tabulate}
use Rattle.words.proofs.Parts.{length_part, get_or-part, part-snoc}
use Rattle.words.proofs.Lists.{length-tabulate, get_or-tabulate}
use Rattle.slots.specs.Regions.{slots_words, generation_at, free_at, put_generation, put_free, put_order, no_position}
use Rattle.slots.specs.FreeRule.{generations, free_stack}
use Rattle.slots.specs.Slots.{up, taken, taken_generations, taken_words, freed_words}
use Rattle.slots.proofs.Regions.{length-put_generation, length-put_free, generation_at-put_generation, generation_at-put_generation-other, free_at-put_generation, free_at-put_free, free_at-put_free-other, generation_at-put_free, length-put_order, generation_at-put_order, free_at-put_order}

module _ (n : ℕ) (w : List ℕ) where
  pub get_or-generations : (made s : ℕ) → s < made → get_or (generations n w made) s 0 ≡ generation_at n w s
  unfolding generation_at
  get_or-generations made s b = get_or-part w 0 made s 0 b ∙ ap (λ (i : ℕ). get_or w i 0) (omega arith)

  pub get_or-free_stack : (free i : ℕ) → i < free → get_or (free_stack n w free) i 0 ≡ free_at n w i
  unfolding free_at
  get_or-free_stack free i b = get_or-part w n free i 0 b

  module _ (long : slots_words n ≤ length w) where
    pub length-generations : (made : ℕ) → made ≤ n → length (generations n w made) ≡ made
    length-generations made b = length_part w 0 made (omega arith)

    pub length-free_stack : (free : ℕ) → free ≤ n → length (free_stack n w free) ≡ free
    length-free_stack free b = length_part w n free (omega arith)

    -- as lists of what the readers find
    pub generations-tabulate : (made : ℕ) → made ≤ n → generations n w made ≡ tabulate (generation_at n w) made
    generations-tabulate made b =
        ext_get_or 0 (generations n w made) (tabulate (generation_at n w) made) (length-generations made b ∙ sym (length-tabulate (generation_at n w) made))
        (λ s k.
        let j : s < made = omega (arith, length-generations made b) in
        get_or-generations made s j ∙ sym (get_or-tabulate (generation_at n w) made s 0 j))

    pub free_stack-tabulate : (free : ℕ) → free ≤ n → free_stack n w free ≡ tabulate (free_at n w) free
    free_stack-tabulate free b =
        ext_get_or 0 (free_stack n w free) (tabulate (free_at n w) free) (length-free_stack free b ∙ sym (length-tabulate (free_at n w) free))
        (λ i k.
        let j : i < free = omega (arith, length-free_stack free b) in
        get_or-free_stack free i j ∙ sym (get_or-tabulate (free_at n w) free i 0 j))

    -- one slot more, and one entry more
    pub generations-next : (made : ℕ) → made < n → generations n w (made + 1) ≡ generations n w made ++ (generation_at n w made ∷ [])
    unfolding generation_at
    generations-next made b =
        let z : 0 + made ≡ made = omega arith in
        ap (λ (i : ℕ). part 0 i w) (add-one made) ∙ part-snoc w 0 made 0 (omega arith) ∙ ap (λ (i : ℕ). part 0 made w ++ (get_or w i 0 ∷ [])) z

    pub free_stack-next : (free : ℕ) → free < n → free_stack n w (free + 1) ≡ free_stack n w free ++ (free_at n w free ∷ [])
    unfolding free_at
    free_stack-next free b = rw (add-one free) (part-snoc w n free 0 (omega arith))

-- two parts with equal words
module _ (n : ℕ) (v w : List ℕ) (lv : slots_words n ≤ length v) (lw : slots_words n ≤ length w) where
  pub generations-same : (made : ℕ) → made ≤ n → ((s : ℕ) → s < made → generation_at n v s ≡ generation_at n w s) → generations n v made ≡ generations n w made
  generations-same made b h =
      ext_get_or 0 (generations n v made) (generations n w made) (length-generations n v lv made b ∙ sym (length-generations n w lw made b))
      (λ s k.
      let j : s < made = omega (arith, length-generations n v lv made b) in
      get_or-generations n v made s j ∙ h s j ∙ sym (get_or-generations n w made s j))

  pub free_stack-same : (free : ℕ) → free ≤ n → ((i : ℕ) → i < free → free_at n v i ≡ free_at n w i) → free_stack n v free ≡ free_stack n w free
  free_stack-same free b h =
      ext_get_or 0 (free_stack n v free) (free_stack n w free) (length-free_stack n v lv free b ∙ sym (length-free_stack n w lw free b))
      (λ i k.
      let j : i < free = omega (arith, length-free_stack n v lv free b) in
      get_or-free_stack n v free i j ∙ h i j ∙ sym (get_or-free_stack n w free i j))

module _ (n : ℕ) (w : List ℕ) (long : slots_words n ≤ length w) where
  -- ---- after a generation was written
  module _ (s g : ℕ) (b : s < n) where
    written : slots_words n ≤ length (put_generation n w s g)
    written = rw (length-put_generation n w s g) long

    pub generations-put_generation : (made : ℕ) → made ≤ n → s < made → generations n (put_generation n w s g) made ≡ set (generations n w made) s g
    generations-put_generation made m k =
        let lw = length-generations n w long made m in
        ext_get_or 0 (generations n (put_generation n w s g) made) (set (generations n w made) s g)
        (length-generations n (put_generation n w s g) written made m ∙ sym (length-set (generations n w made) s g ∙ lw))
        (λ t h.
        let j : t < made = omega (arith, length-generations n (put_generation n w s g) written made m) in
        get_or-generations n (put_generation n w s g) made t j ∙ at t j (ℕ_discrete t s))
      where
        at : (t : ℕ) → t < made → Dec (t ≡ s) → generation_at n (put_generation n w s g) t ≡ get_or (set (generations n w made) s g) t 0
        at t j (yes e) =
            ap (generation_at n (put_generation n w s g)) e ∙ generation_at-put_generation n w long s g b
            ∙ sym (ap (λ (i : ℕ). get_or (set (generations n w made) s g) i 0) e ∙ get_or-set_same (generations n w made) s g 0 (omega (arith, length-generations n w long made m)))
        at t j (no ne) =
            generation_at-put_generation-other n w long s g b t ne
            ∙ sym (get_or-set_other (generations n w made) s t g 0 ne ∙ get_or-generations n w made t j)

    pub free_stack-put_generation : (free : ℕ) → free ≤ n → free_stack n (put_generation n w s g) free ≡ free_stack n w free
    free_stack-put_generation free k = free_stack-same n (put_generation n w s g) w written long free k (λ i h. free_at-put_generation n w long s g b i)

  -- a new slot's
  pub generations-made : (made : ℕ) → made < n → (g : ℕ) → generations n (put_generation n w made g) (made + 1) ≡ generations n w made ++ (g ∷ [])
  generations-made made b g =
      let v = put_generation n w made g in
      let lv : slots_words n ≤ length v = rw (length-put_generation n w made g) long in
      generations-next n v lv made b
      ∙ ap (λ (l : List ℕ). l ++ (generation_at n v made ∷ [])) (generations-same n v w lv long made (omega arith) (λ s h. generation_at-put_generation-other n w long made g b s (λ e. omega arith)))
      ∙ ap (λ (k : ℕ). generations n w made ++ (k ∷ [])) (generation_at-put_generation n w long made g b)

  -- ---- after an order word was written
  module _ (s key : ℕ) (b : s < n) where
    ordered : slots_words n ≤ length (put_order n w s key)
    ordered = rw (length-put_order n w s key) long

    pub generations-put_order : (made : ℕ) → made ≤ n → generations n (put_order n w s key) made ≡ generations n w made
    generations-put_order made k = generations-same n (put_order n w s key) w ordered long made k (λ t h. generation_at-put_order n w long s key b t (omega arith))

    pub free_stack-put_order : (free : ℕ) → free ≤ n → free_stack n (put_order n w s key) free ≡ free_stack n w free
    free_stack-put_order free k = free_stack-same n (put_order n w s key) w ordered long free k (λ i h. free_at-put_order n w long s key b i (omega arith))

  -- ---- after a slot was pushed
  module _ (free s : ℕ) (b : free < n) where
    pushed : slots_words n ≤ length (put_free n w free s)
    pushed = rw (length-put_free n w free s) long

    pub free_stack-put_free : free_stack n (put_free n w free s) (free + 1) ≡ free_stack n w free ++ (s ∷ [])
    free_stack-put_free =
        free_stack-next n (put_free n w free s) pushed free b
        ∙ ap (λ (l : List ℕ). l ++ (free_at n (put_free n w free s) free ∷ [])) (free_stack-same n (put_free n w free s) w pushed long free (omega arith) (λ i h. free_at-put_free-other n w long free s b i (λ e. omega arith)))
        ∙ ap (λ (k : ℕ). free_stack n w free ++ (k ∷ [])) (free_at-put_free n w long free s b)

    pub generations-put_free : (made : ℕ) → made ≤ n → generations n (put_free n w free s) made ≡ generations n w made
    generations-put_free made k = generations-same n (put_free n w free s) w pushed long made k (λ t h. generation_at-put_free n w long free s b t (omega arith))

-- ---- what is taken, and what the words are then

module _ (n : ℕ) (w : List ℕ) (made free : ℕ) where
  -- the words after are those with the generation of the handle that was made, and no position
  pub taken_words-put : taken_words n w made free
      ≡ put_order n (put_generation n w (taken n w made free).id.index (taken n w made free).id.generation) (taken n w made free).id.index no_position
  unfolding taken taken_generations taken_words
  taken_words-put = refl

  pub taken-reused : 0 < free
      → taken n w made free ≡ record { id = record { index = free_at n w (free - 1); generation = up (generation_at n w (free_at n w (free - 1))) }; made = made; free = free - 1 }
  unfolding taken
  taken-reused b = rw (lt-ltb 0 free b)

  pub taken-new : free ≡ 0 → taken n w made free ≡ record { id = record { index = made; generation = 0 }; made = made + 1; free = 0 }
  unfolding taken
  taken-new e = rw e

pub freed_words-put : (n : ℕ) (w : List ℕ) (free s : ℕ) → freed_words n w free s ≡ put_free n (put_generation n w s (up (generation_at n w s))) free s
unfolding freed_words
freed_words-put n w free s = refl
