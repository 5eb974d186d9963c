-- The order words, as a part of the memory.
-- Assumes nothing.
use mathlib.Core.Path.{◌≡◌, sym, ap, ◌∙◌}
use mathlib.Core.Bool.{true}
use mathlib.Core.List.{List}
use Prim.Native.Nat.{ℕ, ◌+◌, ◌*◌, ◌≤◌, ◌<◌}
use native.Mathlib.Omega.{arith}
use lib.ListN.{length, get_or, take}
use lib.Seq.{ext_get_or, get_or-take, length-take-le}
use Rattle.words.specs.Parts.{part}
use Rattle.words.specs.Lists.{tabulate}
use Rattle.words.proofs.Parts.{length_part, get_or-part}
use Rattle.words.proofs.Lists.{length-tabulate, get_or-tabulate}
use Rattle.slots.specs.Regions.{order_start, order_at}
use Rattle.layout.specs.declared.Document.{Document}
use Rattle.layout.specs.Layout.{memory_ok}
use Rattle.memory.specs.Decode.{slots_part, slots_made, pool_in, names_in, lengths_add, decode}
use Rattle.layout.proofs.Sizes.{sizes}
use Rattle.memory.proofs.Columns.{length-gens}
use Rattle.reading.specs.Answers.{order_shown}

-- fewer of the same
tabulate-take : {A : Type 0} (f : ℕ → A) (k n : ℕ) (d : A) → k ≤ n → tabulate f k ≡ take k (tabulate f n)
tabulate-take f k n d h =
    let size : length (take k (tabulate f n)) ≡ k = length-take-le k (tabulate f n) (omega (arith, length-tabulate f n)) in
    ext_get_or d (tabulate f k) (take k (tabulate f n)) (length-tabulate f k ∙ sym size)
    (λ i b.
    let j : i < k = omega (arith, length-tabulate f k) in
    get_or-tabulate f k i d j ∙ sym (get_or-take k (tabulate f n) i d j ∙ get_or-tabulate f n i d (omega arith)))

module _ (d : Document) (mem : List ℕ) where
  abbrev n : ℕ
  n = d.limits.nodes

  -- the first of them lie one behind the other in the buffer
  words-there : (k : ℕ) → k ≤ d.limits.nodes → 15 * d.limits.nodes ≤ length mem
      → tabulate (order_at d.limits.nodes (slots_part d mem)) k ≡ part (order_start d.limits.nodes) k mem
  unfolding order_at
  words-there k h long =
      let size : length (part (n * 14) k mem) ≡ k = length_part mem (n * 14) k (omega arith) in
      ext_get_or 0 (tabulate (order_at n (slots_part d mem)) k) (part (n * 14) k mem) (length-tabulate (order_at n (slots_part d mem)) k ∙ sym size)
      (λ i b.
      let j : i < k = omega (arith, length-tabulate (order_at n (slots_part d mem)) k) in
      let e : 0 + (n * 14 + i) ≡ n * 14 + i = omega arith in
      get_or-tabulate (order_at n (slots_part d mem)) k i 0 j
      ∙ get_or-part mem 0 (15 * n) (n * 14 + i) 0 (omega arith)
      ∙ ap (λ (m : ℕ). get_or mem m 0) e
      ∙ sym (get_or-part mem (n * 14) k i 0 j))

  pub order-inside : memory_ok d (length mem) ≡ true → (l : List ℕ) → l ≡ part (order_start d.limits.nodes) (slots_made d) mem → l ≡ order_shown d mem
  unfolding order_shown
  order-inside ok l q = q ∙ sym (words-there (slots_made d) (omega arith) (sizes d (length mem) ok).slots) ∙ sym (rw ok)

  -- they are what `document_order` answers
  pub order-shown : memory_ok d (length mem) ≡ true → order_shown d mem ≡ take (length (decode d mem).gens) (decode d mem).order
  unfolding order_shown
  order-shown ok =
      rw ok
      (tabulate-take (order_at n (slots_part d mem)) (slots_made d) n 0 (omega arith)
      ∙ ap (λ (k : ℕ). take k (decode d mem).order) (sym (length-gens (pool_in d mem) (names_in d mem) (lengths_add d mem) d mem)))
