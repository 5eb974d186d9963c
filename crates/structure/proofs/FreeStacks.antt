-- Rule 2: the free stack of the words, tested, is the free list of the document, tested.
-- Assumes nothing.
use mathlib.Core.Path.{◌≡◌, refl, sym, ap, ap₂, ◌∙◌}
use mathlib.Core.Bool.{Bool, true, false, ◌&&◌, and-true, and_comm}
use mathlib.Core.List.{List, [], ◌∷◌, ◌++◌, reverse, reverse-cons}
use Prim.Native.Nat.{ℕ, zero, suc, ◌%◌, ◌≤◌}
use native.Mathlib.Numerals.{add-one}
use native.Mathlib.Omega.{arith}
use lib.ListN.{length, get_or}
use lib.Dec.{eqb, ltb}
use Rattle.words.specs.Lists.{count_of, all, all_below, tabulate}
use Rattle.words.proofs.Parts.{part_none}
use Rattle.words.proofs.Lists.{count_of-append, length-tabulate, get_or-tabulate, all_below-same}
use Rattle.slots.specs.Regions.{slots_words, generation_at, free_at}
use Rattle.slots.specs.FreeRule.{generations, free_stack, are_slots, free_rule}
use Rattle.slots.proofs.Stacks.{generations-next, free_stack-next}
use Rattle.model.specs.RulesTest.{all_slots, free_list_holds}
use Rattle.layout.specs.declared.Document.{Document}
use Rattle.layout.specs.Layout.{memory_ok}
use Rattle.memory.specs.Decode.{slots_part, slots_made, slots_free}
use Rattle.memory.proofs.Shaped.{length-slots_part}
use Rattle.entries.specs.Nodes.{decode_nodes}

-- ---- lists the other way round, and tabulated ones

module _ {A : Type 0} (p : A → Bool) where
  all_append : (l m : List A) → all p (l ++ m) ≡ (all p l && all p m)
  all_append [] m = refl
  all_append (x ∷ l) m = go (p x) (all_append l m)
    where
      go : (t : Bool) → all p (l ++ m) ≡ (all p l && all p m) → (t && all p (l ++ m)) ≡ (t && all p l && all p m)
      go true e = e
      go false e = refl

  all-reverse : (l : List A) → all p (reverse l) ≡ all p l
  all-reverse [] = refl
  all-reverse (x ∷ l) =
      ap (all p) (reverse-cons x l) ∙ all_append (reverse l) (x ∷ []) ∙ ap₂ ◌&&◌ (all-reverse l) (and-true (p x)) ∙ and_comm (all p l) (p x)

  count_of-reverse : (l : List A) → count_of p (reverse l) ≡ count_of p l
  count_of-reverse [] = refl
  count_of-reverse (x ∷ l) = ap (count_of p) (reverse-cons x l) ∙ count_of-append p (reverse l) (x ∷ []) ∙ omega (arith, count_of-reverse l)

  all-tabulate : (f : ℕ → A) (n : ℕ) → all p (tabulate f n) ≡ all_below (λ i. p (f i)) n
  all-tabulate f zero = refl
  all-tabulate f (suc n) = all_append (tabulate f n) (f n ∷ []) ∙ ap₂ ◌&&◌ (all-tabulate f n) (and-true (p (f n)))

-- ---- the words

module _ (n : ℕ) (w : List ℕ) (long : slots_words n ≤ length w) where
  generations-are : (k : ℕ) → k ≤ n → generations n w k ≡ tabulate (generation_at n w) k
  generations-are zero h = part_none w 0
  generations-are (suc k) h =
      ap (λ (j : ℕ). generations n w j) (sym (add-one k))
      ∙ generations-next n w long k (omega arith)
      ∙ ap (λ (l : List ℕ). l ++ (generation_at n w k ∷ [])) (generations-are k (omega arith))

  stack_is : (k : ℕ) → k ≤ n → free_stack n w k ≡ tabulate (free_at n w) k
  stack_is zero h = part_none w n
  stack_is (suc k) h =
      ap (λ (j : ℕ). free_stack n w j) (sym (add-one k))
      ∙ free_stack-next n w long k (omega arith)
      ∙ ap (λ (l : List ℕ). l ++ (free_at n w k ∷ [])) (stack_is k (omega arith))

slots-all : (made : ℕ) (f : ℕ → ℕ) (k : ℕ) → are_slots made (tabulate f k) ≡ all (λ s. ltb s made) (reverse (tabulate f k))
slots-all made f k =
    ap (all_below (λ i. ltb (get_or (tabulate f k) i 0) made)) (length-tabulate f k)
    ∙ all_below-same (λ i. ltb (get_or (tabulate f k) i 0) made) (λ i. ltb (f i) made) k (λ i b. ap (λ (x : ℕ). ltb x made) (get_or-tabulate f k i 0 b))
    ∙ sym (all-tabulate (λ s. ltb s made) f k)
    ∙ sym (all-reverse (λ s. ltb s made) (tabulate f k))

pub free-list : (d : Document) (mem : List ℕ) → memory_ok d (length mem) ≡ true
    → free_rule (generations d.limits.nodes (slots_part d mem) (slots_made d)) (free_stack d.limits.nodes (slots_part d mem) (slots_free d))
    ≡ free_list_holds (decode_nodes d mem)
unfolding free_rule free_list_holds all_slots
free-list d mem ok =
    ap₂ free_rule (generations-are n w long (slots_made d) (omega arith)) (stack_is n w long (slots_free d) (omega arith))
    ∙ ap₂ ◌&&◌ (slots-all (length gens) (free_at n w) (slots_free d))
    (all_below-same (λ s. eqb (count_of (eqb s) stack) (get_or gens s 0 % 2)) (λ s. eqb (count_of (eqb s) (reverse stack)) (get_or gens s 0 % 2)) (length gens)
    (λ s b. ap (λ (x : ℕ). eqb x (get_or gens s 0 % 2)) (sym (count_of-reverse (eqb s) stack))))
  where
    n : ℕ
    n = d.limits.nodes

    w : List ℕ
    w = slots_part d mem

    gens : List ℕ
    gens = tabulate (generation_at d.limits.nodes (slots_part d mem)) (slots_made d)

    stack : List ℕ
    stack = tabulate (free_at d.limits.nodes (slots_part d mem)) (slots_free d)

    long : slots_words d.limits.nodes ≤ length (slots_part d mem)
    long = omega (arith, length-slots_part d mem ok)
