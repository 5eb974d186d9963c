-- The test of the slots' words says rule 1 of them, both ways, and what the functions that decide it cite.
-- Assumes nothing.
use Rattle.std.proofs.Common.{◌≡◌, ℕ, ◌+◌, ◌%◌, ◌<◌, Bool, true, false, not, ◌&&◌, ◌||◌, eqb, ltb, List, sym, refl, ◌∙◌, ltb-true, lt-ltb, eq-eqb, ne_eqb}
use native.Mathlib.Decide.{ℕ_discrete}
use Rattle.words.proofs.Lists.{all_below-at, at-all_below, all_below-next, all_below-not}
use Rattle.words.proofs.Tests.{and_left, and_right, and_both}
use Rattle.records.specs.Records.{is_node}
use Rattle.slots.specs.Regions.{generation_at, record_at, order_at}
use Rattle.slots.specs.WordsRule.{WordsRule, slot_words, words_rule}

module _ (n : ℕ) (w : List ℕ) where
  -- ---- a slot
  module _ (s : ℕ) where
    abbrev small : Bool
    small = ltb (generation_at n w s) 4294967296

    abbrev ordered : Bool
    ordered = ltb (order_at n w s) 4294967296

    abbrev free-or-node : Bool
    free-or-node = not (eqb (generation_at n w s % 2) 0) || is_node (record_at n w s)

    record SlotRule : Type 0 where
      pub generation : generation_at n w s < 4294967296
      pub order : order_at n w s < 4294967296
      pub node : generation_at n w s % 2 ≡ 0 → is_node (record_at n w s) ≡ true

    slot-of : slot_words n w s ≡ true → SlotRule
    unfolding slot_words
    slot-of h =
        let rest = and_right small (ordered && free-or-node) h in
        record {
          generation = ltb-true _ _ (and_left small (ordered && free-or-node) h);
          order = ltb-true _ _ (and_left ordered free-or-node rest);
          node = λ e. rw (eq-eqb _ _ e) at (and_right ordered free-or-node rest);
        }

    of-slot : SlotRule → slot_words n w s ≡ true
    unfolding slot_words
    of-slot r = and_both small (ordered && free-or-node) (lt-ltb _ _ r.generation) (and_both ordered free-or-node (lt-ltb _ _ r.order) (go (ℕ_discrete (generation_at n w s % 2) 0)))
      where
        go : Dec (generation_at n w s % 2 ≡ 0) → free-or-node ≡ true
        go (yes e) = rw (eq-eqb _ _ e) (r.node e)
        go (no ne) = rw (ne_eqb _ _ ne)

  -- ---- all slots made
  pub words-rule-of : (made : ℕ) → words_rule n w made ≡ true → WordsRule n w made
  unfolding words_rule
  words-rule-of made h = record {
    generation = λ s b. (slot-of s (all_below-at (slot_words n w) made h s b)).generation;
    order = λ s b. (slot-of s (all_below-at (slot_words n w) made h s b)).order;
    node = λ s b. (slot-of s (all_below-at (slot_words n w) made h s b)).node;
  }

  pub of-words-rule : (made : ℕ) → WordsRule n w made → words_rule n w made ≡ true
  unfolding words_rule
  of-words-rule made r = at-all_below (slot_words n w) made (λ s b. of-slot s (record { generation = r.generation s b; order = r.order s b; node = r.node s b }))

  pub words-none : words_rule n w 0 ≡ true
  unfolding words_rule
  words-none = refl

  pub words-next : (s : ℕ) (t : Bool) → words_rule n w s ≡ true → t ≡ slot_words n w s → t ≡ true → words_rule n w (s + 1) ≡ true
  unfolding words_rule
  words-next s t h e q = all_below-next (slot_words n w) s h (sym e ∙ q)

  pub words-not : (made s : ℕ) (t : Bool) → s < made → t ≡ slot_words n w s → t ≡ false → false ≡ words_rule n w made
  unfolding words_rule
  words-not made s t b e q = sym (all_below-not (slot_words n w) made s b (sym e ∙ q))
