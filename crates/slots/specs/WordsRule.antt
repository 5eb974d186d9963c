-- 01, rule 1, "words within their fields", for the words of the slots made. A freed slot's record is under no rule.
use Rattle.std.specs.Prelude.{◌≡◌, ℕ, ◌%◌, ◌<◌, Bool, true, not, ◌&&◌, ◌||◌, List, ◌==◌, nat_lt}
use Rattle.words.specs.Lists.{all_below}
use Rattle.records.specs.Records.{is_node}
use Rattle.slots.specs.Regions.{generation_at, record_at, order_at}

pub record WordsRule (n : ℕ) (w : List ℕ) (made : ℕ) : Type 0 where
  pub generation : (s : ℕ) → s < made → generation_at n w s < 4294967296
  pub order : (s : ℕ) → s < made → order_at n w s < 4294967296
  pub node : (s : ℕ) → s < made → generation_at n w s % 2 ≡ 0 → is_node (record_at n w s) ≡ true

-- the same as a test, of a slot and of all
unfoldable pub slot_words : ℕ → List ℕ → ℕ → Bool
slot_words n w s = nat_lt (generation_at n w s) 4294967296 && (nat_lt (order_at n w s) 4294967296 && (not (generation_at n w s % 2 == 0) || is_node (record_at n w s)))

unfoldable pub words_rule : ℕ → List ℕ → ℕ → Bool
words_rule n w made = all_below (slot_words n w) made
