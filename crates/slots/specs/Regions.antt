-- The one part that the crate is lent: for n slots the generations, n words; the free stack, n; the node records, 12 n; the order words, n.
use Rattle.records.specs.declared.Node.{Node}
use Rattle.std.specs.Prelude.{ℕ, ◌+◌, ◌*◌, cond, List, replicate, nat_lt, slice_index, slice_set, Option, None, Some}
use Rattle.words.specs.Parts.{part, put}
use Rattle.records.specs.declared.NodeRecord.{NodeRecord}
use Rattle.records.specs.Records.{read_record, record_words, node_of}

abbrev pub slots_words : ℕ → ℕ
slots_words n = 15 * n

-- where the records and the order words start
abbrev pub record_start : ℕ → ℕ → ℕ
record_start n s = n * 2 + s * 12

abbrev pub order_start : ℕ → ℕ
order_start n = n * 14

module _ (n : ℕ) (w : List ℕ) where
  -- a slot's generation
  unfoldable pub generation_at : ℕ → ℕ
  generation_at s = slice_index w s

  -- entry i of the free stack, the first freed at 0
  unfoldable pub free_at : ℕ → ℕ
  free_at i = slice_index w (n + i)

  -- a slot's record, and the node that it is
  unfoldable pub record_at : ℕ → NodeRecord
  record_at s = read_record (part (record_start n s) 12 w)

  unfoldable pub node_at : ℕ → Option Node
  node_at s = node_of (record_at s)

  -- a slot's order word
  unfoldable pub order_at : ℕ → ℕ
  order_at s = slice_index w (order_start n + s)

  -- the words with one of these replaced
  unfoldable pub put_generation : ℕ → ℕ → List ℕ
  put_generation s g = slice_set w s g

  unfoldable pub put_free : ℕ → ℕ → List ℕ
  put_free i s = slice_set w (n + i) s

  unfoldable pub put_record : ℕ → NodeRecord → List ℕ
  put_record s r = put (record_start n s) (record_words r) w

  unfoldable pub put_order : ℕ → ℕ → List ℕ
  put_order s key = slice_set w (order_start n + s) key

-- 01: "4,294,967,295 for nodes outside and free slots"
abbrev pub no_position : ℕ
no_position = 4294967295

-- the words with no position for the slots made
unfoldable pub clear_order : ℕ → List ℕ → ℕ → List ℕ
clear_order n w made = put (order_start n) (replicate made no_position) w

-- 01: "no key for an order word above 32 bits"
unfoldable pub key_of : ℕ → Option ℕ
key_of word = cond (nat_lt word no_position) (Some word) None
