-- What a reading call's result is among the answers of the definitions: 01's number and values.
use Rattle.std.specs.Prelude.{Bool, cond, ◌&&◌, List, [], ℕ, ◌+◌, length, take, leb, Result, Ok, Err, Some, None, Option}
use Rattle.words.specs.Lists.{tabulate}
use Rattle.blocks.specs.Arena.{Block, block, list_of}
use Rattle.records.specs.Handles.{word_of}
use Rattle.slots.specs.Regions.{order_at}
use Rattle.model.specs.Refusals.{number_of}
use Rattle.model.specs.declared.Refusal.{Refusal}
use Rattle.records.specs.declared.NodeId.{NodeId}
use Rattle.records.specs.declared.NodeData.{NodeData}
use Rattle.records.specs.declared.Range.{Range}
use Rattle.words.specs.declared.NameId.{NameId}
use Rattle.names.specs.Table.{name}
use Rattle.model.specs.Kinds.{Which, attributes, namespaces, map_kind}
use Rattle.model.specs.Calls.{Answered, refused, made, truth, node, listed, every_node, kind_is, name_is, key}
use Rattle.layout.specs.declared.Document.{Document}
use Rattle.layout.specs.Layout.{memory_ok}
use Rattle.memory.specs.Decode.{kind_of, block_of, handle_of, element_range, slots_part, slots_made, arena_used, arena_in}
pub use Rattle.memory.specs.Stored.{text_in, name_part}

abbrev pub of_truth : Result Bool Refusal → Answered
of_truth (Ok t) = truth t
of_truth (Err why) = refused (number_of why)

abbrev pub of_node : Result (Option NodeId) Refusal → Answered
of_node (Ok id) = node (handle_of id)
of_node (Err why) = refused (number_of why)

abbrev pub of_root : Result NodeId Refusal → Answered
of_root (Ok id) = made (word_of id)
of_root (Err why) = refused (number_of why)

-- a block, with the handles in it
abbrev pub of_list : Document → List ℕ → Which → Result Range Refusal → Answered
of_list d mem w (Ok b) = listed (block_of b) (list_of (arena_in d w mem) (block_of b))
of_list d mem w (Err why) = refused (number_of why)

abbrev pub of_key : Result (Option ℕ) Refusal → Answered
of_key (Ok n) = key n
of_key (Err why) = refused (number_of why)

-- the first handles of the lent list
abbrev pub of_nodes : List ℕ → Result ℕ Refusal → Answered
of_nodes out (Ok n) = every_node (take n out)
of_nodes out (Err why) = refused (number_of why)

abbrev pub of_kind : Document → List ℕ → Result (Option NodeData) Refusal → Answered
of_kind d mem (Ok (Some v)) = kind_is (Some (map_kind (λ n. n) (text_in d mem) (kind_of v))) (element_range attributes v) (element_range namespaces v)
of_kind d mem (Ok None) = kind_is None (block 0 0) (block 0 0)
of_kind d mem (Err why) = refused (number_of why)

abbrev pub of_name : Document → List ℕ → Result (Option NameId) Refusal → Answered
of_name d mem (Ok (Some n)) = name_is (Some (name (name_part d mem n.0 0) (name_part d mem n.0 1)))
of_name d mem (Ok None) = name_is None
of_name d mem (Err why) = refused (number_of why)

-- ---- what a place in memory shows: the handles of a block, none where it lies outside its arena or the memory is too short

unfoldable pub entries_shown : Document → List ℕ → Which → Block → List ℕ
entries_shown d mem w b = cond (memory_ok d (length mem) && leb (b.start + b.len) (arena_used d w)) (list_of (arena_in d w mem) b) []

-- the bytes of a text and of a part of a name
unfoldable pub text_bytes : Document → List ℕ → Option ℕ → List ℕ
text_bytes d mem t = cond (memory_ok d (length mem)) (text_in d mem t) []

unfoldable pub name_bytes : Document → List ℕ → ℕ → ℕ → List ℕ
name_bytes d mem n k = cond (memory_ok d (length mem)) (name_part d mem n k) []

-- the order words of the slots made
unfoldable pub order_shown : Document → List ℕ → List ℕ
order_shown d mem = cond (memory_ok d (length mem)) (tabulate (order_at d.limits.nodes (slots_part d mem)) (slots_made d)) []
