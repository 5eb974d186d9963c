-- A handle in one word: index + generation × 2^32. Any word is some handle.
-- 01: "A handle is (index, generation), 32 bits each."
use Rattle.std.specs.Prelude.{ℕ, ◌+◌, ◌*◌, ◌/◌, ◌%◌}
use Rattle.records.specs.declared.NodeId.{NodeId}

abbrev pub handle_index : ℕ → ℕ
handle_index w = w % 4294967296

abbrev pub handle_generation : ℕ → ℕ
handle_generation w = w / 4294967296

abbrev pub word_of : NodeId → ℕ
word_of h = h.index + h.generation * 4294967296

abbrev pub id_of : ℕ → NodeId
id_of w = record { index = handle_index w; generation = handle_generation w }
