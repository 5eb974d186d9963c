-- What the writing steps leave in the lent buffer, and the change of the document that each of them is.
use Rattle.records.specs.declared.NodeId.{NodeId}
use Rattle.std.specs.Prelude.{◌≡◌, List, ℕ, ◌+◌, length, set, Option}
use Rattle.words.specs.Parts.{put}
use Rattle.blocks.specs.Arena.{Block}
use Rattle.blocks.specs.Compact.{BlockCopied}
use Rattle.records.specs.Records.{span_of, record_of}
use Rattle.records.specs.Ranges.{with_children, with_attributes, with_namespaces, with_parent}
use Rattle.slots.specs.Regions.{record_at, put_record}
use Rattle.records.specs.declared.Range.{Range}
use Rattle.records.specs.declared.Node.{Node}
use Rattle.records.specs.declared.Span.{Span}
use Rattle.records.specs.declared.NodeRecord.{NodeRecord}
use Rattle.model.specs.Kinds.{Kind, Which, children, attributes, namespaces}
use Rattle.model.specs.Doc.{Doc, change_nodes}
use Rattle.model.specs.Edits.{update_which}
use Rattle.layout.specs.declared.Document.{Document}
use Rattle.layout.specs.Layout.{entries_of, limits_of, slots_at, arena_at, texts_at, names_at}
use Rattle.memory.specs.Decode.{slots_part, arena_part}

-- ---- the buffer

-- with other words of the slots, or of an arena
unfoldable pub put_slots : List ℕ → List ℕ → List ℕ
put_slots words mem = put slots_at words mem

unfoldable pub put_arena : Document → Which → List ℕ → List ℕ → List ℕ
put_arena d w words mem = put (arena_at (limits_of d.limits) w) words mem

-- with other words of the texts, or of the names
unfoldable pub put_texts : Document → List ℕ → List ℕ → List ℕ
put_texts d words mem = put (texts_at (limits_of d.limits)) words mem

unfoldable pub put_names : Document → List ℕ → List ℕ → List ℕ
put_names d words mem = put (names_at (limits_of d.limits)) words mem

-- with a block of an arena copied: the words of the arena then, and no other word changed
pub record ArenaCopied (d : Document) (mem mem' : List ℕ) (w : Which) (used start len : ℕ) : Type 0 where
  pub words : List ℕ
  pub long : length words ≡ entries_of d.limits w + entries_of d.limits w
  pub memory : mem' ≡ put_arena d w words mem
  pub block : BlockCopied (arena_part d w mem) words (entries_of d.limits w) used start len

-- with other words of one slot
abbrev pub put_words : Document → List ℕ → ℕ → NodeRecord → List ℕ
put_words d mem s r = put_slots (put_record d.limits.nodes (slots_part d mem) s r) mem

-- the words of a slot
abbrev pub words_at : Document → List ℕ → ℕ → NodeRecord
words_at d mem s = record_at d.limits.nodes (slots_part d mem) s

-- a record with another range
abbrev pub with_range : Which → NodeRecord → Span → NodeRecord
with_range children r s = with_children r s
with_range attributes r s = with_attributes r s
with_range namespaces r s = with_namespaces r s

-- ---- the steps

unfoldable pub put_node : Document → List ℕ → ℕ → Node → List ℕ
put_node d mem s m = put_words d mem s (record_of m)

unfoldable pub put_range : Document → List ℕ → ℕ → Which → Range → List ℕ
put_range d mem s w c = put_words d mem s (with_range w (words_at d mem s) (span_of c))

unfoldable pub put_parent : Document → List ℕ → ℕ → Option NodeId → List ℕ
put_parent d mem s p = put_words d mem s (with_parent (words_at d mem s) p)

-- ---- the changes of the document

-- another node in a slot
unfoldable pub set_node : Doc → ℕ → Option (Kind ℕ (Option ℕ)) → Option ℕ → (Which → Block) → Doc
set_node d s k p r = change_nodes d (set d.kinds s k) (set d.parents s p) (λ w. set (d.ranges w) s (r w))

-- another range of a slot's node
unfoldable pub set_range : Doc → Which → ℕ → Block → Doc
set_range d w s b = change_nodes d d.kinds d.parents (update_which d.ranges w (set (d.ranges w) s b))
