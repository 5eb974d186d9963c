-- The claim at one register: a zone in a zone; the outer one is moved to the end of the Root's list, and the inner one to the end of the outer one's. Each list
-- has one entry, so that each move takes its list to the arena's end: "Block ranges may differ", and here they do.
use Rattle.std.specs.Prelude.{◌≡◌, Bool, true, false, List, [], ◌∷◌, ◌++◌, ℕ, get_or, replicate, None}
use Rattle.blocks.specs.Arena.{Block, block}
use Rattle.model.specs.Kinds.{children}
use Rattle.model.specs.Doc.{handle_word, root_handle, no_key, range_in}
use Rattle.model.specs.Calls.{Call, append-element, Answered, made, done, keys}
use Rattle.model.specs.Tree.{seed}
use Rattle.layout.specs.declared.Document.{Document}
use Rattle.layout.specs.declared.Limits as given
use Rattle.memory.specs.Decode.{decode}
use Rattle.layout.specs.Record.{lengths_with, table_counts, record_with, slots_alone}
use Rattle.tree.specs.Contract.{Starts}
use Rattle.tree.specs.Claim.{Event, Called, Tells, tree_end}
use Rattle.commuting.specs.Moves.{Move, call_of, independent}
use Rattle.commuting.specs.EitherOrder.{InOrder, Renewal, document_end, EndAlike}

-- ---- lent memory of 80 words (docs/LAYOUT.md), and scratch of 28 that may hold anything

abbrev pub limits : given.Limits
limits = record { nodes = 3; children = 16; attributes = 0; namespaces = 0; texts = 0; textbytes = 0; names = 1; namebytes = 1 }

-- the record of so many slots, entries and names of one byte
abbrev pub counted : ℕ → ℕ → ℕ → Bool → Document
counted slots entries names current =
    let bare = slots_alone limits slots current in
    record_with bare (table_counts (lengths_with bare.counts entries 0 0) (record { names = names; bytes = names })) current

-- the twelve words of a node: its kind, its parent's index and one more, its block of children
abbrev pub node_words : ℕ → ℕ → Block → List ℕ
node_words kind parent b = kind ∷ 0 ∷ 0 ∷ 0 ∷ parent ∷ 0 ∷ b.start ∷ b.len ∷ 0 ∷ 0 ∷ 0 ∷ 0 ∷ []

-- sixteen entries, of which every fourth is used
abbrev pub fours : ℕ → ℕ → ℕ → ℕ → List ℕ
fours a b c d = a ∷ 0 ∷ 0 ∷ 0 ∷ b ∷ 0 ∷ 0 ∷ 0 ∷ c ∷ 0 ∷ 0 ∷ 0 ∷ d ∷ 0 ∷ 0 ∷ 0 ∷ []

-- generations and the free stack, all zero; three records and their order words; the children's entries and capacities; the name "z"
abbrev pub laid : List ℕ → List ℕ → List ℕ → List ℕ → List ℕ
laid nodes order ids capacities = replicate 6 0 ++ nodes ++ order ++ ids ++ capacities ++ (0 ∷ 1 ∷ 122 ∷ [])

-- the Root, the zone and the one in it, by the blocks of the first two
abbrev pub three_nodes : Block → Block → List ℕ
three_nodes root zone = node_words 0 0 root ++ node_words 1 1 zone ++ node_words 1 2 (block 0 0)

-- order words of an order that is not current
abbrev pub stale : List ℕ
stale = 0 ∷ no_key ∷ no_key ∷ []

-- a call in these buffers: what it answered, and the record and memory that it left
abbrev pub event : Call → Answered → Document → List ℕ → Event
event c a d mem = record { call = c; scratch = replicate 28 7; answer = a; document = d; memory = mem; scratch_after = replicate 28 0 }

-- ---- the register: Start, the zone, the one in it

abbrev pub zone : ℕ
zone = handle_word 1 0

abbrev pub inner : ℕ
inner = handle_word 2 0

-- the handle of each birth
abbrev pub handles : ℕ → ℕ
handles b = get_or (root_handle ∷ zone ∷ inner ∷ []) b 0

abbrev pub zone_made : Event
zone_made =
    event (append-element root_handle [] (122 ∷ [])) (made zone) (counted 2 4 1 false)
    (laid (node_words 0 0 (block 0 1) ++ node_words 1 1 (block 0 0) ++ replicate 12 0) (0 ∷ no_key ∷ 0 ∷ []) (fours 1 0 0 0) (fours 4 0 0 0))

abbrev pub inner_made : Event
inner_made =
    event (append-element zone [] (122 ∷ [])) (made inner) (counted 3 8 1 false) (laid (three_nodes (block 0 1) (block 4 1)) stale (fours 1 2 0 0) (fours 0 4 0 0))

abbrev pub register : List Event
register = zone_made ∷ inner_made ∷ []

-- ---- the two moves, in each order

abbrev pub zone_move : Move
zone_move = record { node = zone; under = root_handle; index = None }

abbrev pub inner_move : Move
inner_move = record { node = inner; under = zone; index = None }

abbrev pub zone_earlier : Event
zone_earlier = event (call_of zone_move) done (counted 3 12 1 false) (laid (three_nodes (block 8 1) (block 4 1)) stale (fours 1 2 1 0) (fours 0 4 4 0))

abbrev pub inner_later : Event
inner_later =
    event (call_of inner_move) done (counted 3 16 1 false) (laid (three_nodes (block 8 1) (block 12 1)) stale (fours 1 2 1 2) (fours 0 0 4 4))

abbrev pub inner_earlier : Event
inner_earlier = event (call_of inner_move) done (counted 3 12 1 false) (laid (three_nodes (block 0 1) (block 8 1)) stale (fours 1 2 2 0) (fours 0 0 4 0))

abbrev pub zone_later : Event
zone_later = event (call_of zone_move) done (counted 3 16 1 false) (laid (three_nodes (block 12 1) (block 8 1)) stale (fours 1 2 2 1) (fours 0 0 4 4))

-- The premises are met, the two orders end alike with the keys 0, 1 and 2, and the ranges of the Root's children differ.
pub record Example : Type 0 where
  pub started : Starts limits (replicate 80 7) done (counted 1 0 0 true) (replicate 80 0)
  pub called : Called (counted 1 0 0 true) (replicate 80 0) register
  pub told : Tells handles register seed
  pub are_independent : independent (decode inner_made.document inner_made.memory) zone_move inner_move ≡ true
  pub zone_first : InOrder inner_made.document inner_made.memory zone_move inner_move
  pub inner_first : InOrder inner_made.document inner_made.memory inner_move zone_move
  pub later : (zone_first.later ≡ inner_later) × (inner_first.later ≡ zone_later)
  pub renewals : Renewal zone_first.later × Renewal inner_first.later
  pub renewed_keys : (renewals.0.event.answer ≡ keys (0 ∷ 1 ∷ 2 ∷ [])) × (renewals.1.event.answer ≡ keys (0 ∷ 1 ∷ 2 ∷ []))
  pub alike : EndAlike handles (tree_end handles register seed) zone_first inner_first
  pub ranges : (range_in (document_end zone_first) children 0 ≡ block 8 1) × (range_in (document_end inner_first) children 0 ≡ block 12 1)
