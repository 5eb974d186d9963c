-- Two editors move rows at the same time and the server picks an order (02, n): what the two orders end in, over what the calls promise.
use Rattle.std.specs.Prelude.{◌≡◌, ◌⊎◌, true, false, List, [], ◌∷◌, ℕ}
use Rattle.model.specs.Doc.{Doc, root_handle, resolves}
use Rattle.model.specs.Calls.{Call, document-order, compact, order-key, is_refusal, done}
use Rattle.model.specs.Tree.{Tree, seed}
use Rattle.laws.specs.Claim.{Explains}
use Rattle.layout.specs.declared.Document.{Document}
use Rattle.layout.specs.declared.Limits as given
use Rattle.memory.specs.Decode.{decode}
use Rattle.reading.specs.Contract.{reads}
use Rattle.tree.specs.Contract.{Starts}
use Rattle.tree.specs.Claim.{Event, Promised, Called, Tells, last_record, last_memory, tree_end}
use Rattle.commuting.specs.Moves.{Move, call_of, independent}

-- m, then n, each called on what the call before left, and accepted
pub record InOrder (d : Document) (mem : List ℕ) (m n : Move) : Type 0 where
  pub earlier : Event
  pub later : Event
  pub called : Called d mem (earlier ∷ later ∷ [])
  pub moves : (earlier.call ≡ call_of m) × (later.call ≡ call_of n)
  pub accepted : (is_refusal earlier.answer ≡ false) × (is_refusal later.answer ≡ false)

-- the calls after which the order is current
abbrev pub Renews : Call → Type 0
Renews c = (c ≡ document-order) ⊎ (c ≡ compact)

-- such a call after an event, accepted
pub record Renewal (e : Event) : Type 0 where
  pub event : Event
  pub promised : Promised e.document e.memory event
  pub renews : Renews event.call
  pub accepted : is_refusal event.answer ≡ false

module _ {d : Document} {mem : List ℕ} {m n : Move} where
  -- the document that is left, and the plain tree beside it
  abbrev pub document_end : InOrder d mem m n → Doc
  document_end x = decode x.later.document x.later.memory

  abbrev pub plain_end : (ℕ → ℕ) → Tree → InOrder d mem m n → Tree
  plain_end hs t x = tree_end hs (x.earlier ∷ x.later ∷ []) t

-- "the two orders end in equal plain trees, equal handles and equal order keys once renewed"
pub record EndAlike (hs : ℕ → ℕ) (t : Tree) {d : Document} {mem : List ℕ} {m n : Move} (x : InOrder d mem m n) (y : InOrder d mem n m) : Type 0 where
  pub trees : plain_end hs t x ≡ plain_end hs t y
  -- that tree explains both memories, each birth by the same handle
  pub explained : Explains hs (document_end x) (plain_end hs t x) × Explains hs (document_end y) (plain_end hs t x)
  pub handles : (h : ℕ) → resolves (document_end x) h ≡ resolves (document_end y) h
  -- what `order_key` answers to any handle, whichever call renewed each order
  pub keys : (r : Renewal x.later) (s : Renewal y.later) (h : ℕ)
      → reads (order-key h) r.event.document r.event.memory ≡ reads (order-key h) s.event.document s.event.memory
  -- and the whole answers of `document_order`, a word for each slot
  pub words : (r : Renewal x.later) (s : Renewal y.later) → r.event.call ≡ document-order → s.event.call ≡ document-order
      → r.event.answer ≡ s.event.answer

-- "If both are accepted in each order, .. We want this for any document the calls can reach." For every list of calls there are handles hs that are told
-- (`PlainTree`).
abbrev pub EitherOrder : Type 0
EitherOrder =
    (l : given.Limits) (mem mem' : List ℕ) (d : Document) → Starts l mem done d mem' → (es : List Event) → Called d mem' es
    → (hs : ℕ → ℕ) → hs 0 ≡ root_handle → Tells hs es seed
    → (m n : Move) → independent (decode (last_record d es) (last_memory mem' es)) m n ≡ true
    → (x : InOrder (last_record d es) (last_memory mem' es) m n) (y : InOrder (last_record d es) (last_memory mem' es) n m)
    → EndAlike hs (tree_end hs es seed) x y
