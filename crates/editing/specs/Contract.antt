-- What an editing call promises, for every record, memory, scratch and argument.
use Rattle.std.specs.Prelude.{◌≡◌, Bool, true, false, cond, List, ℕ, length, drop, replicate}
use Rattle.model.specs.Calls.{Call, Answered, refused, is_refusal, Out, answers, step, append-element, append-text, append-comment, append-pi, set-text, set-attribute, remove-attribute, declare-namespace, remove, detach, reparent, insert-at, document-order, compact, root-of, kind-of, parent-of, children-of, root-element, is-element, name_of, attribute-nodes, namespace-nodes, nodes, order-key}
use Rattle.model.specs.RulesTest.{rules_hold}
use Rattle.layout.specs.declared.Document.{Document}
use Rattle.layout.specs.Layout.{limits_of, document_words, buffers_ok}
use Rattle.memory.specs.Decode.{decode}
use Rattle.memory.specs.Undamaged.{Undamaged}

-- "Editing calls are the twelve under "Edits", `document_order` and `compact`."
abbrev pub is_editing : Call → Bool
is_editing (append-element p ns local) = true
is_editing (append-text p s) = true
is_editing (append-comment p s) = true
is_editing (append-pi p target content) = true
is_editing (set-text h s) = true
is_editing (set-attribute e ns local value) = true
is_editing (remove-attribute e ns local) = true
is_editing (declare-namespace e prefix uri) = true
is_editing (remove h) = true
is_editing (detach h) = true
is_editing (reparent c p) = true
is_editing (insert-at p i c) = true
is_editing document-order = true
is_editing compact = true
is_editing root-of = false
is_editing (kind-of h) = false
is_editing (parent-of h) = false
is_editing (children-of h) = false
is_editing root-element = false
is_editing (is-element h) = false
is_editing (name_of n) = false
is_editing (attribute-nodes h) = false
is_editing (namespace-nodes h) = false
is_editing nodes = false
is_editing (order-key h) = false

-- "Order: 4, 5, 1, the Rust's own checks in its order, 14."
unfoldable pub outcome : Call → Document → List ℕ → ℕ → Out
outcome c d mem scratch =
    cond (buffers_ok d (length mem) scratch)
    (cond (rules_hold (decode d mem)) (step c (decode d mem)) (answers (decode d mem) (refused 5)))
    (answers (decode d mem) (refused 4))

-- tests 4 and 5 as a number, 0 where both are passed
unfoldable pub admission : Document → List ℕ → ℕ → ℕ
admission d mem scratch = cond (buffers_ok d (length mem) scratch) (cond (rules_hold (decode d mem)) 0 5) 4

-- "Scratch .. is all zero after it, refused or not, save that 4 touches no buffer."
unfoldable pub scratch_after : Document → List ℕ → List ℕ → List ℕ
scratch_after d mem scratch = cond (buffers_ok d (length mem) (length scratch)) (replicate (length scratch) 0) scratch

-- An editing call was given a record, memory and scratch, answered a, returned the record d' (a refusal returns none: the caller keeps the one
-- it has), and left memory and scratch as mem' and scratch'.
pub record Edits (c : Call) (d : Document) (mem scratch : List ℕ) (a : Answered) (d' : Document) (mem' scratch' : List ℕ) : Type 0 where
  -- its answer, by 01's numbers and values
  pub answer : a ≡ (outcome c d mem (length scratch)).answer
  -- the document that record and memory hold then
  pub after : is_refusal a ≡ false → decode d' mem' ≡ (outcome c d mem (length scratch)).doc
  -- "A refusal .. changes no document memory."
  pub kept : is_refusal a ≡ true → (mem' ≡ mem) × (d' ≡ d)
  -- the limits stay, the buffer keeps its length, and what lies past the document's words is as it was
  pub limits : d'.limits ≡ d.limits
  pub lent : length mem' ≡ length mem
  pub beyond : drop (document_words (limits_of d.limits)) mem' ≡ drop (document_words (limits_of d.limits)) mem
  pub cleared : scratch' ≡ scratch_after d mem scratch

-- What a call that was admitted finds: memory that keeps every rule, and scratch that fits and is all zero.
pub record Ready (d : Document) (mem scratch : List ℕ) : Type 0 where
  pub undamaged : Undamaged d mem
  pub buffers : buffers_ok d (length mem) (length scratch) ≡ true
  pub zero : scratch ≡ replicate (length scratch) 0
