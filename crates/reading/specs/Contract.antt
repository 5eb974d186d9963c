-- What a reading call promises, for every record, memory and argument: "They test 4 only", and show what the definitions show of the document.
use Rattle.std.specs.Prelude.{◌≡◌, Bool, ◌&&◌, cond, List, ℕ, length, leb, Result}
use Rattle.words.specs.Parts.{put}
use Rattle.model.specs.Kinds.{Which, children, attributes, namespaces}
use Rattle.model.specs.Doc.{live_nodes}
use Rattle.model.specs.Calls.{Answered, Call, children-of, attribute-nodes, namespace-nodes, refused, step, nodes}
use Rattle.layout.specs.declared.Document.{Document}
use Rattle.layout.specs.Layout.{memory_ok}
use Rattle.memory.specs.Decode.{decode}
use Rattle.model.specs.declared.Refusal.{Refusal}
use Rattle.reading.specs.Answers.{of_nodes}

unfoldable pub reads : Call → Document → List ℕ → Answered
reads c d mem = cond (memory_ok d (length mem)) (step c (decode d mem)).answer (refused 4)

-- the call that shows a list of a node
abbrev pub list_call : Which → ℕ → Call
list_call children h = children-of h
list_call attributes h = attribute-nodes h
list_call namespaces h = namespace-nodes h

-- `nodes` is lent a list besides: shorter than the node limit is 4, and leaves it as it was; else the handles stand at its front
abbrev pub nodes_ok : Document → List ℕ → List ℕ → Bool
nodes_ok d mem out = memory_ok d (length mem) && leb d.limits.nodes (length out)

pub record NodesRead (d : Document) (mem out after : List ℕ) (r : Result ℕ Refusal) : Type 0 where
  pub answer : of_nodes after r ≡ cond (nodes_ok d mem out) (step nodes (decode d mem)).answer (refused 4)
  pub buffer : after ≡ cond (nodes_ok d mem out) (put 0 (live_nodes (decode d mem)) out) out
