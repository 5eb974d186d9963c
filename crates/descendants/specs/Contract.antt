-- What the calls of a walk promise, for every record, memory, position and handle: "Its calls test 4 only."
use Rattle.std.specs.Prelude.{cond, List, [], ◌∷◌, ℕ, zero, suc, length, Result, Ok, Err, Some, None, Option}
use Rattle.words.specs.Parts.{put}
use Rattle.model.specs.declared.Refusal.{Refusal}
use Rattle.model.specs.declared.Refusal.TheVariants.{BadBuffers}
use Rattle.model.specs.Doc.{map_option}
use Rattle.layout.specs.declared.Document.{Document}
use Rattle.layout.specs.Layout.{memory_ok}
use Rattle.memory.specs.Decode.{decode}
use Rattle.reading.specs.Contract.{nodes_ok}
use Rattle.steps.specs.declared.position.Position.{Position}
use Rattle.steps.specs.Next.{start, next}
use Rattle.descendants.specs.Walking.{walked}

-- `descendants_of`
unfoldable pub starts_of : Document → List ℕ → ℕ → Result Position Refusal
starts_of d mem h = cond (memory_ok d (length mem)) (Ok (start d.limits.nodes h)) (Err BadBuffers)

-- `next`
unfoldable pub next_of : Document → List ℕ → Position → Result (Option Position) Refusal
next_of d mem p = cond (memory_ok d (length mem)) (Ok (next (decode d mem) p)) (Err BadBuffers)

-- `list_below` is lent a list besides, as `nodes` is: shorter than the node limit is 4, and leaves it as it was; else the handles that the walk
-- lists stand at its front, and the words past them are as they were
unfoldable pub count_below : Document → List ℕ → ℕ → List ℕ → Result ℕ Refusal
count_below d mem h out = cond (nodes_ok d mem out) (Ok (length (walked (decode d mem) h))) (Err BadBuffers)

unfoldable pub written_below : Document → List ℕ → ℕ → List ℕ → List ℕ
written_below d mem h out = cond (nodes_ok d mem out) (put 0 (walked (decode d mem) h) out) out

-- ---- a walk by its calls: `next` on the position that the call before answered, until the end

abbrev pub nodes_of : (Position → Option (List ℕ)) → Result (Option Position) Refusal → Option (List ℕ)
nodes_of more (Ok (Some q)) = map_option (λ l. q.node ∷ l) (more q)
nodes_of more (Ok None) = Some []
nodes_of more (Err w) = None

-- the nodes that n calls list; none where they were refused, or did not reach the end
abbrev pub next_until_end : ℕ → Document → List ℕ → Position → Option (List ℕ)
next_until_end zero d mem p = None
next_until_end (suc n) d mem p = nodes_of (λ q. next_until_end n d mem q) (next_of d mem p)

abbrev pub nodes_from : Document → List ℕ → Result Position Refusal → Option (List ℕ)
nodes_from d mem (Ok p) = next_until_end (suc d.limits.nodes) d mem p
nodes_from d mem (Err w) = None

-- from `descendants_of` on
abbrev pub walk_of : Document → List ℕ → ℕ → Option (List ℕ)
walk_of d mem h = nodes_from d mem (starts_of d mem h)
