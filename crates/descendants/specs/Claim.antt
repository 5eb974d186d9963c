-- The walk under one zone (02, a): after every list of calls, and in memory that no list of calls leaves, over what the calls promise.
use Rattle.std.specs.Prelude.{◌≡◌, true, false, List, [], ◌∷◌, map, ℕ, suc, ◌≤◌, eqb, length, Result, Ok, Err, Some, None, Option}
use Rattle.words.specs.Lists.{count_of, keep, all}
use Rattle.words.specs.Parts.{put}
use Rattle.model.specs.Kinds.{children, which_of, same_which}
use Rattle.model.specs.Doc.{Doc, root_handle, resolves}
use Rattle.model.specs.Calls.{done}
use Rattle.model.specs.Tree.{Tree, seed, in_order}
use Rattle.layout.specs.declared.Document.{Document}
use Rattle.layout.specs.declared.Limits as given
use Rattle.layout.specs.Layout.{memory_ok}
use Rattle.memory.specs.Decode.{decode}
use Rattle.model.specs.declared.Refusal.{Refusal}
use Rattle.tree.specs.Contract.{Starts}
use Rattle.tree.specs.Claim.{Event, Called, Tells, last_record, last_memory, tree_end}
use Rattle.steps.specs.declared.position.Position.{Position}
use Rattle.descendants.specs.Walking.{descendants, walked, looked}
use Rattle.descendants.specs.Contract.{next_of, count_below, written_below, walk_of}

-- "With no edit between its steps, the list equals the plain tree's, each node once, for detached trees also": of every live node, whether it hangs under
-- the Root or not
pub record WalksUnder (hs : ℕ → ℕ) (d : Document) (mem : List ℕ) (t : Tree) (b : ℕ) : Type 0 where
  -- by `descendants_of` and then `next` until the end
  pub steps : walk_of d mem (hs b) ≡ Some (map hs (descendants t b))
  -- by `list_below`, into a list of N words or more
  pub whole : (out : List ℕ) → d.limits.nodes ≤ length out
      → (count_below d mem (hs b) out ≡ Ok (length (descendants t b))) × (written_below d mem (hs b) out ≡ put 0 (map hs (descendants t b)) out)
  pub once : (h : ℕ) → count_of (eqb h) (map hs (descendants t b)) ≤ 1
  -- "in document order without attributes and namespaces": the plain tree's own order, with what is no child left out
  pub ordered : which_of (t.kind b) ≡ children
      → keep (λ x. same_which (which_of (t.kind x)) children) (in_order (suc t.births) t.lists b) ≡ b ∷ descendants t b

-- at every place of every list of calls from Start: each place is the end of a shorter list
abbrev pub WalkUnderZone : Type 0
WalkUnderZone =
    (l : given.Limits) (mem mem' : List ℕ) (d : Document) → Starts l mem done d mem' → (es : List Event) → Called d mem' es
    → (hs : ℕ → ℕ) → hs 0 ≡ root_handle → Tells hs es seed
    → (b : ℕ) → (tree_end hs es seed).live b ≡ true → WalksUnder hs (last_record d es) (last_memory mem' es) (tree_end hs es seed) b

-- ---- in any memory

-- "A stale start yields an empty list."
abbrev pub StaleStart : Type 0
StaleStart =
    (d : Document) (mem : List ℕ) (h : ℕ) → memory_ok d (length mem) ≡ true → resolves (decode d mem) h ≡ false
    → (walk_of d mem h ≡ Some []) × (walked (decode d mem) h ≡ [])

-- what a step finds: an edit, or damage, may lie between any two steps
pub record Lent : Type 0 where
  pub document : Document
  pub memory : List ℕ

-- a node listed, in the document that its step found
pub record Seen : Type 0 where
  pub doc : Doc
  pub node : ℕ

abbrev pub seen : Doc → (Position → List Seen) → Result (Option Position) Refusal → List Seen
seen d more (Ok (Some q)) = record { doc = d; node = q.node } ∷ more q
seen d more (Ok None) = []
seen d more (Err w) = []

-- the nodes that `next` lists from a position on
abbrev pub along : List Lent → Position → List Seen
along [] p = []
along (m ∷ ms) p = seen (decode m.document m.memory) (λ q. along ms q) (next_of m.document m.memory p)

-- the records have one limit of nodes
abbrev pub Limited : ℕ → List Lent → Type 0
Limited n [] = Unit {0}
Limited n (m ∷ ms) = (m.document.limits.nodes ≡ n) × Limited n ms

-- "After an edit, from a made-up position or in damaged memory a walk lists only nodes that resolve, N at most"
abbrev pub FromAnywhere : Type 0
FromAnywhere =
    (n : ℕ) (ms : List Lent) (p : Position) → Limited n ms
    → (length (along ms p) ≤ n) × (all (λ s. resolves s.doc s.node) (along ms p) ≡ true)

-- the lists that one step looks at on its way up have no more entries, together, than there are slots made
abbrev pub OneStep : Type 0
OneStep = (d : Doc) (p : Position) → looked (length d.gens) (length d.gens) d p p.node ≤ length d.gens
