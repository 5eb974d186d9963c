-- Demand 3: one claim about every list of the editing and reading calls, over what their contracts promise. The plain tree is
-- `Rattle.model.specs.Tree`; how answers are compared, and what holds of a document that a tree explains, is in `Rattle.laws.specs.Claim`.
use Rattle.std.specs.Prelude.{◌≡◌, ◌≢◌, ◌⊎◌, Bool, true, false, cond, List, [], ◌∷◌, ℕ, ◌<◌}
use Rattle.model.specs.Doc.{root_handle}
use Rattle.model.specs.Calls.{Call, nodes, Answered, refused, done, answers}
use Rattle.model.specs.Calls as calls
use Rattle.model.specs.Tree.{Tree, seed}
use Rattle.model.specs.Tree as tree
use Rattle.laws.specs.Claim.{Agrees, Explains, no_step, handle_told}
use Rattle.layout.specs.declared.Document.{Document}
use Rattle.layout.specs.declared.Limits as given
use Rattle.memory.specs.Decode.{decode}
use Rattle.reading.specs.Contract.{reads}
use Rattle.editing.specs.Contract.{is_editing, Edits}
use Rattle.tree.specs.Contract.{Starts}

-- ---- a list of calls

-- One call of a list: the call, the scratch it was lent (whatever that held), its answer, and the record and memory after it.
pub record Event : Type 0 where
  pub call : Call
  pub scratch : List ℕ
  pub answer : Answered
  pub document : Document
  pub memory : List ℕ
  pub scratch_after : List ℕ

-- the event is what the call's contract promises; `nodes` is refused 4 too where the list that it is lent to fill is too short
abbrev pub PromisedBy : Bool → Document → List ℕ → Event → Type 0
PromisedBy true d mem e = Edits e.call d mem e.scratch e.answer e.document e.memory e.scratch_after
PromisedBy false d mem e =
    ((e.answer ≡ reads e.call d mem) ⊎ ((e.call ≡ nodes) × (e.answer ≡ refused 4))) × (e.document ≡ d) × (e.memory ≡ mem)

abbrev pub Promised : Document → List ℕ → Event → Type 0
Promised d mem e = PromisedBy (is_editing e.call) d mem e

-- "each call gets the document memory as the one before left it and the record last returned"
abbrev pub Called : Document → List ℕ → List Event → Type 0
Called d mem [] = Unit {0}
Called d mem (e ∷ es) = Promised d mem e × Called e.document e.memory es

-- ---- the plain tree beside it

abbrev pub tree_after : (ℕ → ℕ) → Event → Tree → Tree
tree_after hs e t = cond (no_step e.answer) t (tree.step e.call hs t).tree

-- the document and the answer that the event leaves
abbrev pub out_of : Event → calls.Out
out_of e = answers (decode e.document e.memory) e.answer

-- hs gives each birth's handle, read off the answers and the memory alone
abbrev pub Tells : (ℕ → ℕ) → List Event → Tree → Type 0
Tells hs [] t = Unit {0}
Tells hs (e ∷ es) t =
    (t.births < (tree_after hs e t).births → hs t.births ≡ handle_told e.call (out_of e)) × Tells hs es (tree_after hs e t)

-- ---- the end of a list: the record last returned, the memory as it is left, and the plain tree

abbrev pub last_record : Document → List Event → Document
last_record d [] = d
last_record d (e ∷ es) = last_record e.document es

abbrev pub last_memory : List ℕ → List Event → List ℕ
last_memory mem [] = mem
last_memory mem (e ∷ es) = last_memory e.memory es

abbrev pub tree_end : (ℕ → ℕ) → List Event → Tree → Tree
tree_end hs [] t = t
tree_end hs (e ∷ es) t = tree_end hs es (tree_after hs e t)

-- ---- the claim

-- At every place the memory is explained by the plain tree; no call is refused Damaged; every other answer but 4 and 14 is the plain tree's.
abbrev pub Holds : (ℕ → ℕ) → List Event → Document → List ℕ → Tree → Type 0
Holds hs [] d mem t = Explains hs (decode d mem) t
Holds hs (e ∷ es) d mem t =
    Explains hs (decode d mem) t
    × (e.answer ≢ refused 5)
    × (no_step e.answer ≡ false → Agrees hs e.call (out_of e) (tree.step e.call hs t))
    × Holds hs es e.document e.memory (tree_after hs e t)

-- Demand 3. From what an accepted Start leaves, whatever its limits: for every list of calls the births' handles can be told, and however they
-- are told, the claim holds.
pub record PlainTree (d : Document) (mem : List ℕ) (es : List Event) : Type 0 where
  pub told : (hs : ℕ → ℕ) × (hs 0 ≡ root_handle) × Tells hs es seed
  pub claim : (hs : ℕ → ℕ) → hs 0 ≡ root_handle → Tells hs es seed → Holds hs es d mem seed

abbrev pub DemandThree : Type 0
DemandThree =
    (l : given.Limits) (mem mem' : List ℕ) (d : Document) → Starts l mem done d mem' → (es : List Event) → Called d mem' es → PlainTree d mem' es
