-- What it is for a handle to resolve, told by what calls answer.
use Rattle.std.specs.Prelude.{◌≡◌, ◌≢◌, true, false, List, [], ◌∷◌, ℕ}
use Rattle.words.specs.Lists.{all}
use Rattle.model.specs.Doc.{Doc, resolves}
use Rattle.model.specs.Calls.{refused, step, Call, append-element, append-text, append-comment, append-pi, set-text, set-attribute, remove-attribute, declare-namespace, remove, detach, reparent, insert-at, document-order, compact, root-of, kind-of, parent-of, children-of, root-element, is-element, name_of, attribute-nodes, namespace-nodes, nodes, order-key}

-- the handles that a call is given
abbrev pub handles_of : Call → List ℕ
handles_of (append-element p ns local) = p ∷ []
handles_of (append-text p t) = p ∷ []
handles_of (append-comment p t) = p ∷ []
handles_of (append-pi p target content) = p ∷ []
handles_of (set-text h t) = h ∷ []
handles_of (set-attribute e ns local value) = e ∷ []
handles_of (remove-attribute e ns local) = e ∷ []
handles_of (declare-namespace e prefix uri) = e ∷ []
handles_of (remove h) = h ∷ []
handles_of (detach h) = h ∷ []
handles_of (reparent c p) = c ∷ p ∷ []
handles_of (insert-at p i c) = p ∷ c ∷ []
handles_of document-order = []
handles_of compact = []
handles_of root-of = []
handles_of (kind-of h) = h ∷ []
handles_of (parent-of h) = h ∷ []
handles_of (children-of h) = h ∷ []
handles_of root-element = []
handles_of (is-element h) = h ∷ []
handles_of (name_of n) = []
handles_of (attribute-nodes h) = h ∷ []
handles_of (namespace-nodes h) = h ∷ []
handles_of nodes = []
handles_of (order-key h) = h ∷ []

-- "A handle resolves when no editing call with right buffers would answer 6 for it": `resolves` is that, in every document
pub record ResolvesAsAnswered (d : Doc) : Type 0 where
  -- for one that does not, an editing call answers 6
  pub stale : (h : ℕ) → resolves d h ≡ false → (step (remove h) d).answer ≡ refused 6
  -- for those that do, none does
  pub live : (c : Call) → all (resolves d) (handles_of c) ≡ true → (step c d).answer ≢ refused 6
