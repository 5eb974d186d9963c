-- A walk under one node (02, a; `Descendants` of the source): the nodes below it in document order, without attributes and namespaces, itself left out.
use Rattle.std.specs.Prelude.{cond, List, [], ◌∷◌, ℕ, zero, suc, ◌+◌, leb, length, Some, None, Option}
use Rattle.std.specs.declared.ops.ControlFlow.TheVariants.{Continue, Break}
use Rattle.words.specs.Lists.{joined}
use Rattle.model.specs.Kinds.{children}
use Rattle.model.specs.Doc.{Doc, shown_list}
use Rattle.model.specs.Tree.{Tree}
use Rattle.steps.specs.declared.position.Position.{Position}
use Rattle.steps.specs.Next.{Sought, parent_below, seek, next, start}

-- ---- the plain tree

-- the nodes below x, to a depth: each child, then what is below it
abbrev pub below : ℕ → (ℕ → List ℕ) → ℕ → List ℕ
below zero kids x = []
below (suc f) kids x = joined (λ y. y ∷ below f kids y) (kids x)

abbrev pub descendants : Tree → ℕ → List ℕ
descendants t b = below t.births (t.lists children) b

-- ---- a walk

abbrev pub listed : (Position → List ℕ) → Option Position → List ℕ
listed more None = []
listed more (Some q) = q.node ∷ more q

-- the nodes listed from a position on, in n steps
abbrev pub list_from : ℕ → Doc → Position → List ℕ
list_from zero d p = []
list_from (suc n) d p = listed (λ q. list_from n d q) (next d p)

-- the whole walk: N steps are enough
abbrev pub walked : Doc → ℕ → List ℕ
walked d h = list_from d.limits.nodes d (start d.limits.nodes h)

-- ---- how much one step looks at

abbrev pub more : (ℕ → ℕ → ℕ) → Sought → ℕ
more up (Break found) = 0
more up (Continue above) = up above.node above.room

-- the entries of a parent's list, where there is room for it
abbrev pub looked_under : ℕ → Doc → Option ℕ → ℕ
looked_under room d None = 0
looked_under room d (Some q) = cond (leb (length (shown_list d children q)) room) (length (shown_list d children q)) 0

-- the entries of the lists that `following` looks at
abbrev pub looked : ℕ → ℕ → Doc → Position → ℕ → ℕ
looked zero room d p x = 0
looked (suc f) room d p x = looked_under room d (parent_below d p x) + more (λ q rest. looked f rest d p q) (seek room d p x)
