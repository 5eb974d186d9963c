-- One step of a walk under a node (02, a; `Descendants` of the source): from a position, the next node below the zone in document order.
use Rattle.std.specs.Prelude.{Bool, ◌&&◌, cond, List, ℕ, zero, suc, ◌-◌, min, eqb, leb, ltb, length, get_or, Some, None, Option}
use Rattle.std.specs.declared.ops.ControlFlow.{ControlFlow}
use Rattle.std.specs.declared.ops.ControlFlow.TheVariants.{Continue, Break}
use Rattle.words.specs.Lists.{index_of}
use Rattle.model.specs.Kinds.{children}
use Rattle.model.specs.Doc.{Doc, resolves, shown_list, shown_parent, any_option}
use Rattle.steps.specs.declared.position.Hints.{Hints}
use Rattle.steps.specs.declared.position.Position.{Position}
use Rattle.steps.specs.declared.step.Above.{Above}

-- ---- where a node stands in its parent's list

-- the hint for lists of this length
abbrev pub hint_for : Hints → ℕ → ℕ
hint_for p len = cond (ltb len 16) p.short (cond (ltb len 256) p.middling (cond (ltb len 4096) p.long p.longest))

abbrev pub with_hint : Hints → ℕ → ℕ → Hints
with_hint p len k =
    cond (ltb len 16) (record p { short = k })
    (cond (ltb len 256) (record p { middling = k }) (cond (ltb len 4096) (record p { long = k }) (record p { longest = k })))

-- the index of x: the hint, if x is there, else found from the front
unfoldable pub hinted_index : List ℕ → ℕ → ℕ → ℕ
hinted_index l x k = cond (ltb k (length l) && eqb x (get_or l k 0)) k (index_of (eqb x) l)

-- ---- one step

-- y resolves, and q is its parent
abbrev pub names_parent : Doc → ℕ → ℕ → Bool
names_parent d q y = any_option (eqb q) (shown_parent d y)

-- the next node is the one at index k of q's list l; a walk ends at one that names another parent, which only damaged memory has
abbrev pub visit_entry : Doc → Position → ℕ → List ℕ → ℕ → Option Position
visit_entry d p q l k =
    cond (names_parent d q (get_or l k 0))
    (Some (record p { node = get_or l k 0; hints = with_hint p.hints (length l) k; left = min p.left d.limits.nodes - 1 }))
    None

-- One turn of the search for the node that follows another: there is none, it is found, or it is behind the parent, with the room that is left.
abbrev pub Sought : Type 0
Sought = ControlFlow (Option Position) Above

-- behind x in the list of its parent, or further up from the parent; a parent that does not resolve, or whose list is longer than the room that is left,
-- ends the walk, and only damaged memory has one
abbrev pub seek_under : ℕ → Doc → Position → ℕ → Option ℕ → Sought
seek_under room d p x None = Break None
seek_under room d p x (Some q) =
    let l = shown_list d children q in
    let k = hinted_index l x (hint_for p.hints (length l)) in
    cond (resolves d q && leb (length l) room)
    (cond (ltb (suc k) (length l)) (Break (visit_entry d p q l (suc k))) (Continue (record { node = q; room = room - length l })))
    (Break None)

-- the parent of a node below the zone
abbrev pub parent_below : Doc → Position → ℕ → Option ℕ
parent_below d p x = cond (eqb x p.zone) None (shown_parent d x)

unfoldable pub seek : ℕ → Doc → Position → ℕ → Sought
seek room d p x = seek_under room d p x (parent_below d p x)

abbrev pub resumed : (ℕ → ℕ → Option Position) → Sought → Option Position
resumed up (Break found) = found
resumed up (Continue above) = up above.node above.room

-- the node that follows x and all that is below it: the sibling behind x, or behind the nearest node above it that has one, as far as the zone
abbrev pub following : ℕ → ℕ → Doc → Position → ℕ → Option Position
following zero room d p x = None
following (suc f) room d p x = resumed (λ q rest. following f rest d p q) (seek room d p x)

-- the first child, else the node that follows; the slots made are turns enough, and as many entries are room enough
abbrev pub successor : Doc → Position → Option Position
successor d p =
    cond (ltb 0 (length (shown_list d children p.node))) (visit_entry d p p.node (shown_list d children p.node) 0)
    (following (length d.gens) (length d.gens) d p p.node)

abbrev pub next : Doc → Position → Option Position
next d p = cond (ltb 0 (min p.left d.limits.nodes) && resolves d p.node) (successor d p) None

-- ---- where a walk begins

-- below h, n nodes at most
abbrev pub start : ℕ → ℕ → Position
start n h = record { zone = h; node = h; hints = record { short = 0; middling = 0; long = 0; longest = 0 }; left = n }
