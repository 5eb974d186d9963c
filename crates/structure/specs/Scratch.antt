-- What lies where in scratch while the structure is checked: in the first N of four N words the marks of rules 2, 4 and 6, one after the other; behind the
-- four N the marks of the three arenas, then T words for the texts.
use Rattle.std.specs.Prelude.{ℕ, ◌+◌, ◌*◌}
use Rattle.model.specs.Kinds.{Which, children, attributes, namespaces}
use Rattle.model.specs.Doc.{Limits}

unfoldable pub marks_at : Limits → Which → ℕ
marks_at l children = 4 * l.nodes
marks_at l attributes = 4 * l.nodes + l.entries children
marks_at l namespaces = 4 * l.nodes + l.entries children + l.entries attributes

-- those of the text slots lie behind
unfoldable pub text_marks_at : Limits → ℕ
text_marks_at l = 4 * l.nodes + l.entries children + l.entries attributes + l.entries namespaces
