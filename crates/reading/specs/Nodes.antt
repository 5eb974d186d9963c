-- A slot's place in the list of all nodes: its handle where it holds a live node.
use Rattle.std.specs.Prelude.{cond, List, [], ◌∷◌, ℕ}
use Rattle.model.specs.Doc.{Doc, live_slot, handle_at}

unfoldable pub live_entry : Doc → ℕ → List ℕ
live_entry d i = cond (live_slot d i) (handle_at d i ∷ []) []
