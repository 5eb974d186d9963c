-- A node freed: its text slots on the free text list, then its own slot free. The bytes of all texts are given back after.
use Rattle.std.specs.Prelude.{false, List, [], ◌∷◌, ℕ, set, Option}
use Rattle.words.specs.Lists.{joined}
use Rattle.texts.specs.Pool.{Pool, pushed}
use Rattle.model.specs.Kinds.{texts_of}
use Rattle.model.specs.Doc.{Doc, change_slots, change_current, generation_at, kind_in, kind_at}
use Rattle.model.specs.Edits.{up, free_all}
use Rattle.edits.specs.Pooled.{set_pool}

-- the slot goes on the free list, its generation up by one; the order stops being current
unfoldable pub free_slot : Doc → ℕ → Doc
free_slot d s = change_current (change_slots d (set d.gens s (up (generation_at d s))) (s ∷ d.free)) false

-- the text slots of fields go on the free text list, their bytes stay
abbrev pub pushed_all : Pool → List (Option ℕ) → Pool
pushed_all p [] = p
pushed_all p (t ∷ l) = pushed_all (pushed p t) l

abbrev pub free_node : Doc → ℕ → Doc
free_node d s = free_slot (set_pool d (pushed_all d.pool (texts_of (kind_in d s)))) s

-- `free_all` before the bytes are given back
abbrev pub free_all_slots : Doc → List ℕ → Doc
free_all_slots d l = set_pool (free_all d l) (pushed_all d.pool (joined (λ h. texts_of (kind_at d h)) l))
