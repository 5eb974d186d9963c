-- What is tested of one slot, one entry or one arena, where a rule's test names a test of all of them.
use Rattle.std.specs.Prelude.{Bool, not, ◌&&◌, ◌||◌, cond, List, ℕ, length, get_or, eqb, leb, None}
use Rattle.words.specs.Lists.{all_below}
use Rattle.blocks.specs.Claims.{all_claimable}
use Rattle.model.specs.Kinds.{Which, is_element, is_root}
use Rattle.model.specs.Doc.{Doc, generation_at, live_slot, kind_in, kind_at, parent_in, is_none, any_option}
use Rattle.model.specs.Rules.{block_in}
use Rattle.model.specs.RulesTest.{implies, fits_field, all_which, all_live, parent_holds, parents_hold, blocks_hold, texts_hold}
use Rattle.layout.specs.declared.Document.{Document}
use Rattle.layout.specs.Layout.{limits_of}
use Rattle.memory.specs.Decode.{counts_within, decode}
use Rattle.entries.specs.Nodes.{decode_nodes, words_hold}

-- ---- rule 1

-- the capacities of an arena, and of all three
unfoldable pub capacities_fit : Doc → Which → Bool
capacities_fit D w = all_below (λ i. fits_field (get_or (D.arenas w).caps i 0)) (D.arenas w).used

unfoldable pub arenas_fit : Doc → Bool
arenas_fit D = all_which (capacities_fit D)

-- "Slot 0 is .. Root: generation 0, no parent"
unfoldable pub root_stands : Doc → Bool
root_stands D = eqb (generation_at D 0) 0 && any_option is_root (get_or D.kinds 0 None) && is_none (parent_in D 0)

-- "the only live Root"
unfoldable pub root_test : Doc → ℕ → Bool
root_test D i = implies (live_slot D i) (implies (is_root (kind_in D i)) (eqb i 0))

unfoldable pub only_root : Doc → Bool
only_root D = all_live D (λ i. implies (is_root (kind_in D i)) (eqb i 0))

-- ---- rule 3

-- of kinds by their numbers in the words: which stand among their parent's children, and which may own which
unfoldable pub child_number : ℕ → Bool
child_number kind = not (eqb kind 2 || eqb kind 5)

unfoldable pub owns_number : ℕ → ℕ → Bool
owns_number owner owned = cond (child_number owned) (leb owner 1) (eqb owner 1)

unfoldable pub parent_test : Doc → ℕ → Bool
parent_test D i = implies (live_slot D i) (parent_holds D i (parent_in D i))

-- ---- rule 5

-- the claims of an arena's blocks are met, one after another
unfoldable pub claims_met : Doc → Which → Bool
claims_met D w = all_claimable (D.arenas w) (block_in D w) (length D.gens)

-- ---- rule 7

-- an entry's handle, stale or not
unfoldable pub element_test : Doc → ℕ → Bool
element_test D h = is_element (kind_at D h)

-- ---- the order of the tests

-- rule 1, but for other Roots
unfoldable pub fields_fit : Document → List ℕ → Bool
fields_fit d mem =
    counts_within (limits_of d.limits) d.counts && words_hold d mem && (arenas_fit (decode_nodes d mem) && root_stands (decode_nodes d mem))

-- what a pass over the slots decides: the rest of rule 1, and rules 3, 5 and 8
unfoldable pub each_holds : Document → List ℕ → Bool
each_holds d mem = only_root (decode_nodes d mem) && parents_hold (decode_nodes d mem) && blocks_hold (decode_nodes d mem) && texts_hold (decode d mem)
