-- The pass over the slots: what is tested of each, and what it does to the marks in scratch.
use Rattle.std.specs.Prelude.{◌≡◌, Bool, true, ◌&&◌, List, ℕ, replicate}
use Rattle.words.specs.Parts.{part, put}
use Rattle.words.specs.Lists.{all_below}
use Rattle.blocks.specs.Arena.{Arena, Block}
use Rattle.blocks.specs.Claims.{block_claimable, block_claimed}
use Rattle.model.specs.Kinds.{Which}
use Rattle.model.specs.Doc.{Doc}
use Rattle.model.specs.Rules.{block_in, held_in}
use Rattle.model.specs.RulesTest.{all_which}
use Rattle.layout.specs.declared.Document.{Document}
use Rattle.layout.specs.Layout.{limits_of}
use Rattle.memory.specs.Decode.{slots_made, arena_used, arena_in}
use Rattle.entries.specs.Nodes.{decode_nodes}
use Rattle.entries.specs.Marks.{Counted, Adds, Pass, gathered}
use Rattle.entries.specs.Fields.{fields_hold}
use Rattle.structure.specs.Scratch.{marks_at, text_marks_at}
use Rattle.structure.specs.Tests.{root_test, parent_test, claims_met}

-- a block of an arena claims its entries, whose marks lie from index at on
pub record Claim (a : Arena) (b : Block) (at : ℕ) (before after : List ℕ) (r : Bool) : Type 0 where
  pub answer : r ≡ block_claimable a (part at a.used before) b
  pub marks : after ≡ put at (block_claimed a (part at a.used before) b) before

-- rule 1's "the only live Root" and rule 3, of a slot
unfoldable pub owner_holds : Doc → ℕ → Bool
owner_holds D i = root_test D i && parent_test D i

module _ (d : Document) where
  -- the marks of an arena in scratch, and those of the text slots made
  unfoldable pub arena_marks : List ℕ → Which → List ℕ
  arena_marks scratch w = part (marks_at (limits_of d.limits) w) (arena_used d w) scratch

  unfoldable pub text_marks : List ℕ → List ℕ
  text_marks scratch = part (text_marks_at (limits_of d.limits)) d.counts.texts scratch

  -- before the pass
  pub record Cleared (scratch : List ℕ) : Type 0 where
    pub arenas : (w : Which) → arena_marks scratch w ≡ replicate (arena_used d w) 0
    pub texts : text_marks scratch ≡ replicate d.counts.texts 0

  module _ (mem : List ℕ) where
    -- with rule 8's fields
    unfoldable pub slot_holds : ℕ → Bool
    slot_holds i = owner_holds (decode_nodes d mem) i && fields_hold d.counts.texts d.counts.names (decode_nodes d mem) i

    module _ (s : ℕ) where
      -- the claim of a slot in an arena is met
      unfoldable pub claim_met : List ℕ → Which → Bool
      claim_met scratch w = block_claimable (arena_in d w mem) (arena_marks scratch w) (block_in (decode_nodes d mem) w s)

      -- the claims of a slot
      pub record Claims (before after : List ℕ) (r : Bool) : Type 0 where
        pub answer : r ≡ all_which (claim_met before)
        pub arenas : r ≡ true → (w : Which) → arena_marks after w ≡ block_claimed (arena_in d w mem) (arena_marks before w) (block_in (decode_nodes d mem) w s)
        pub texts : r ≡ true → text_marks after ≡ text_marks before

      -- its fields
      pub record Fields (before after : List ℕ) (r : Bool) : Type 0 where
        pub pass : Pass d.counts.texts (fields_hold d.counts.texts d.counts.names (decode_nodes d mem) s) (held_in (decode_nodes d mem) s) (text_marks before) (text_marks after) r
        pub arenas : (w : Which) → arena_marks after w ≡ arena_marks before w

      -- all that a slot's turn answers, and what the marks are where it passes
      pub record Turn (before after : List ℕ) (r : Bool) : Type 0 where
        pub answer : r ≡ (slot_holds s && all_which (claim_met before))
        pub arenas : r ≡ true → (w : Which) → arena_marks after w ≡ block_claimed (arena_in d w mem) (arena_marks before w) (block_in (decode_nodes d mem) w s)
        pub texts : r ≡ true → Adds d.counts.texts (held_in (decode_nodes d mem) s) (text_marks before) (text_marks after)

    -- what the pass decides, and what is counted where it passes
    unfoldable pub slots_hold : Bool
    slots_hold = all_below slot_holds (slots_made d) && all_which (claims_met (decode_nodes d mem))

    pub record Each (after : List ℕ) (r : Bool) : Type 0 where
      pub answer : r ≡ slots_hold
      pub counted : r ≡ true → Counted d.counts.texts (gathered (held_in (decode_nodes d mem)) (slots_made d)) (text_marks after)
