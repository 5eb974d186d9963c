-- The worked examples that speak of one arena, by computation.
-- Assumes nothing.
use mathlib.Core.Path.{refl}
use Rattle.words.specs.Parts.{part, put}
use Rattle.words.specs.Lists.{insert_at}
use Rattle.blocks.specs.Arena.{inserted, removed}
use Rattle.blocks.specs.Examples.{first, appended, move_within, shown, abc, root_gets_element, element_gets_text, root_gets_text, capacity_after, ArenaExamples}

pub arena-examples : ArenaExamples
unfolding first appended move_within shown abc root_gets_element element_gets_text root_gets_text capacity_after inserted removed part put insert_at
arena-examples =
    record {
      root-block = refl;
      root-arena = refl;
      element-block = refl;
      element-arena = refl;
      record-erased = refl;
      root-moved = refl;
      root-moved-arena = refl;
      root-list = refl;
      to-two = refl;
      to-nine = refl;
      to_one = refl;
      fifth-child = refl;
      ninth-child = refl;
    }
