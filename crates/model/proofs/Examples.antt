-- The starred examples hold, by computation.
-- Assumes nothing.
use mathlib.Core.Path.{refl}
use Rattle.words.specs.Parts.{part, put}
use Rattle.words.specs.Lists.{insert_at}
use Rattle.blocks.specs.Arena.{takes, has_room, inserted, removed}
use Rattle.texts.specs.Pool.{stored, replaced, released, texts_fit}
use Rattle.names.specs.Table.{interned, name_fits}
use Rattle.model.specs.Edits.{set_parent, set_kind, rebuild_arenas, born, link, unlink, free_all, order_of, renew_order}
use Rattle.chars.specs.Productions.{within, is_char, is_char11, is_name_start_char, is_name_char}
use Rattle.chars.specs.Classes.{class_of, is_nc_name}
use Rattle.chars.specs.Utf8.{two, three, four, decode}
use Rattle.chars.specs.Utf8 as utf8
use Rattle.chars.specs.Checks.{on_text, of_text, check_prefix, check_text, check_literal, is_literal, check_comment, check_namespace, check_namespace_binding}
use Rattle.chars.specs.Checks as text
use Rattle.model.specs.Arguments.{is_utf8, name_check, namespace_check, binding_check, prefix_check, text_check, comment_check, space_only, is_xmlns}
use Rattle.model.specs.Tree as plain
use Rattle.model.specs.Calls.{guarded}
use Rattle.model.specs.Examples.{Starred}

pub starred : Starred
unfolding guarded plain.set_list plain.set_parent plain.set_kind plain.born part put insert_at takes has_room inserted removed stored replaced released texts_fit interned name_fits set_parent set_kind rebuild_arenas born link unlink free_all order_of renew_order is_utf8 name_check namespace_check binding_check prefix_check text_check comment_check space_only is_xmlns text.is_utf8 text.is_xmlns of_text on_text decode utf8.step utf8.step_at two three four is_nc_name class_of within is_name_start_char is_name_char check_text is_char11 check_prefix check_namespace check_namespace_binding check_comment check_literal is_literal is_char text.is_white_space text.is_space
starred = record {
  one-element = (refl, refl, refl);
  one-text = (refl, refl);
  one-moved = (refl, refl, refl);
  two = refl;
  three-last = refl;
  three-past = refl;
  three-middle = refl;
  four = (refl, refl);
  five = (refl, refl);
  six = refl;
  seven = refl;
  eight = refl;
  nine-refused = refl;
  nine-accepted = refl;
  eleven = refl;
  eleven-bound = refl;
  eleven-undone = refl;
  under-child = refl;
  replaced-value = refl;
  replaced-plainly = (refl, refl);
  detached-kept = refl;
  order-stale = refl;
}
