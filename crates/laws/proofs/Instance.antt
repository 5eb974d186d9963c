-- The claim at one list of calls, with a removal and a reuse of the slot: its premises are met, and by these handles.
-- Assumes nothing.
use mathlib.Core.Path.{◌≡◌, refl}
use mathlib.Core.List.{[], ◌∷◌}
use Prim.Native.Nat.{ℕ}
use native.Mathlib.Omega.{arith}
use lib.ListN.{get_or}
use Rattle.words.specs.Parts.{part, put}
use Rattle.words.specs.Lists.{insert_at}
use Rattle.blocks.specs.Arena.{takes, has_room, inserted, removed}
use Rattle.texts.specs.Pool.{stored, replaced, released, texts_fit}
use Rattle.names.specs.Table.{interned, name_fits}
use Rattle.model.specs.Doc.{fresh, limits_ok}
use Rattle.model.specs.Edits.{set_parent, born, link, unlink, free_all}
use Rattle.chars.specs.Productions.{within, is_char11, is_name_start_char, is_name_char}
use Rattle.chars.specs.Classes.{class_of, is_nc_name}
use Rattle.chars.specs.Utf8.{two, three, four, decode}
use Rattle.chars.specs.Utf8 as utf8
use Rattle.chars.specs.Checks.{on_text, of_text, check_text, check_namespace}
use Rattle.chars.specs.Checks as text
use Rattle.model.specs.Arguments.{is_utf8, name_check, namespace_check, text_check, space_only}
use Rattle.model.specs.Calls.{guarded}
use Rattle.model.specs.Tree.{seed}
use Rattle.model.specs.Tree as tree
use Rattle.laws.specs.Claim.{Tells, Claim}
use Rattle.model.specs.Examples.{limits, h, reused}
use Rattle.laws.proofs.Theorem.{demand-three}

-- the handles of the Root, the element, the two texts, and the text in the reused slot
abbrev handles : ℕ → ℕ
handles b = get_or (h 0 0 ∷ h 1 0 ∷ h 2 0 ∷ h 3 0 ∷ h 2 2 ∷ []) b 0

told : Tells handles reused (fresh limits) seed
unfolding guarded part put insert_at takes has_room inserted removed stored replaced released texts_fit interned name_fits set_parent born link unlink free_all is_utf8 name_check namespace_check text_check space_only text.is_utf8 of_text on_text decode utf8.step utf8.step_at two three four is_nc_name class_of within is_name_start_char is_name_char check_text is_char11 check_namespace text.is_white_space text.is_space tree.born tree.set_parent tree.set_list tree.unlink tree.gone
told = (λ m. refl, (λ m. refl, (λ m. refl, (λ m. absurd (omega arith), (λ m. refl, (λ m. absurd (omega arith), tt))))))

within-limits : limits_ok limits ≡ mathlib.Core.Bool.true
unfolding limits_ok
within-limits = refl

pub reused-explained : Claim handles reused (fresh limits) seed
reused-explained = (demand-three limits within-limits reused).claim handles refl told
