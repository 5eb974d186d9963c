-- `classes::class_in_table` meets its contract: the table obeys the productions by one computed test, carried to every entry.
-- Assumes nothing.
use borrow.Author.Rules.{rules}
use Rattle.chars.specs.Productions.{within, is_name_start_char, is_name_char}
use Rattle.chars.specs.Classes.{class_of}
use Rattle.classes.proofs.Entries.{obeyed}
use Rattle.classes.proofs.class.class_in_table.Goals as goal

pub returns : goal.returns
unfolding within class_of is_name_start_char is_name_char
returns c = obeyed class_of 2048 c.args.c (search rules)
