-- `entries::node_lists::list_number` meets its contract.
-- Assumes nothing.
use Rattle.entries.specs.Entering.{kind_list}
use Rattle.entries.proofs.EntryWords.{list-of-child}
use Rattle.entries.proofs.node_lists.list_number.Goals as goal

pub returns-in-2 : goal.returns-in-2
unfolding kind_list
returns-in-2 c = simp c.in-2.is

pub returns-in-5 : goal.returns-in-5
unfolding kind_list
returns-in-5 c = simp c.in-5.is

pub returns-in_default : goal.returns-in_default
returns-in_default c = list-of-child _ c.in_default.in_default-own.rest.0.1 c.in_default.in_default-own.rest.1
