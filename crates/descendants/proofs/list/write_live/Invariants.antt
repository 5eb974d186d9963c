use Rattle.memory.specs.View.{decoded}
use Rattle.descendants.specs.Walking.{walked}
use Rattle.descendants.proofs.Listing.{Listing}
use Rattle.descendants.proofs.list.write_live.Given as goal

abbrev pub invariant-loop-count : goal.invariant-loop-count
invariant-loop-count l = Listing (decoded l.view) (walked (decoded l.view) l.zone) l.initial.out l.at l.count l.out
