use lib.ListN.{length}
use Rattle.vectors.proofs.cases.agree.Given as goal

abbrev pub decreases-loop-rest : goal.decreases-loop-rest
decreases-loop-rest g l = length l.rest
