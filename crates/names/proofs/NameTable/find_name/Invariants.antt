use Rattle.names.proofs.Search.{Reached, Left}
use Rattle.names.proofs.NameTable.find_name.Given as goal

abbrev pub invariant-loop-k : goal.invariant-loop-k
invariant-loop-k l = Reached l.base l.n l.words l.k l.at × Left l.base l.n l.words l.name.namespace.now l.name.local.now l.k
