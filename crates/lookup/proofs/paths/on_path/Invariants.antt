use Rattle.lookup.proofs.Climbing.{Climbed}
use Rattle.memory.specs.Decode.{slots_made}
use Rattle.memory.specs.View.{decoded}
use Rattle.lookup.proofs.paths.on_path.Given as goal

abbrev pub invariant-loop : goal.invariant-loop
invariant-loop l = Climbed (decoded l.view) (slots_made l.view.document) l.top l.initial.at l.counter l.at
