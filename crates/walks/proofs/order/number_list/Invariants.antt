use Rattle.words.specs.Parts.{part}
use Rattle.walks.specs.Order.{put_keys}
use Rattle.walks.proofs.order.number_list.Given as goal
use Rattle.memory.specs.Lent.{Becomes}

abbrev pub invariant-loop-k : goal.invariant-loop-k
invariant-loop-k l = Becomes l.initial.lent l.lent l.initial.lent.document (put_keys l.initial.lent.document l.initial.lent.words.now l.key (part l.start l.k l.initial.lent.words.now))
