use Rattle.std.proofs.Common.{◌≡◌, ◌-◌, ◌++◌}
use Rattle.qu_question.specs.Question.{entries_from}
use Rattle.qu_question.proofs.sets.entries_of.Given as goal

abbrev pub invariant-loop-replica : goal.invariant-loop-replica
invariant-loop-replica l =
    l.entries ++ entries_from l.object l.replica (l.replicas - l.replica) l.kept ≡ entries_from l.object 0
    l.replicas l.kept
