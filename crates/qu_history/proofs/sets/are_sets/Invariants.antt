use Rattle.std.proofs.Common.{◌≡◌, drop}
use Rattle.qu_history.specs.Sets.{are_sets_from}
use Rattle.qu_history.proofs.sets.are_sets.Given as goal

abbrev pub invariant-loop-set : goal.invariant-loop-set
invariant-loop-set l = are_sets_from 0 l.objects ≡ are_sets_from l.least (drop l.set-index l.objects)
