use Rattle.std.proofs.Common.{◌≡◌, drop}
use Rattle.qu_history.specs.Sets.{entries_of}
use Rattle.qu_history.proofs.sets.entries_in.Given as goal

abbrev pub invariant-loop-set : goal.invariant-loop-set
invariant-loop-set l = entries_of l.object l.objects ≡ entries_of l.object (drop l.set-index l.objects)
