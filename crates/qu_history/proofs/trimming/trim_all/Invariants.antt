use Rattle.std.proofs.Common.{◌≡◌, map, take}
use Rattle.qu_history.specs.Trimming.{trimmed_set}
use Rattle.qu_history.proofs.trimming.trim_all.Given as goal

abbrev pub invariant-loop-set : goal.invariant-loop-set
invariant-loop-set l = l.objects ≡ map (trimmed_set l.bounds) (take l.set-index l.sets)
