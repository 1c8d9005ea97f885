use Rattle.std.proofs.Common.{◌≡◌, ◌++◌, take}
use Rattle.std.specs.List.{flat_map}
use Rattle.qu_history.specs.Formats.{set_form}
use Rattle.qu_history.proofs.writing_sets.append_each_set.Given as goal

abbrev pub invariant-loop-set : goal.invariant-loop-set
invariant-loop-set l = l.out ≡ l.fn.out ++ flat_map (set_form 0).spell (take l.set-index l.sets)
