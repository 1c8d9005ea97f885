use Rattle.std.proofs.Common.{◌≡◌, ◌++◌, take}
use Rattle.std.specs.List.{flat_map}
use Rattle.qu_history.specs.Formats.{sealed_form}
use Rattle.qu_history.proofs.writing_sets.append_all.Given as goal

abbrev pub invariant-loop-entry : goal.invariant-loop-entry
invariant-loop-entry l = l.out ≡ l.fn.out ++ flat_map sealed_form.spell (take l.entry-index l.entries)
