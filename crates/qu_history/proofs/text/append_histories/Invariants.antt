use Rattle.std.proofs.Common.{◌≡◌, ◌++◌, take}
use Rattle.std.specs.List.{flat_map}
use Rattle.qu_history.specs.Formats.{history_form}
use Rattle.qu_history.specs.Sets.{histories}
use Rattle.qu_history.proofs.text.append_histories.Given as goal

abbrev pub invariant-loop-entry : goal.invariant-loop-entry
invariant-loop-entry l = l.out ≡ l.fn.out ++ flat_map history_form.spell (histories (take l.entry-index l.entries))
