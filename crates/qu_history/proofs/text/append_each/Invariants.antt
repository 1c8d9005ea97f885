use Rattle.std.proofs.Common.{◌≡◌, ◌++◌, take}
use Rattle.std.specs.List.{flat_map}
use Rattle.qu_history.specs.Formats.{object_text_form}
use Rattle.qu_history.specs.Text.{unsealed}
use Rattle.qu_history.proofs.text.append_each.Given as goal

abbrev pub invariant-loop-set : goal.invariant-loop-set
invariant-loop-set l = l.out ≡ l.fn.out ++ flat_map (object_text_form 0).spell (unsealed (take l.set-index l.sets))
