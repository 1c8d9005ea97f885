use Rattle.std.proofs.Common.{◌≡◌, ◌++◌, None, take}
use Rattle.std.specs.List.{flat_map}
use Rattle.qu_objects.specs.States.{row_form}
use Rattle.qu_objects.proofs.writing_state.put_rows.Given as goal

abbrev pub invariant-loop-row : goal.invariant-loop-row
invariant-loop-row l = l.out ≡ l.fn.out ++ flat_map (row_form None).spell (take l.row-index l.rows)
