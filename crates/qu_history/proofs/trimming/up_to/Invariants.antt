use Rattle.std.proofs.Common.{◌≡◌, filter, take}
use Rattle.qu_history.specs.Trimming.{is_up_to}
use Rattle.qu_history.proofs.trimming.up_to.Given as goal

abbrev pub invariant-loop-entry : goal.invariant-loop-entry
invariant-loop-entry l = l.left ≡ filter (is_up_to l.candidate) (take l.entry-index l.entries)
