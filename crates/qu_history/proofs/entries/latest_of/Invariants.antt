use Rattle.std.proofs.Common.{◌≡◌, take}
use Rattle.qu_history.specs.Sets.{histories, latest_of}
use Rattle.qu_history.proofs.entries.latest_of.Given as goal

abbrev pub invariant-loop-entry : goal.invariant-loop-entry
invariant-loop-entry l = l.latest ≡ latest_of (take l.entry-index (histories l.entries))
