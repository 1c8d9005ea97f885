use Rattle.std.proofs.Common.{◌≡◌, drop}
use Rattle.qu_history.specs.Sets.{are_entries, histories}
use Rattle.qu_history.proofs.sets.are_entries.Given as goal

abbrev pub invariant-loop-entry : goal.invariant-loop-entry
invariant-loop-entry l = are_entries l.object 0 (histories l.entries) ≡ are_entries l.object l.least
    (drop l.entry-index (histories l.entries))
