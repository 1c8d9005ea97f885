-- what is found among those that are left is what is found of all
use Rattle.std.proofs.Common.{◌≡◌, drop}
use Rattle.std.specs.List.{find}
use Rattle.qu_replay.specs.Merged.{is_step_named}
use Rattle.qu_journal.proofs.journal.place_named.Given as goal

abbrev pub invariant-loop-place : goal.invariant-loop-place
invariant-loop-place l = find (is_step_named l.name) (drop l.place l.steps) ≡ find (is_step_named l.name) l.steps
