use Rattle.std.proofs.Common.{◌≡◌, filter, take}
use Rattle.qu_history.specs.Sets.{histories, candidates_of, greatest}
use Rattle.qu_history.specs.Trimming.{is_held_by}
use Rattle.qu_history.proofs.trimming.greatest_shown.Given as goal

abbrev pub invariant-loop-entry : goal.invariant-loop-entry
invariant-loop-entry l =
    l.greatest ≡ greatest
    (filter (is_held_by (histories l.entries) l.least) (candidates_of (take l.entry-index (histories l.entries))))
