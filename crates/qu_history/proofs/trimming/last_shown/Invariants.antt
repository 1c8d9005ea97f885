use Rattle.std.proofs.Common.{◌≡◌, filter, take}
use Rattle.qu_history.specs.Sets.{histories, greatest}
use Rattle.qu_history.specs.Trimming.{is_held_by}
use Rattle.qu_history.proofs.trimming.last_shown.Given as goal

-- none of those behind the place is shown
abbrev pub invariant-loop-place : goal.invariant-loop-place
invariant-loop-place l =
    greatest (filter (is_held_by (histories l.entries) l.least) l.candidates) ≡ greatest
    (filter (is_held_by (histories l.entries) l.least) (take l.place l.candidates))
