use Rattle.std.proofs.Common.{◌≡◌, filter, take}
use Rattle.qu_history.specs.Sets.{entries_of, greatest}
use Rattle.qu_class.specs.Repairable.{is_shown_of_kind}
use Rattle.qu_class.proofs.repairable.last_of_kind.Given as goal

-- none of those behind the place passes
abbrev pub invariant-loop-place : goal.invariant-loop-place
invariant-loop-place l =
    greatest (filter (is_shown_of_kind l.barrier l.least (entries_of l.object l.sets)) l.candidates) ≡ greatest
    (filter (is_shown_of_kind l.barrier l.least (entries_of l.object l.sets)) (take l.place l.candidates))
