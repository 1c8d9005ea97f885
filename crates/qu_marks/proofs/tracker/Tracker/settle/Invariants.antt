-- the marks so far are right, and fewer are left
use Rattle.std.specs.Prelude.{count_by, is_none}
use Rattle.std.specs.List.{AllZip}
use Rattle.qu_claims.specs.Times.{world_after}
use Rattle.qu_marks.proofs.Settling.{IsMarked}
use Rattle.qu_marks.proofs.tracker.Tracker.settle.Given as goal

abbrev pub invariant-loop-index : goal.invariant-loop-index
invariant-loop-index l = AllZip (IsMarked (world_after l.trace l.event) l.event) l.initial.self l.self

abbrev pub decreases-loop-index : goal.decreases-loop-index
decreases-loop-index l = count_by (λ tracked. is_none tracked.decided) l.self
