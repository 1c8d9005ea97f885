use Rattle.std.proofs.Common.{take}
use Rattle.std.specs.List.{AllByRecursion}
use Rattle.qu_points.specs.Points.{NumbersFit}
use Rattle.qu_points.proofs.updates.parts_fit.Given as goal

-- the numbers of the parts so far fit
abbrev pub invariant-loop-method : goal.invariant-loop-method
invariant-loop-method l = AllByRecursion (λ part. NumbersFit part.1) (take l.method-index l.parts)
