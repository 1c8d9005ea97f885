use Rattle.std.proofs.Common.{take}
use Rattle.qu_points.specs.Points.{AddsActs}
use Rattle.qu_points.proofs.updates.add_acts.Given as goal

-- the acts so far are added
abbrev pub invariant-loop-index : goal.invariant-loop-index
invariant-loop-index l = AddsActs (take l.index l.acts) l.initial.operations l.operations
