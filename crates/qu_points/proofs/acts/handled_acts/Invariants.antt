use Rattle.std.proofs.Common.{◌≡◌, take}
use Rattle.std.specs.List.{filter_map}
use Rattle.qu_points.specs.Points.{act_at}
use Rattle.qu_points.proofs.acts.handled_acts.Given as goal

-- the acts of the entries so far
abbrev pub invariant-loop-index : goal.invariant-loop-index
invariant-loop-index l = l.acts ≡ filter_map (act_at l.trace) (take l.index l.trace.entries)
