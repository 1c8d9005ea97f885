use Rattle.std.proofs.Common.{take}
use Rattle.std.specs.Prelude.{All}
use Rattle.qu_points.specs.Points.{ActFits}
use Rattle.qu_points.proofs.updates.acts_fit.Given as goal

-- the acts so far fit
abbrev pub invariant-loop-act : goal.invariant-loop-act
invariant-loop-act l = All ActFits (take l.act-index l.acts)
