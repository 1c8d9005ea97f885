-- The sizes of at least one lying replica.
use Rattle.qu_base.proofs.ThresholdFacts.{are_thresholds}
use Rattle.qu_base.proofs.bounds.Bounds.q.Goals as goal

pub returns-clause-thresholds : goal.returns-clause-thresholds
returns-clause-thresholds c = rw (← c.self.view_is) (are_thresholds c.self.inside.faults c.self.invariant.0)
