-- The replicas that are left make of the marks what all of them make of the first ones.
use Rattle.std.proofs.Common.{◌≡◌, drop}
use Rattle.qu_script.specs.Outage.{with_marks}
use Rattle.qu_script.proofs.outage.Outage.mark.Given as goal

abbrev pub invariant-loop-me : goal.invariant-loop-me
invariant-loop-me l = record {
  held : with_marks l.mark l.self.held (drop l.me-index l.replicas) ≡ with_marks l.mark l.fn.self.held l.replicas;
  lost : l.self.lost ≡ l.fn.self.lost;
}
