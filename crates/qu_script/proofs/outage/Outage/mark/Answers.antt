-- One replica after another.
use Rattle.std.proofs.Common.{◌∙◌, sym, arith}
use Rattle.qu_script.proofs.OutageFacts.{marks_more, marks_end}
use Rattle.qu_script.proofs.outage.Outage.mark.Goals as goal

pub loop-me-preserved : goal.loop-me-preserved
loop-me-preserved c = record {
  held = marks_more c.args.mark c.loop-me.self.held c.mark_one.new.self.held c.args.replicas.now c.loop-me.me-index _
      (omega arith) c.mark_one.ensures.held
      ∙ c.loop-me.invariant.held;
  lost = c.mark_one.ensures.lost ∙ c.loop-me.invariant.lost;
}

pub returns-clause-held : goal.returns-clause-held
returns-clause-held c =
    sym (marks_end c.args.mark c.loop-me.self.held c.args.replicas.now c.loop-me.me-index (omega arith))
    ∙ c.loop-me.invariant.held
