-- One event more delivers a letter below.
use Rattle.std.proofs.Common.{◌∙◌, sym, arith}
use Rattle.qu_script.proofs.WaitingFacts.{one_below}
use Rattle.qu_script.proofs.waiting.events_below.Goals as goal

pub events-preserved : goal.events-preserved
events-preserved c = (
  omega arith,
  one_below c.args.entries.now c.events.count c.args.letter c.index-entries-count.result (omega arith)
      (sym c.is_delivery_from.ensures ∙ c.if-is_delivery_from.false) c.events.invariant.1,
)
