use Rattle.std.proofs.Common.{arith}
use Rattle.qu_history.specs.Sets.{histories}
use Rattle.qu_history.specs.Trimming.{is_held_by}
use Rattle.qu_history.proofs.Shown.{shown_next, shown_all}
use Rattle.qu_history.proofs.trimming.greatest_shown.Goals as goal

pub loop-entry-preserved : goal.loop-entry-preserved
loop-entry-preserved c =
    shown_next (is_held_by (histories c.args.entries.now) c.args.least) c.args.entries.now c.loop-entry.entry-index
    c.entry-item.result c.loop-entry.greatest c.last_shown-last.result c.greater_found-greatest.result
    c.loop-entry-test.true c.entry-item.is c.loop-entry.invariant c.last_shown-last.ensures
    c.greater_found-greatest.ensures

pub returns : goal.returns
returns c =
    shown_all c.args.entries.now c.args.least c.loop-entry.entry-index c.loop-entry.greatest
    (omega (arith, c.loop-entry-test.false)) c.loop-entry.invariant
