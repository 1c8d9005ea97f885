-- the lines of the next client are those that come next in the whole
use Rattle.qu_print.specs.Ends.{open_lines_of}
use Rattle.qu_print.proofs.RangeFacts.{lines_step}
use Rattle.qu_print.proofs.open.put_open.Goals as goal

pub loop-earlier-preserved : goal.loop-earlier-preserved
loop-earlier-preserved c =
    lines_step (open_lines_of c.args.operations.now) c.loop-earlier.earlier c.args.clients _ _ _
    c.loop-earlier-test.true c.loop-earlier.invariant c.in_ok-put_open_of.ensures
