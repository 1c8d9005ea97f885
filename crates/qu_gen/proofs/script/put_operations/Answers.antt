-- the lines at the next place are those that come next in the whole
use Rattle.qu_gen.specs.Script.{lines_at}
use Rattle.qu_gen.proofs.LineFacts.{places_written}
use Rattle.qu_gen.proofs.script.put_operations.Goals as goal

pub loop-earlier-preserved : goal.loop-earlier-preserved
loop-earlier-preserved c =
    places_written (lines_at c.args.number) c.loop-earlier.earlier c.args.count _ _ _
    c.loop-earlier-test.true c.loop-earlier.invariant c.in_ok-put_operation.ensures
