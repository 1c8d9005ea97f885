use Rattle.qu_points.proofs.Handled.AddedActs.{adds_more}
use Rattle.qu_points.proofs.updates.add_acts.Goals as goal

pub loop-index-preserved : goal.loop-index-preserved
loop-index-preserved c =
    adds_more c.args.acts.now c.loop-index.index c.index-acts-index.result c.args.operations.now
    c.loop-index.operations c.add_new_act.new.operations c.requires.queries c.acts_fit.ensures c.loop-index-test.true
    c.index-acts-index.is c.loop-index.invariant c.in_ok-add_new_act.ensures
