-- One replica more is put.
use Rattle.qu_gather.proofs.Putting.{replica_put, replica_stands}
use Rattle.qu_gather.proofs.held.put_replicas.Goals as goal

pub loop-kept-preserved : goal.loop-kept-preserved
loop-kept-preserved g c = record {
  steps =
      replica_put c.args.steps.now c.loop-kept.steps c.put_steps.new.steps c.loop-kept.yielded c.in-Some.kept
      c.into_parts-replica.result c.party-me.result c.loop-kept.invariant.steps c.party-me.ensures
      c.into_parts-replica.ensures.value c.in_ok-put_steps.ensures;
  stand =
      replica_stands g.N.RunName.setup c.loop-kept.yielded c.in-Some.kept c.into_parts-replica.result
      c.loop-kept.invariant.stand c.into_parts-replica.ensures.value c.into_parts-replica.ensures.stands;
}
