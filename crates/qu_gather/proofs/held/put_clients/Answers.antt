-- One client more is put.
use Rattle.qu_gather.proofs.Putting.{client_put, client_stands}
use Rattle.qu_gather.proofs.held.put_clients.Goals as goal

pub loop-kept-preserved : goal.loop-kept-preserved
loop-kept-preserved g c = record {
  steps =
      client_put c.args.steps.now c.loop-kept.steps c.put_steps.new.steps c.loop-kept.yielded c.in-Some.kept
      c.into_parts-client.result c.party-me.result c.loop-kept.invariant.steps c.party-me.ensures
      c.into_parts-client.ensures.value c.in_ok-put_steps.ensures;
  stand =
      client_stands g.N.RunName.setup g.N.RunName.calls c.loop-kept.yielded c.in-Some.kept c.into_parts-client.result
      c.loop-kept.invariant.stand c.into_parts-client.ensures.value c.into_parts-client.ensures.stands;
}
