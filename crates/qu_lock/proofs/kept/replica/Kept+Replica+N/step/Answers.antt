-- After a step the replica is where its steps lead.
use Rattle.qu_lock.proofs.Standing.{replica_kept}
use Rattle.qu_lock.proofs.kept.replica.Kept+Replica+N.step.Goals as goal

pub invariant_of-self-2 : goal.invariant_of-self-2
invariant_of-self-2 g c =
    replica_kept g.N.RunName.setup c.self.inside.actor c.replica_takes.new.replica c.self.inside.steps.items
    c.replica_takes.new.steps.items c.args.ticket c.args.input c.in_ok-sent.ensures.actor c.in_ok-sent.ensures.steps
    c.self.inside.me c.args.self.now c.self.view_is c.self.invariant.0 c.self.invariant.1 c.requires.frame
    c.requires.later c.requires.after
