-- After a step the client is where its steps lead, and began the first of its calls.
use Rattle.qu_lock.proofs.Standing.{client_kept}
use Rattle.qu_lock.proofs.kept.client.Kept+Client+N.step.Goals as goal

pub invariant_of-self-2 : goal.invariant_of-self-2
invariant_of-self-2 g c =
    client_kept g.N.RunName.setup g.N.RunName.calls c.self.inside.actor c.client_takes.new.client c.self.inside.steps.items
    c.client_takes.new.steps.items c.args.ticket c.args.input c.me-me.result c.args.self.now c.self.view_is c.me-me.ensures
    c.in_ok-sent.ensures.actor c.in_ok-sent.ensures.steps c.self.inside.me c.self.invariant.0 c.self.invariant.1
    c.requires.idle c.requires.next c.requires.later c.requires.after
