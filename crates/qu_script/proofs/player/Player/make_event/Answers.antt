-- What was delivered stays so.
use Rattle.qu_script.proofs.WaitingFacts.{begins_applied}
use Rattle.qu_script.proofs.player.Player.make_event.Goals as goal

pub invariant_of-self : goal.invariant_of-self
invariant_of-self c =
    begins_applied c.self.inside.world c.apply.new.self c.args.event c.self.inside.outage.lost c.self.inside.next
    c.apply.result
    c.apply.ensures.ok c.apply.ensures.err c.self.invariant
