-- The search begins behind what was lost.
use Rattle.std.proofs.Common.{arith}
use Rattle.qu_script.proofs.WaitingFacts.{begins_lost}
use Rattle.qu_script.proofs.player.Player.lose.Goals as goal

pub invariant_of-self : goal.invariant_of-self
invariant_of-self c =
    begins_lost c.self.inside.world.setup c.self.inside.world.entries c.lose.new.self.lost c.in_ok-next.next
    (omega (arith, c.lose.ensures.lost, c.in_ok-next.ensures))
