-- The first search begins at the first letter.
use Rattle.std.proofs.Common.{◌≡◌, ap, arith}
use Rattle.qu_script.specs.Outage.{OutageState}
use Rattle.qu_script.proofs.WaitingFacts.{begins_lost}
use Rattle.qu_script.proofs.player.Player.start.Goals as goal

pub invariant_of-result : goal.invariant_of-result
invariant_of-result c =
    let none : c.in_ok-outage.outage.lost ≡ 0 = ap (λ (it : OutageState). it.lost) c.in_ok-outage.ensures in
    begins_lost c.in_ok-world.world.setup c.in_ok-world.world.entries c.in_ok-outage.outage.lost 1
    (omega (arith, none))
