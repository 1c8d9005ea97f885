-- The ticks that are left make of the play what all of them make of the first one.
use Rattle.std.proofs.Common.{◌≡◌, ◌-◌}
use Rattle.qu_script.specs.Events.{ticks_made}
use Rattle.qu_script.proofs.player.Player.tick.Given as goal

abbrev pub invariant-loop-index : goal.invariant-loop-index
invariant-loop-index l = ticks_made l.number l.client (l.count - l.index) l.self
    ≡ ticks_made l.number l.client l.count l.fn.self
