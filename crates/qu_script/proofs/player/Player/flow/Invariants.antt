-- The deliveries that are left make of the play what all of them make of the first one.
use Rattle.std.proofs.Common.{◌≡◌, ◌-◌}
use Rattle.qu_script.specs.Events.{flow_made}
use Rattle.qu_script.proofs.player.Player.flow.Given as goal

abbrev pub invariant-loop-index : goal.invariant-loop-index
invariant-loop-index l = flow_made l.number (l.count - l.index) l.self ≡ flow_made l.number l.count l.fn.self
