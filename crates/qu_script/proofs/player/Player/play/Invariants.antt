-- The lines that are left make of the play what all of them make of the first one.
use Rattle.std.proofs.Common.{◌≡◌, drop}
use Rattle.qu_script.specs.Events.{lines_made}
use Rattle.qu_script.proofs.player.Player.play.Given as goal

abbrev pub invariant-loop-number : goal.invariant-loop-number
invariant-loop-number l = lines_made l.self (drop l.number-index l.lines) ≡ lines_made l.fn.self l.lines
