-- The letters that are left make of the play what all of them make of the first one.
use Rattle.std.proofs.Common.{◌≡◌, drop}
use Rattle.qu_script.specs.Events.{deliveries_made}
use Rattle.qu_script.proofs.player.Player.deliver_all.Given as goal

abbrev pub invariant-loop-letter : goal.invariant-loop-letter
invariant-loop-letter l = deliveries_made l.number l.self (drop l.letter-index l.letters) ≡ deliveries_made
    l.number l.fn.self l.letters
