-- of the letters so far none comes too late
use Rattle.std.proofs.Common.{◌≡◌, [], drop}
use Rattle.qu_gather.specs.Ticks.{late_letter}
use Rattle.qu_gather.proofs.ticks.late_letter.Given as goal

abbrev pub invariant-loop-at : goal.invariant-loop-at
invariant-loop-at l =
    late_letter l.setup l.senders.items (drop l.at l.entries) ≡ late_letter l.setup [] l.entries
