-- of the letters so far none comes too late
use Rattle.std.proofs.Common.{◌≡◌, ◌+◌, length, drop}
use Rattle.qu_gather.specs.Ticks.{late_among}
use Rattle.qu_gather.proofs.ticks.late_among.Given as goal

abbrev pub invariant-loop-place : goal.invariant-loop-place
invariant-loop-place l =
    late_among l.setup l.asker (length l.senders + l.place + 1) (drop l.place l.letters) l.later
    ≡ late_among l.setup l.asker (length l.senders + 1) l.letters l.later
