use Rattle.std.proofs.Common.{◌≡◌, replicate, None}
use Rattle.qu_waiting.proofs.slots.empty_slots.Given as goal

abbrev pub invariant-loop-number : goal.invariant-loop-number
invariant-loop-number l = l.slots.items ≡ replicate l.number None
