use Rattle.std.proofs.Common.{◌≡◌, drop}
use Rattle.qu_waiting.specs.Slots.{first_waiting}
use Rattle.qu_waiting.proofs.slots.first_waiting.Given as goal

abbrev pub invariant-loop-slot : goal.invariant-loop-slot
invariant-loop-slot l =
    first_waiting l.object l.stamp l.slots ≡ first_waiting l.object l.stamp (drop l.slot-index l.slots)
