-- the machine has run the points so far, and none of them differs
use Rattle.std.proofs.Common.{◌≡◌, ℕ, ◌<◌, length, take}
use Rattle.qu_machine.specs.Serial.{values_after}
use Rattle.qu_machine.specs.Fault.{DiffersAt}
use Rattle.qu_machine.proofs.judging.first_differing.Given as goal

abbrev pub invariant-loop-index : goal.invariant-loop-index
invariant-loop-index l = record {
  values : l.machine ≡ values_after l.kinds (take l.index l.order);
  objects : length l.machine ≡ length l.kinds;
  same : (earlier : ℕ) → earlier < l.index → ¬ (DiffersAt l.kinds l.ops l.order earlier);
}
