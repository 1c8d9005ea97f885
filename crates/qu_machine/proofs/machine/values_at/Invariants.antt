-- the values of all parts are those so far, and then those of the parts from here on
use Rattle.std.proofs.Common.{◌≡◌, ◌++◌, length, drop}
use Rattle.qu_machine.specs.Machine.{values_at}
use Rattle.qu_machine.proofs.machine.values_at.Given as goal

abbrev pub invariant-loop-object : goal.invariant-loop-object
invariant-loop-object g l = record {
  values : values_at l.values l.parts ≡ l.named ++ values_at l.values (drop l.object-index l.parts);
  one_each : length l.named ≡ l.object-index;
}
