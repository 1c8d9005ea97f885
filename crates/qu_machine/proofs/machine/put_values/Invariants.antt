-- the values of the parts from here on are still to be put
use Rattle.std.proofs.Common.{◌≡◌, length, drop}
use Rattle.qu_machine.specs.Machine.{with_values}
use Rattle.qu_machine.proofs.machine.put_values.Given as goal

abbrev pub invariant-loop-object : goal.invariant-loop-object
invariant-loop-object g l = record {
  values : with_values l.fn.values l.parts l.fn.made
      ≡ with_values l.values (drop (length l.yielded) l.parts) (drop (length l.yielded) l.fn.made);
  length : length l.values ≡ length l.fn.values;
}
