-- the points that are left make of the machine so far what all of them make
use Rattle.std.proofs.Common.{◌≡◌, List, length, drop}
use Rattle.std.specs.Prelude.{fold}
use Rattle.qu_machine.specs.declared.record.Point.{Point}
use Rattle.qu_objects.specs.declared.kind.Value.{Value}
use Rattle.qu_print.specs.Summary.{values_behind, values_behind_all}
use Rattle.qu_print.proofs.sum.machine_behind.Given as goal

abbrev pub invariant-loop-point : goal.invariant-loop-point
invariant-loop-point l = record {
  values : fold (λ (values : List Value) (point : Point). values_behind values point.op) l.machine
      (drop l.point-index l.order) ≡ values_behind_all l.kinds l.order;
  objects : length l.machine ≡ length l.kinds;
}
