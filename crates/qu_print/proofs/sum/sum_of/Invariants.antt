-- the counters so far, and those that are left
use Rattle.std.proofs.Common.{◌≡◌, ◌≤◌, ◌+◌, ◌-◌, ◌*◌, ◌^◌}
use Rattle.std.specs.List.{sum_by, range_with_len}
use Rattle.qu_print.specs.Summary.{counter_at}
use Rattle.qu_print.proofs.sum.sum_of.Given as goal

abbrev pub invariant-loop-object : goal.invariant-loop-object
invariant-loop-object l = record {
  sum : l.sum + sum_by (counter_at l.machine) (range_with_len l.object (l.count - l.object))
      ≡ sum_by (counter_at l.machine) (range_with_len 0 l.count);
  few : l.sum ≤ l.object * 2 ^ 64;
}
