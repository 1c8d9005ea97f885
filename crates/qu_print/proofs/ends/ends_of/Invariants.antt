use Rattle.std.proofs.Common.{◌≡◌, ◌≤◌, take}
use Rattle.std.specs.List.{count_by}
use Rattle.qu_print.specs.Ends.{ended_done, ended_given_up, never_ended}
use Rattle.qu_print.proofs.ends.ends_of.Given as goal

-- the counts of the operations so far, each no more than these
abbrev pub invariant-loop-operation : goal.invariant-loop-operation
invariant-loop-operation l = record {
  done : l.ends.done ≡ count_by ended_done (take l.operation-index l.operations);
  gave_up : l.ends.gave_up ≡ count_by ended_given_up (take l.operation-index l.operations);
  unended : l.ends.unended ≡ count_by never_ended (take l.operation-index l.operations);
  few_done : l.ends.done ≤ l.operation-index;
  few_gave_up : l.ends.gave_up ≤ l.operation-index;
  few_unended : l.ends.unended ≤ l.operation-index;
}
