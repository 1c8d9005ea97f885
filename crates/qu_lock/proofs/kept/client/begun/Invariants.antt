-- the operations of the steps so far and of those that are left are those of all
use Rattle.std.proofs.Common.{◌≡◌, ◌+◌, ◌≤◌, length, drop}
use Rattle.qu_replay.specs.Operations.{begun_operations}
use Rattle.qu_lock.proofs.kept.client.begun.Given as goal

abbrev pub invariant-loop-step : goal.invariant-loop-step
invariant-loop-step l = record {
  so_far : l.begun + length (begun_operations (drop l.step-index l.steps)) ≡ length (begun_operations l.steps);
  most : l.begun ≤ l.step-index;
}
