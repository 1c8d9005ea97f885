-- the correct ones of the replicas so far
use Rattle.std.proofs.Common.{◌≡◌}
use Rattle.qu_gather.specs.Correct.{correct_replicas}
use Rattle.qu_gather.proofs.correct.correct_replicas.Given as goal

abbrev pub invariant-loop-place : goal.invariant-loop-place
invariant-loop-place l = l.correct.items ≡ correct_replicas l.setup l.place
