-- the correct ones of the clients so far
use Rattle.std.proofs.Common.{◌≡◌}
use Rattle.qu_gather.specs.Correct.{correct_clients}
use Rattle.qu_gather.proofs.correct.correct_clients.Given as goal

abbrev pub invariant-loop-place : goal.invariant-loop-place
invariant-loop-place l = l.correct.items ≡ correct_clients l.setup l.place
