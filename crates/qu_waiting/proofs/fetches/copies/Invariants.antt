use Rattle.std.proofs.Common.{◌≡◌, take}
use Rattle.qu_waiting.proofs.fetches.copies.Given as goal

abbrev pub invariant-loop-running : goal.invariant-loop-running
invariant-loop-running l = l.made ≡ take l.running-index l.fetching
