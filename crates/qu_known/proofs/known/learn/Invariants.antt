use Rattle.std.proofs.Common.{◌≡◌, ◌++◌, take}
use Rattle.qu_known.proofs.known.learn.Given as goal

abbrev pub invariant-loop-candidate : goal.invariant-loop-candidate
invariant-loop-candidate l = l.known ≡ l.initial.known ++ take l.candidate-index l.more
