use Rattle.std.proofs.Common.{◌≡◌, ◌++◌, take, map}
use Rattle.qu_known.specs.Tracked.{undecided}
use Rattle.qu_known.proofs.known.add_undecided.Given as goal

abbrev pub invariant-loop-candidate : goal.invariant-loop-candidate
invariant-loop-candidate l = l.news ≡ l.initial.news ++ map (undecided l.object) (take l.candidate-index l.candidates)
