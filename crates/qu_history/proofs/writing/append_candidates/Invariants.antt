use Rattle.std.proofs.Common.{◌≡◌, ◌++◌, take}
use Rattle.std.specs.List.{flat_map}
use Rattle.qu_stamp.specs.Formats.{spelled_candidate}
use Rattle.qu_history.proofs.writing.append_candidates.Given as goal

abbrev pub invariant-loop-candidate : goal.invariant-loop-candidate
invariant-loop-candidate l = l.out ≡ l.fn.out ++ flat_map spelled_candidate (take l.candidate-index l.candidates)
