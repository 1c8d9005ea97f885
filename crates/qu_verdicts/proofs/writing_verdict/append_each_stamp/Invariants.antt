use Rattle.std.proofs.Common.{◌≡◌, ◌++◌, take}
use Rattle.std.specs.List.{flat_map}
use Rattle.qu_verdicts.specs.Formats.{spelled_stamp}
use Rattle.qu_verdicts.proofs.writing_verdict.append_each_stamp.Given as goal

abbrev pub invariant-loop-told : goal.invariant-loop-told
invariant-loop-told l = l.out ≡ l.fn.out ++ flat_map spelled_stamp (take l.told-index l.stamps)
