use Rattle.std.proofs.Common.{◌≡◌, ◌++◌, take}
use Rattle.std.specs.List.{flat_map}
use Rattle.qu_frames.specs.Formats.{spelled_pair}
use Rattle.qu_frames.proofs.writing_frame.append_each_pair.Given as goal

abbrev pub invariant-loop-pair : goal.invariant-loop-pair
invariant-loop-pair l = l.out ≡ l.fn.out ++ flat_map spelled_pair (take l.pair-index l.culled)
