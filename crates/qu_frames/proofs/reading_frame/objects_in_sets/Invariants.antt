use Rattle.std.proofs.Common.{◌≡◌, take}
use Rattle.qu_frames.specs.Formats.{objects_in_sets}
use Rattle.qu_frames.proofs.reading_frame.objects_in_sets.Given as goal

abbrev pub invariant-loop-set : goal.invariant-loop-set
invariant-loop-set l = l.objects ≡ objects_in_sets (take l.set-index l.sets)
