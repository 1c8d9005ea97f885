-- The objects of the sets so far.
use Rattle.std.proofs.Common.{◌≡◌, take}
use Rattle.qu_frames.specs.Formats.{objects_in_sets}
use Rattle.qu_script.proofs.fake.objects_of.Given as goal

abbrev pub invariant-loop-set : goal.invariant-loop-set
invariant-loop-set l = l.objects ≡ objects_in_sets (take l.set-index l.set-items)
