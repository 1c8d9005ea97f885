use Rattle.std.proofs.Common.{◌≡◌, map, take}
use Rattle.qu_kept.specs.Remedy.{chosen_member}
use Rattle.qu_kept.proofs.course.chosen_members.Given as goal

abbrev pub invariant-loop-part : goal.invariant-loop-part
invariant-loop-part l = l.members ≡ map chosen_member (take l.part-index l.joint)
