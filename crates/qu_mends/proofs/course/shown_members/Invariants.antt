use Rattle.std.proofs.Common.{◌≡◌, map, take}
use Rattle.qu_mends.specs.Remedy.{shown_member}
use Rattle.qu_mends.proofs.course.shown_members.Given as goal

abbrev pub invariant-loop-member : goal.invariant-loop-member
invariant-loop-member l = l.members ≡ map (shown_member l.bounds l.sets) (take l.member-index l.group)
