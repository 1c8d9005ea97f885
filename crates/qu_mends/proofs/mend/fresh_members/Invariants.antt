use Rattle.std.proofs.Common.{◌≡◌, map, take}
use Rattle.qu_mends.specs.Remedy.{fresh_member}
use Rattle.qu_mends.proofs.mend.fresh_members.Given as goal

abbrev pub invariant-loop-member : goal.invariant-loop-member
invariant-loop-member l = l.fresh ≡ map (fresh_member l.sets) (take l.member-index l.members)
