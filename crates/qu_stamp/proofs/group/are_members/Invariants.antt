use Rattle.std.proofs.Common.{◌≡◌, drop}
use Rattle.qu_stamp.specs.Group.{are_members_from}
use Rattle.qu_stamp.proofs.group.are_members.Given as goal

abbrev pub invariant-loop-member : goal.invariant-loop-member
invariant-loop-member l = are_members_from 0 l.pairs ≡ are_members_from l.least (drop l.member-index l.pairs)
