use Rattle.std.proofs.Common.{◌≡◌, ◌++◌, take}
use Rattle.std.specs.List.{flat_map}
use Rattle.qu_stamp.specs.Formats.{spelled_member}
use Rattle.qu_stamp.proofs.writing.append_members.Given as goal

abbrev pub invariant-loop-member : goal.invariant-loop-member
invariant-loop-member l = l.out ≡ l.fn.out ++ flat_map spelled_member (take l.member-index l.members)
