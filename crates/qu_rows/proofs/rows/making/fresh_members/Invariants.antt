use Rattle.std.proofs.Common.{◌≡◌, take}
use Rattle.qu_rows.specs.Rows.{members_seen}
use Rattle.qu_rows.proofs.rows.making.fresh_members.Given as goal

abbrev pub invariant-loop-one : goal.invariant-loop-one
invariant-loop-one l = l.members ≡ members_seen l.asked (take l.one-index l.seen)
