use Rattle.std.proofs.Common.{sym, ◌∙◌}
use Rattle.qu_stamp.specs.Blanks.{blank}
use Rattle.qu_stamp.proofs.Groups.{are_members_all, are_members_no, are_members_more}
use Rattle.qu_stamp.proofs.group.are_members.Goals as goal

pub returns-then-not-is_member : goal.returns-then-not-is_member
returns-then-not-is_member c =
    are_members_no c.args.pairs.now c.loop-member.least c.loop-member.member-index c.loop-member.invariant blank
    c.loop-member-test.true (sym c.is_member.ensures ∙ c.if-not-is_member.true)

pub loop-member-preserved : goal.loop-member-preserved
loop-member-preserved c =
    are_members_more c.args.pairs.now c.loop-member.least c.loop-member.member-index c.loop-member.invariant blank
    c.loop-member-test.true (sym c.is_member.ensures ∙ c.if-not-is_member.false)

pub returns : goal.returns
returns c =
    are_members_all c.args.pairs.now c.loop-member.least c.loop-member.member-index c.loop-member.invariant
    c.loop-member-test.false
