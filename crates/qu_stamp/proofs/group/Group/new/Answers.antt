use Rattle.std.proofs.Common.{sym, ap, ◌∙◌, arith, length, length-take-le}
use Rattle.qu_stamp.proofs.Groups.{members_are_few}
use Rattle.qu_stamp.proofs.group.Group.new.Goals as goal

pub push-requires : goal.push-requires
push-requires c =
    let few = members_are_few c.args.pairs.now (sym c.is_group.ensures ∙ c.if-not-is_group.false) in
    let within = c.loop-pair-test.true in
    let so_far = length-take-le c.loop-pair.pair-index c.args.pairs.now (omega (arith, within)) in
    omega (arith, few, within, so_far, ap length c.loop-pair.invariant)
