use Rattle.std.proofs.Common.{◌≡◌, ◌<◌, true, length, arith}
use Rattle.qu_post.specs.Actors.{is_one_party}
use Rattle.qu_post.proofs.BagLaws.{taken_at}
use Rattle.qu_post.proofs.bags.take_oldest.Goals as goal

pub returns-then-is_one_party-clause-bags : goal.returns-then-is_one_party-clause-bags
returns-then-is_one_party-clause-bags c =
    let read = c.bag-item.is in
    let one : is_one_party (c.bag-item.result).owner c.args.who ≡ true = cc in
    let below : c.loop-bag.bag-index < length c.loop-bag.bags = omega arith in
    let law = taken_at c.args.who c.loop-bag.bags c.loop-bag.bag-index c.bag-item.result below read one in
    let rest = c.pop_front.ensures.rest in
    let same = c.loop-bag.invariant.same in
    let without = c.loop-bag.invariant.without in
    cc
