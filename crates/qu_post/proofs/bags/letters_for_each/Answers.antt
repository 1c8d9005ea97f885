use Rattle.std.proofs.Common.{arith}
use Rattle.qu_post.specs.Bags.{IsArriving}
use Rattle.qu_post.proofs.BagLaws.{zip_more}
use Rattle.qu_post.proofs.bags.letters_for_each.Goals as goal

pub loop-bag-preserved : goal.loop-bag-preserved
loop-bag-preserved c =
    zip_more (IsArriving c.args.step.now) c.args.bags.now c.loop-bag.arriving.items c.push_back.new.self.items
    c.loop-bag.bag-index c.bag-item.result c.in_ok-letters_for.field-0 (omega arith) c.bag-item.is
    c.loop-bag.invariant c.in_ok-letters_for.ensures c.in_ok-push_back.ensures.items
