use Rattle.std.proofs.Common.{◌≡◌, ◌<◌, length, ◌∙◌, arith}
use Rattle.std.proofs.lemmas.List.{nil_from_length}
use Rattle.qu_post.specs.Bags.{IsArriving}
use Rattle.qu_post.proofs.BagLaws.{put_next, zip_ended}
use Rattle.qu_post.proofs.bags.put_letters.Goals as goal
use Rattle.qu_post.proofs.bags.put_letters.Goals.{in-Some, in_default}

pub loop-bag-preserved : goal.loop-bag-preserved
loop-bag-preserved c =
    let below : c.loop-bag.bag-index < length c.args.bags.now = omega arith in
    elim c.match-pop_front.branch [
      | in-Some w ↦
          (let put = put_next c.args.step.now c.args.bags.now c.loop-bag.bags c.loop-bag.arriving.items
          c.pop_front.new.self.items c.loop-bag.bag-index c.bag-item.result w.put.new.self w.in-Some.letters
          below c.loop-bag.invariant.done c.bag-item.is c.loop-bag.invariant.rest w.in-Some.ensures.items
          w.put.ensures in
          record { done = w.bags-is ∙ put.0; rest = put.1 })
      | in_default w ↦
          (let cases = w.in_default.ensures.cases in
          let ok = c.loop-bag.arriving.ok in
          let none : length c.loop-bag.arriving.items ≡ 0 = omega arith in
          absurd (zip_ended (IsArriving c.args.step.now) c.args.bags.now c.loop-bag.arriving.items
          c.loop-bag.bag-index below (nil_from_length c.loop-bag.arriving.items none) c.loop-bag.invariant.rest))
    ]
