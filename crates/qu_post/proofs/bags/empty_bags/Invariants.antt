use Rattle.std.proofs.Common.{◌≡◌, map, take}
use Rattle.std.specs.Prelude.{filter, not}
use Rattle.qu_post.specs.Actors.{is_liar}
use Rattle.qu_post.specs.Bags.{empty_bag}
use Rattle.qu_post.proofs.bags.empty_bags.Given as goal

abbrev pub invariant-loop-who : goal.invariant-loop-who
invariant-loop-who l =
    l.bags.items ≡ map empty_bag (filter (λ who. not (is_liar l.liars who)) (take l.who-index l.who-items))
