-- no bag so far is that of the party
use Rattle.std.proofs.Common.{◌≡◌, ◌++◌, take, drop}
use Rattle.qu_post.specs.Bags.{oldest_for, without_oldest}
use Rattle.qu_post.proofs.bags.take_oldest.Given as goal

abbrev pub invariant-loop-bag : goal.invariant-loop-bag
invariant-loop-bag l = record {
  same : l.bags ≡ l.initial.bags;
  oldest : oldest_for l.who (drop l.bag-index l.initial.bags) ≡ oldest_for l.who l.initial.bags;
  without : take l.bag-index l.initial.bags ++ without_oldest l.who (drop l.bag-index l.initial.bags)
      ≡ without_oldest l.who l.initial.bags;
}
