use Rattle.std.proofs.Common.{take}
use Rattle.std.specs.List.{AllZip}
use Rattle.qu_post.specs.Bags.{IsArriving}
use Rattle.qu_post.proofs.bags.letters_for_each.Given as goal

abbrev pub invariant-loop-bag : goal.invariant-loop-bag
invariant-loop-bag l = AllZip (IsArriving l.step) (take l.bag-index l.bags) l.arriving.items
