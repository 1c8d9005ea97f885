-- the bags so far have their letters, and those of the others are the rest of what arrives
use Rattle.std.proofs.Common.{◌≡◌, ◌++◌, map, take, drop}
use Rattle.std.specs.List.{AllZip}
use Rattle.qu_post.specs.Bags.{with_letters, IsArriving}
use Rattle.qu_post.proofs.bags.put_letters.Given as goal

abbrev pub invariant-loop-bag : goal.invariant-loop-bag
invariant-loop-bag l = record {
  done : l.bags ≡ map (with_letters l.step) (take l.bag-index l.initial.bags) ++ drop l.bag-index l.initial.bags;
  rest : AllZip (IsArriving l.step) (drop l.bag-index l.initial.bags) l.arriving.items;
}
