use Rattle.std.proofs.Common.{◌≡◌, take}
use Rattle.qu_stamp.proofs.group.Group.new.Given as goal

abbrev pub invariant-loop-pair : goal.invariant-loop-pair
invariant-loop-pair l = l.members ≡ take l.pair-index l.pairs
