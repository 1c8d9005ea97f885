use Rattle.std.proofs.Common.{◌≡◌, ◌++◌, take}
use Rattle.std.specs.List.{flat_map}
use Rattle.qu_history.proofs.writing_sets.append_each_mac.Given as goal

abbrev pub invariant-loop-mac : goal.invariant-loop-mac
invariant-loop-mac l = l.out ≡ l.fn.out ++ flat_map (λ mac. mac) (take l.mac-index l.macs)
