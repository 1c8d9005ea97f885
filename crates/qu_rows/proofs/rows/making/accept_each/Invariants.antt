-- what was accepted so far is what the objects so far accept
use Rattle.std.proofs.Common.{◌≡◌, map}
use Rattle.std.specs.List.{filter_map}
use Rattle.qu_rows.specs.Rows.{accepted_one}
use Rattle.qu_rows.proofs.rows.making.accept_each.Given as goal

abbrev pub invariant-loop-one : goal.invariant-loop-one
invariant-loop-one l =
    l.accepted ≡ filter_map (accepted_one l.asked l.group) (map (λ each. ((each.0).now, each.1)) l.yielded)
