use Rattle.std.proofs.Common.{◌≡◌}
use Rattle.std.specs.Prelude.{map}
use Rattle.qu_kept.specs.Performing.{written}
use Rattle.qu_kept.proofs.versions.states_after.Given as goal

abbrev pub invariant-loop-object : goal.invariant-loop-object
invariant-loop-object l =
    l.new ≡ map (written l.row l.parts)
    (map (λ each. ((each.0).now, (((each.1).0).now, (((each.1).1).0, (((each.1).1).1).now)))) l.yielded)
