-- The replicas so far.
use Rattle.std.proofs.Common.{◌≡◌, map}
use Rattle.std.specs.List.{range_with_len}
use Rattle.qu_script.specs.Fake.{numbered_replica}
use Rattle.qu_script.proofs.fake.all_replicas.Given as goal

abbrev pub invariant-loop-number : goal.invariant-loop-number
invariant-loop-number l =
    l.all ≡ map (λ number. numbered_replica number) (range_with_len 0 l.number)
