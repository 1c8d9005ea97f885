use Rattle.std.proofs.Common.{◌≡◌, map, take}
use Rattle.qu_waiting.specs.Slots.{with_vote}
use Rattle.qu_waiting.proofs.fetches.with_votes.Given as goal

abbrev pub invariant-loop-running : goal.invariant-loop-running
invariant-loop-running l =
    l.made ≡ map (with_vote l.object l.stamp l.replica l.text) (take l.running-index l.fetching)
