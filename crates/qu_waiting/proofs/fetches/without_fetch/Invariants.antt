use Rattle.std.proofs.Common.{◌≡◌, take}
use Rattle.std.specs.Prelude.{not, filter}
use Rattle.qu_waiting.specs.Slots.{is_running}
use Rattle.qu_waiting.proofs.fetches.without_fetch.Given as goal

abbrev pub invariant-loop-running : goal.invariant-loop-running
invariant-loop-running l =
    l.made ≡ filter (λ running. not (is_running l.object l.stamp running)) (take l.running-index l.fetching)
