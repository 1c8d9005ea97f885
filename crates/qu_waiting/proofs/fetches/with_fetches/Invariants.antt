use Rattle.std.proofs.Common.{◌≡◌, drop}
use Rattle.qu_waiting.specs.Slots.{with_fetches}
use Rattle.qu_waiting.proofs.fetches.with_fetches.Given as goal

abbrev pub invariant-loop-key : goal.invariant-loop-key
invariant-loop-key l =
    with_fetches l.need (drop l.key-index l.missing) l.made ≡ with_fetches l.need l.missing l.fetching
