-- the events so far rise
use Rattle.std.proofs.Common.{ℕ, ◌+◌, ◌<◌, get_or, map}
use Rattle.qu_machine.proofs.judgeable.is_rising.Given as goal

abbrev pub invariant-loop-index : goal.invariant-loop-index
invariant-loop-index l =
    (place : ℕ) → place + 1 < l.index → get_or (map (λ point. point.event) l.order) place 0 < get_or
    (map (λ point. point.event) l.order) (place + 1) 0
