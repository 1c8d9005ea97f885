use Rattle.std.proofs.Common.{◌≡◌, ◌+◌, drop, not}
use Rattle.std.specs.List.{position_or_len}
use Rattle.qu_claims.specs.Order.{is_earlier}
use Rattle.qu_points.proofs.order.place_of.Given as goal

-- the points so far are before this one
abbrev pub invariant-loop-place : goal.invariant-loop-place
invariant-loop-place l =
    position_or_len (λ first. not (is_earlier first l.point)) l.points ≡ l.place
    + position_or_len (λ first. not (is_earlier first l.point)) (drop l.place l.points)
