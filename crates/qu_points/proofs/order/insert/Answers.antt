use Rattle.std.proofs.Common.{◌≡◌, ℕ, List, ◌∷◌, ◌++◌, take, drop, not, ap, sym, ◌∙◌}
use Rattle.std.specs.List.{position_or_len}
use Rattle.qu_machine.specs.declared.record.Point.{Point}
use Rattle.qu_claims.specs.Order.{is_earlier}
use Rattle.qu_points.proofs.Orders.Sorted.{with_point-place}
use Rattle.qu_points.proofs.order.insert.Goals as goal

pub returns : goal.returns
returns c =
    let points : List Point = c.args.points.now.items in
    let slice : c.as_slice.result.now ≡ points = c.as_slice.ensures.value in
    let found : c.in_ok-place.place ≡ position_or_len (λ first. not (is_earlier first c.args.point))
    c.as_slice.result.now = c.in_ok-place.ensures.value in
    let place : c.in_ok-place.place ≡ position_or_len (λ first. not (is_earlier first c.args.point)) points =
    found ∙ ap (λ (it : List Point). position_or_len (λ first. not (is_earlier first c.args.point)) it) slice in
    c.in_ok-insert.ensures.items ∙
    ap (λ (at : ℕ). take at points ++ c.args.point ∷ drop at points) place ∙
    sym (with_point-place c.args.point points)
