-- The points of all queries, and of the acts that replicas handled, are the printed order.
use Rattle.std.proofs.Common.{◌≡◌, true, List, sym, ap, subst, ◌∙◌}
use Rattle.std.specs.List.{All, AllPairs, filter}
use Rattle.std.proofs.lemmas.List.Kept.{AllPairs-filter}
use Rattle.std.proofs.lemmas.List.Elements.{filter_passes}
use Rattle.qu_machine.specs.declared.record.OpRecord.{OpRecord}
use Rattle.qu_trace.specs.declared.trace.Trace.{Trace}
use Rattle.qu_trace.specs.Operation.{operations_of}
use Rattle.qu_claims.specs.Order.{IsPrintedOrder}
use Rattle.qu_points.specs.Points.{AreDistinct, is_query, AddsActs, ArePointsOf}
use Rattle.qu_points.proofs.Operations.Correct.{operations_correct}
use Rattle.qu_points.proofs.Operations.Distinct.{operations_distinct}
use Rattle.qu_points.proofs.Orders.Printed.{printed}
use Rattle.qu_points.proofs.order.printed_order.Goals as goal
use Rattle.qu_points.proofs.order.printed_order.Goals.{After-operations-2-1}

queries_are : (c : After-operations-2-1)
    → c.in_ok-operations.operations ≡ filter is_query (operations_of c.args.trace.now)
queries_are c = c.in_ok-operations.ensures ∙ ap (filter is_query) c.operations.ensures

pub add_acts-requires-clause-distinct : goal.add_acts-requires-clause-distinct
add_acts-requires-clause-distinct c =
    subst (λ (operations : List OpRecord). AllPairs AreDistinct operations) (sym (queries_are c))
    (AllPairs-filter AreDistinct is_query (operations_of c.args.trace.now) (operations_distinct c.args.trace.now))

pub add_acts-requires-clause-queries : goal.add_acts-requires-clause-queries
add_acts-requires-clause-queries c =
    subst (λ (operations : List OpRecord). All (λ (it : OpRecord). is_query it ≡ true) operations)
    (sym (queries_are c)) (filter_passes is_query (operations_of c.args.trace.now))

pub points-requires-clause-distinct : goal.points-requires-clause-distinct
points-requires-clause-distinct c =
    subst (λ (operations : List OpRecord). AllPairs AreDistinct operations) (sym c.as_slice-2.ensures)
    c.in_ok-add_acts.ensures.distinct

pub returns : goal.returns
returns c =
    let trace : Trace = c.args.trace.now in
    let operations : List OpRecord = c.add_acts.new.operations in
    let queries : c.in_ok-operations.operations ≡ filter is_query (operations_of trace) =
    c.in_ok-operations.ensures ∙ ap (filter is_query) c.operations.ensures in
    subst (IsPrintedOrder trace) (sym c.from.ensures)
    (printed trace c.as_slice.result.now operations (c.as_slice.ensures ∙ c.in_ok-facts.ensures.handled)
    (operations_correct trace)
    (subst (λ (old : List OpRecord). AddsActs c.as_slice.result.now old operations) queries
    c.in_ok-add_acts.ensures)
    c.in_ok-points.points.items
    (subst (λ (all : List OpRecord). ArePointsOf trace all c.in_ok-points.points.items) c.as_slice-2.ensures
    c.in_ok-points.ensures))
