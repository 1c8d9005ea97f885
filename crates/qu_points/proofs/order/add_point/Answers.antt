use Rattle.std.proofs.Common.{refl, ap, subst, ◌∙◌}
use Rattle.qu_base.specs.declared.party.Party.TheVariants as party
use Rattle.qu_trace.specs.declared.trace.Trace.{Trace}
use Rattle.qu_trace.specs.Faulty.{is_faulty}
use Rattle.qu_points.proofs.Orders.Printed.{adds_some, adds_none}
use Rattle.qu_points.proofs.Taken.Taking.{IsEffect}
use Rattle.qu_points.proofs.order.add_point.Goals as goal

pub returns-in_ok-insert : goal.returns-in_ok-insert
returns-in_ok-insert c =
    adds_some c.args.trace.now c.args.operation.now c.in-Some.event _ c.args.points.now.items c.insert.new.points.items
    (subst (IsEffect c.args.trace.now c.args.operation.now c.args.operation.now.op) c.in-Some.is c.in_ok-found.ensures)
    (λ i. record {
      event = c.in-Some.event;
      client = c.args.operation.now.client;
      number = c.args.operation.now.number;
      op = c.in_ok-copy.ensures i;
      faulty = (c.is_faulty.ensures
          ∙ ap (λ (run : Trace). is_faulty run.setup (party.Client c.args.operation.now.client)) c.trace.ensures) i;
    })
    c.in_ok-insert.ensures

pub returns-in_default : goal.returns-in_default
returns-in_default c = adds_none c.args.trace.now c.args.operation.now c.args.points.now.items c.args.points.now.items
    (subst (IsEffect c.args.trace.now c.args.operation.now c.args.operation.now.op) c.in_default.is
    c.in_ok-found.ensures) refl
