-- The sum is that of an order that is serial where the premises hold.
use Rattle.std.proofs.Common.{ap, subst, ◌∙◌}
use Rattle.qu_trace.specs.declared.trace.Trace.{Trace}
use Rattle.qu_print.specs.Summary.{summary_of}
use Rattle.qu_cli.specs.Ends.{SumsUp}
use Rattle.qu_cli.proofs.simulation.sums_text.Goals as goal

pub returns : goal.returns
returns c =
    let premises = c.in_ok-premises in
    let order = c.in_ok-order in
    subst (λ (trace : Trace). SumsUp c.args.number trace c.in_ok-text.text) c.in_ok-run.ensures (record {
      premises = premises.premises;
      order = order.order;
      audited = premises.ensures.answer;
      ordered = order.ensures.printed;
      serial = order.ensures.serial;
      chained = order.ensures.chained;
      tells = c.in_ok-text.ensures
          ∙ ap (summary_of c.args.number c.in_ok-run.run' premises.premises) c.as_slice.ensures;
    })
