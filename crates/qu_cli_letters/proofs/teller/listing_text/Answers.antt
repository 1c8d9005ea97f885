-- The listing has an order that is serial where the premises hold.
use Rattle.std.proofs.Common.{ap, subst, sym, ◌∙◌}
use Rattle.qu_trace.specs.declared.trace.Trace.{Trace}
use Rattle.qu_listed.specs.Events.{events_text}
use Rattle.qu_cli.specs.Ends.{Lists}
use Rattle.qu_cli_letters.proofs.teller.listing_text.Goals as goal

pub returns : goal.returns
returns c =
    let premises = c.in_ok-premises in
    let order = c.in_ok-order in
    subst (λ (trace : Trace). Lists trace c.in_ok-text.text) c.in_ok-run.ensures (record {
      premises = premises.premises;
      order = order.order;
      audited = premises.ensures.answer;
      ordered = order.ensures.printed;
      serial = order.ensures.serial;
      chained = order.ensures.chained;
      tells = c.in_ok-text.ensures ∙ ap (events_text c.args.trace.now premises.premises) c.as_slice.ensures
          ∙ ap (λ (trace : Trace). events_text trace premises.premises order.order) (sym c.in_ok-run.ensures);
    })
