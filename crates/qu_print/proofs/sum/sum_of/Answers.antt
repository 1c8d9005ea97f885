-- the number of the next object is added
use Rattle.std.proofs.Common.{rules, ◌≡◌, ◌∙◌}
use Rattle.qu_print.specs.Summary.{counter_at}
use Rattle.qu_print.proofs.SumFacts.{sum_step}
use Rattle.qu_print.proofs.sum.sum_of.Goals as goal

pub loop-object-preserved : goal.loop-object-preserved
loop-object-preserved c =
    let number : c.from.result ≡ counter_at c.args.machine.now c.loop-object.object = search rules in
    let next = sum_step (counter_at c.args.machine.now) c.loop-object.sum c.loop-object.object c.args.count
    c.loop-object-test.true ∙ c.loop-object.invariant.sum in
    record {
      sum = rw number next;
      few = search rules;
    }
