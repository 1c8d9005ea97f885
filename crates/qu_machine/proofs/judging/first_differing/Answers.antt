use Rattle.std.proofs.Common.{◌≡◌, ◌∙◌, ◌<◌, Some, List, refl, sym, ap, length, take, below_more, arith}
use Rattle.std.specs.Prelude.{slice_get}
use Rattle.std.proofs.lemmas.Bool.{false≢true}
use Rattle.std.proofs.lemmas.List.{length-map}
use Rattle.std.proofs.lemmas.Option.{slice_get_read, slice_get_within}
use Rattle.qu_objects.specs.declared.kind.Value.{Value}
use Rattle.qu_objects.specs.Kind.{fresh_value}
use Rattle.qu_machine.specs.declared.record.Point.{Point}
use Rattle.qu_machine.specs.Serial.{op_answer, op_values, values_after, answer_at}
use Rattle.qu_machine.proofs.Running.{decides_differs, values_none, values_more, length-op_values}
use Rattle.qu_machine.proofs.judging.first_differing.Goals as goal

pub loop-index-init : goal.loop-index-init
loop-index-init c = record {
  values = c.in_ok-machine.ensures ∙ sym (values_none c.args.kinds.now c.args.order.now);
  objects = ap length c.in_ok-machine.ensures ∙ length-map c.args.kinds.now fresh_value;
  same = λ earlier below. absurd (omega arith);
}

pub returns-then-differs : goal.returns-then-differs
returns-then-differs c =
    let point : Point = c.index-order-index.result in
    let there : slice_get c.args.order.now c.loop-index.index ≡ Some point =
    slice_get_read c.args.order.now (length c.args.order.now) c.loop-index.index point refl c.loop-index-test.true
    c.index-order-index.is in
    let answer : c.in_ok-answer.answer ≡ answer_at c.args.kinds.now c.args.order.now c.loop-index.index point =
    c.in_ok-answer.ensures.answer ∙ ap (λ (values : List Value). op_answer values point.op)
    c.loop-index.invariant.values in (
      (decides_differs c.args.kinds.now c.args.ops.now c.args.order.now c.loop-index.index point
          c.in_ok-answer.answer there answer).0 (sym c.differs.ensures ∙ c.if-differs.true),
      c.loop-index.invariant.same,
    )

pub loop-index-preserved : goal.loop-index-preserved
loop-index-preserved c =
    let point : Point = c.index-order-index.result in
    let there : slice_get c.args.order.now c.loop-index.index ≡ Some point =
    slice_get_read c.args.order.now (length c.args.order.now) c.loop-index.index point refl c.loop-index-test.true
    c.index-order-index.is in
    let answer : c.in_ok-answer.answer ≡ answer_at c.args.kinds.now c.args.order.now c.loop-index.index point =
    c.in_ok-answer.ensures.answer ∙ ap (λ (values : List Value). op_answer values point.op)
    c.loop-index.invariant.values in
    record {
      values =
          c.in_ok-answer.ensures.values ∙
          ap (λ (values : List Value). op_values values point.op) c.loop-index.invariant.values ∙
          ap (λ (it : Point). op_values (values_after c.args.kinds.now (take c.loop-index.index c.args.order.now))
          it.op) c.index-order-index.is ∙
          sym (values_more c.args.kinds.now c.args.order.now c.loop-index.index point c.loop-index-test.true);
      objects = ap length c.in_ok-answer.ensures.values ∙ length-op_values c.loop-index.machine point.op
          ∙ c.loop-index.invariant.objects;
      same = below_more _ _ c.loop-index.invariant.same
          (λ is. false≢true (sym c.if-differs.false ∙ c.differs.ensures ∙
          (decides_differs c.args.kinds.now c.args.ops.now c.args.order.now c.loop-index.index point
          c.in_ok-answer.answer there answer).1 is));
    }

pub returns : goal.returns
returns c = λ at is.
    let below : at < length c.args.order.now = slice_get_within c.args.order.now at is.point is.stands.there in
    c.loop-index.invariant.same at (omega arith) is
