use Rattle.std.proofs.Common.{◌≡◌, ◌∙◌, Some, refl, sym, length, below_more, arith, ◌<◌}
use Rattle.std.specs.Prelude.{slice_get}
use Rattle.std.proofs.lemmas.Option.{slice_get_read, slice_get_within}
use Rattle.std.proofs.lemmas.Bool.{false≢true}
use Rattle.qu_machine.proofs.Running.{decides_twice}
use Rattle.qu_machine.proofs.judging.first_twice.Goals as goal

pub returns-then-stood_before : goal.returns-then-stood_before
returns-then-stood_before c =
    let there : slice_get c.args.order.now c.loop-index.index ≡ Some c.index-order-index.result =
    slice_get_read c.args.order.now (length c.args.order.now) c.loop-index.index c.index-order-index.result refl
    c.loop-index-test.true c.index-order-index.is in (
      (decides_twice c.args.order.now c.loop-index.index c.index-order-index.result there).0
          (sym c.stood_before.ensures ∙ c.if-stood_before.true),
      c.loop-index.invariant,
    )

pub loop-index-preserved : goal.loop-index-preserved
loop-index-preserved c =
    let there : slice_get c.args.order.now c.loop-index.index ≡ Some c.index-order-index.result =
    slice_get_read c.args.order.now (length c.args.order.now) c.loop-index.index c.index-order-index.result refl
    c.loop-index-test.true c.index-order-index.is in
    below_more _ _ c.loop-index.invariant
    (λ is. false≢true (sym c.if-stood_before.false ∙ c.stood_before.ensures
    ∙ (decides_twice c.args.order.now c.loop-index.index c.index-order-index.result there).1 is))

pub returns : goal.returns
returns c = λ at is.
    let below : at < length c.args.order.now = slice_get_within c.args.order.now at is.point is.there in
    c.loop-index.invariant at (omega arith) is
