-- One step more is counted where an operation begins in it.
use Rattle.std.proofs.Common.{arith}
use Rattle.qu_lock.proofs.Calling.{begun_one, begun_none, begun_next, none_left}
use Rattle.qu_lock.proofs.kept.client.begun.Goals.{in-Invoke, in_default}
use Rattle.qu_lock.proofs.kept.client.begun.Goals as goal

pub loop-step-preserved : goal.loop-step-preserved
loop-step-preserved c =
    let next =
    begun_next c.args.steps.now c.loop-step.step-index c.step-item.result c.loop-step-test.true c.step-item.is in
    let so_far = c.loop-step.invariant.so_far in
    let most = c.loop-step.invariant.most in
    elim c.match-step.branch [
      | in-Invoke w ↦
          let one = begun_one _ _ w.in-Invoke.is in
          let is = w.begun-is in
          record { so_far = omega (arith, next, so_far, one, is); most = omega (arith, most, is) }
      | in_default w ↦
          let none = begun_none _ w.in_default.not-Invoke in
          let is = w.begun-is in
          record { so_far = omega (arith, next, so_far, none, is); most = omega (arith, most, is) }
    ]

pub returns : goal.returns
returns c =
    let none = none_left c.args.steps.now c.loop-step.step-index c.loop-step-test.false in
    let so_far = c.loop-step.invariant.so_far in
    omega (arith, none, so_far)
