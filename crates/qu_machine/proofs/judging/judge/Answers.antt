use Rattle.std.proofs.Common.{sym}
use Rattle.qu_machine.specs.declared.fault.JudgeFault.TheVariants as fault
use Rattle.qu_machine.specs.Fault.{OutsideAt, AbsentAt}
use Rattle.qu_machine.specs.PointTests.{is_outside, is_absent}
use Rattle.qu_machine.proofs.Firsts.{first_at, nowhere_at}
use Rattle.qu_machine.proofs.Verdict.{outside_at, absent_at, serial_from, no_fault}
use Rattle.qu_machine.proofs.judging.judge.Goals as goal

pub returns-in-Some-clause-accepted : goal.returns-in-Some-clause-accepted
returns-in-Some-clause-accepted c = λ serial.
    no_fault c.args.kinds.now c.args.ops.now c.args.order.now (fault.Differs c.in-Some.at) serial
    (rw c.in-Some.is at c.in_ok-at.ensures)

pub returns-in-Some-first_outside-clause-verdict : goal.returns-in-Some-first_outside-clause-verdict
returns-in-Some-first_outside-clause-verdict c = (
  rw c.in_default.is at c.in_ok-at.ensures,
  first_at (is_outside c.args.ops.now) (OutsideAt c.args.ops.now c.args.order.now) c.args.order.now
      c.in-Some-first_outside.at
      (outside_at c.args.ops.now c.args.order.now) (sym c.in-Some-first_outside.ensures),
)

pub returns-in-Some-first_outside-clause-accepted : goal.returns-in-Some-first_outside-clause-accepted
returns-in-Some-first_outside-clause-accepted c = λ serial.
    no_fault c.args.kinds.now c.args.ops.now c.args.order.now (fault.Outside c.in-Some-first_outside.at) serial
    (returns-in-Some-first_outside-clause-verdict c)

pub returns-in-Some-first_twice-clause-verdict : goal.returns-in-Some-first_twice-clause-verdict
returns-in-Some-first_twice-clause-verdict c = (
  rw c.in_default.is at c.in_ok-at.ensures,
  nowhere_at (is_outside c.args.ops.now) (OutsideAt c.args.ops.now c.args.order.now) c.args.order.now
      (outside_at c.args.ops.now c.args.order.now) (sym c.in_default-first_outside.ensures),
  c.in-Some-first_twice.ensures,
)

pub returns-in-Some-first_twice-clause-accepted : goal.returns-in-Some-first_twice-clause-accepted
returns-in-Some-first_twice-clause-accepted c = λ serial.
    no_fault c.args.kinds.now c.args.ops.now c.args.order.now (fault.Twice c.in-Some-first_twice.at) serial
    (returns-in-Some-first_twice-clause-verdict c)

pub returns-in-Some-first_absent-clause-verdict : goal.returns-in-Some-first_absent-clause-verdict
returns-in-Some-first_absent-clause-verdict c = (
  rw c.in_default.is at c.in_ok-at.ensures,
  nowhere_at (is_outside c.args.ops.now) (OutsideAt c.args.ops.now c.args.order.now) c.args.order.now
      (outside_at c.args.ops.now c.args.order.now) (sym c.in_default-first_outside.ensures),
  c.in_default-first_twice.ensures,
  first_at (is_absent c.args.order.now) (AbsentAt c.args.ops.now c.args.order.now) c.args.ops.now
      c.in-Some-first_absent.op
      (absent_at c.args.ops.now c.args.order.now) (sym c.in-Some-first_absent.ensures),
)

pub returns-in-Some-first_absent-clause-accepted : goal.returns-in-Some-first_absent-clause-accepted
returns-in-Some-first_absent-clause-accepted c = λ serial.
    no_fault c.args.kinds.now c.args.ops.now c.args.order.now (fault.Absent c.in-Some-first_absent.op) serial
    (returns-in-Some-first_absent-clause-verdict c)

pub returns-in-None-clause-verdict : goal.returns-in-None-clause-verdict
returns-in-None-clause-verdict c =
    serial_from c.args.kinds.now c.args.ops.now c.args.order.now c.requires.rising
    (rw c.in_default.is at c.in_ok-at.ensures)
    (nowhere_at (is_outside c.args.ops.now) (OutsideAt c.args.ops.now c.args.order.now) c.args.order.now
    (outside_at c.args.ops.now c.args.order.now) (sym c.in_default-first_outside.ensures))
    c.in_default-first_twice.ensures
    (nowhere_at (is_absent c.args.order.now) (AbsentAt c.args.ops.now c.args.order.now) c.args.ops.now
    (absent_at c.args.ops.now c.args.order.now) (sym c.in-None.ensures))
