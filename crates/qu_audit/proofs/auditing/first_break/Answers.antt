use Rattle.std.proofs.Common.{◌≡◌, length, ap, subst, arith}
use Rattle.qu_trace.specs.declared.trace.Trace.{Trace}
use Rattle.qu_audit.specs.Past.{IsPast}
use Rattle.qu_audit.proofs.Steps.{past_none, meets_premises}
use Rattle.qu_audit.proofs.auditing.first_break.Goals as goal

pub loop-index-init : goal.loop-index-init
loop-index-init c =
    past_none c.args.trace.now (record { shown = c.new.result; digests = c.new-2.result }) c.new.ensures c.new-2.ensures

pub returns : goal.returns
returns c =
    let all : c.loop-index.index ≡ length c.args.trace.now.entries =
    omega (
      arith,
      c.loop-index-test.false,
      c.loop-index.auto.index-end,
      c.len-index-end.ensures,
      ap (λ (trace : Trace). length trace.entries) c.trace-2.ensures,
    ) in
    meets_premises c.args.trace.now c.loop-index.past
    (subst (λ count. IsPast c.args.trace.now count c.loop-index.past) all c.loop-index.invariant)
