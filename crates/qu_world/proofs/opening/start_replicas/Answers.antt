-- Those that were started and those that are left are all.
use Rattle.std.proofs.Common.{ap, ◌∙◌, arith}
use Rattle.qu_base.specs.Bounds.{replicas}
use Rattle.qu_fitting.specs.Holding.{replica_at_start}
use Rattle.qu_world.specs.State.{kinds_at, opening_replicas}
use Rattle.qu_world.proofs.OpeningLaws.{replica_started, replicas_started}
use Rattle.qu_world.proofs.opening.start_replicas.Goals as goal

pub loop-number-preserved : goal.loop-number-preserved
loop-number-preserved c =
    replica_started c.loop-number.started.items c.push.new.self.items _ c.in_ok-start.field-0 c.loop-number.number
    c.n-count.result c.args.keys (kinds_at c.args.setup.now)
    (omega arith) c.loop-number.invariant
    (c.in_ok-start.ensures.value
    ∙ ap (replica_at_start (record { 0 = c.loop-number.number }) c.args.keys) c.kinds_at.ensures.value)
    c.in_ok-push.ensures.items

pub returns : goal.returns
returns c =
    let here = replicas_started c.loop-number.started.items
    (opening_replicas 0 c.n-count.result c.args.keys (kinds_at c.args.setup.now)) c.loop-number.number
    c.n-count.result c.args.keys (kinds_at c.args.setup.now) (omega arith) c.loop-number.invariant in
    rw (c.n-count.ensures.value ∙ ap replicas c.bounds.ensures) at here
