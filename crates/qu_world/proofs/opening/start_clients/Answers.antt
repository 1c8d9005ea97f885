-- Those that were started and those that are left are all.
use Rattle.std.proofs.Common.{ℕ, ◌+◌, ◌∙◌, ap, arith}
use Rattle.qu_client.specs.State.{client_at_start}
use Rattle.qu_world.proofs.OpeningLaws.{client_started, clients_started}
use Rattle.qu_world.proofs.opening.start_clients.Goals as goal

pub loop-before-preserved : goal.loop-before-preserved
loop-before-preserved c =
    client_started c.loop-before.started.items c.push.new.self.items _ c.start.result c.loop-before.before
    c.args.count c.args.keys
    (omega arith) c.loop-before.invariant
    (c.start.ensures
    ∙ ap (λ (seed : ℕ). client_at_start (record { 0 = c.loop-before.before + 1 }) c.args.keys seed) c.requires.seed)
    c.in_ok-push.ensures.items

pub returns : goal.returns
returns c = clients_started c.loop-before.started.items _ c.loop-before.before c.args.count c.args.keys
    (omega arith) c.loop-before.invariant
