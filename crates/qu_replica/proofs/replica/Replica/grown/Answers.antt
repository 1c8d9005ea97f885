-- The candidate stands at the end of the history of its object.
use Rattle.std.proofs.Common.{ap}
use Rattle.qu_rows.specs.State.{ReplicaState}
use Rattle.qu_fitting.proofs.Accepting.{read_history_after}
use Rattle.qu_replica.proofs.replica.Replica.grown.Goals as goal

pub returns-in-Ok : goal.returns-in-Ok
returns-in-Ok c =
    read_history_after c.args.accepted.now.object.0 c.from.result c.args.accepted.now.candidate
    c.args.self.now.histories c.self.inside.histories.items c.index.result.now c.in_ok-history.history c.add.new.self
    (ap (λ (state : ReplicaState). state.histories) c.self.view_is) c.from.ensures c.index.ensures
    c.in_ok-history.ensures
    c.requires.known c.in-Ok.ensures.added
