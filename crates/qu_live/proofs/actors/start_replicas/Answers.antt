-- The next correct replica begins as the run has it.
use Rattle.std.proofs.Common.{◌≡◌, List, Some, get_or, ap, subst, ◌∙◌}
use Rattle.std.proofs.lemmas.List.{get_or_default}
use Rattle.qu_base.specs.declared.party.Party.TheVariants as party
use Rattle.qu_base.specs.declared.party.ReplicaId.{ReplicaId}
use Rattle.qu_objects.specs.declared.kind.KindName.{KindName}
use Rattle.qu_fitting.specs.Holding.{replica_at_start}
use Rattle.qu_trace.specs.declared.trace.Setup.{Setup}
use Rattle.qu_replay.specs.Steps.{Replicates}
use Rattle.qu_replay.specs.Replays.{opening_actor}
use Rattle.qu_gather.proofs.Opening.{replica_opens}
use Rattle.qu_live.proofs.actors.start_replicas.Goals as goal

pub new-requires : goal.new-requires
new-requires g c =
    let correct : List ReplicaId = c.deref-me-items.result.now in
    let at = c.loop-me.me-index in
    let me : ReplicaId = get_or correct at (record { 0 = 0 }) in
    subst (λ (it : Setup). opening_actor it (party.Replica me) ≡ Some (Replicates c.in_ok-replica.replica))
    c.requires.named
    (replica_opens c.args.setup.now c.args.keys correct at me c.in_ok-replica.replica
    (c.deref-me-items.ensures.value ∙ c.in_ok-correct.ensures) c.loop-me-test.true
    (get_or_default correct at (record { 0 = 0 }) me c.loop-me-test.true) c.requires.keys
    (c.in_ok-replica.ensures.value
    ∙ ap (λ (it : List KindName). replica_at_start me c.args.keys it) c.as_slice.ensures))
