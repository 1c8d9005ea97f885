-- The steps of one actor more stand behind those of others.
use Rattle.std.proofs.Common.{◌≡◌, ◌+◌, List, [], ◌∷◌, ◌++◌, map, ap, subst, ◌∙◌}
use Rattle.std.specs.List.{flat_map}
use Rattle.std.proofs.lemmas.List.{flat_map_more}
use Rattle.qu_base.specs.declared.party.Party.{Party}
use Rattle.qu_base.specs.declared.party.Party.TheVariants as party
use Rattle.qu_objects.specs.declared.op.Op.{Op}
use Rattle.qu_base.specs.declared.party.ClientId.{ClientId}
use Rattle.qu_base.proofs.EachItem.{each_push}
use Rattle.qu_rows.specs.State.{ReplicaState}
use Rattle.qu_client.specs.declared.state.ClientState.{ClientState}
use Rattle.qu_trace.specs.declared.trace.Setup.{Setup}
use Rattle.qu_replay.specs.declared.kept_step.KeptStep.{KeptStep}
use Rattle.qu_replay.specs.Standing.{ReplicaStands}
use Rattle.qu_lock.specs.Locked.{ClientStands}
use Rattle.qu_gather.specs.Gathered.{steps_of_replica, steps_of_client, ReplicasStand, ClientsStand}

pub replica_put : (first before after : List (Party × KeptStep)) (held : List (ReplicaState × List KeptStep))
    (one parts : ReplicaState × List KeptStep) (me : Party) → before ≡ first ++ flat_map steps_of_replica held
    → me ≡ party.Replica one.0.me → parts ≡ one
    → after ≡ before ++ map (λ (step : KeptStep). (me, step)) parts.1
    → after ≡ first ++ flat_map steps_of_replica (held ++ one ∷ [])
replica_put first before after held one parts me before_is me_is parts_are after_is =
    after_is
    ∙ ap (λ (it : Party). before ++ map (λ (step : KeptStep). (it, step)) parts.1) me_is
    ∙ ap (λ (it : ReplicaState × List KeptStep).
    before ++ map (λ (step : KeptStep). (party.Replica one.0.me, step)) it.1) parts_are
    ∙ ap (λ (it : List (Party × KeptStep)). it ++ steps_of_replica one) before_is
    ∙ flat_map_more steps_of_replica first held one

pub client_put : (first before after : List (Party × KeptStep)) (held : List (ClientState × List KeptStep))
    (one parts : ClientState × List KeptStep) (me : Party) → before ≡ first ++ flat_map steps_of_client held
    → me ≡ party.Client one.0.me → parts ≡ one
    → after ≡ before ++ map (λ (step : KeptStep). (me, step)) parts.1
    → after ≡ first ++ flat_map steps_of_client (held ++ one ∷ [])
client_put first before after held one parts me before_is me_is parts_are after_is =
    after_is
    ∙ ap (λ (it : Party). before ++ map (λ (step : KeptStep). (it, step)) parts.1) me_is
    ∙ ap (λ (it : ClientState × List KeptStep).
    before ++ map (λ (step : KeptStep). (party.Client one.0.me, step)) it.1) parts_are
    ∙ ap (λ (it : List (Party × KeptStep)). it ++ steps_of_client one) before_is
    ∙ flat_map_more steps_of_client first held one

pub replica_stands : (setup : Setup) (held : List (ReplicaState × List KeptStep))
    (one parts : ReplicaState × List KeptStep) → ReplicasStand setup held → parts ≡ one
    → ReplicaStands setup parts.0 parts.1 → ReplicasStand setup (held ++ one ∷ [])
replica_stands setup held one parts stand parts_are here =
    each_push (λ (it : ReplicaState × List KeptStep). ReplicaStands setup it.0 it.1) held one stand
    (subst (λ (it : ReplicaState × List KeptStep). ReplicaStands setup it.0 it.1) parts_are here)

pub client_stands : (setup : Setup) (calls : List (ClientId × Op)) (held : List (ClientState × List KeptStep))
    (one parts : ClientState × List KeptStep) → ClientsStand setup calls held → parts ≡ one
    → ClientStands setup calls parts.0 parts.1 → ClientsStand setup calls (held ++ one ∷ [])
client_stands setup calls held one parts stand parts_are here =
    each_push (λ (it : ClientState × List KeptStep). ClientStands setup calls it.0 it.1) held one stand
    (subst (λ (it : ClientState × List KeptStep). ClientStands setup calls it.0 it.1) parts_are here)
