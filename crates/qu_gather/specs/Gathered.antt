-- What the actors of a run on threads hold in the end: each its state and the steps that it kept.
use Rattle.std.specs.Prelude.{List, ◌++◌, ◌≡◌, map, length, None}
use Rattle.std.specs.List.{flat_map, AllByRecursion}
use Rattle.qu_base.specs.declared.party.ClientId.{ClientId}
use Rattle.qu_base.specs.declared.party.ReplicaId.{ReplicaId}
use Rattle.qu_base.specs.declared.party.Party.{Party}
use Rattle.qu_base.specs.declared.party.Party.TheVariants as party
use Rattle.qu_base.specs.Bounds.{replicas}
use Rattle.qu_objects.specs.declared.op.Op.{Op}
use Rattle.qu_rows.specs.State.{ReplicaState}
use Rattle.qu_client.specs.declared.state.ClientState.{ClientState}
use Rattle.qu_trace.specs.declared.trace.Setup.{Setup}
use Rattle.qu_replay.specs.declared.kept_step.KeptStep.{KeptStep}
use Rattle.qu_replay.specs.Operations.{begun_operations}
use Rattle.qu_replay.specs.Standing.{ReplicaStands}
use Rattle.qu_lock.specs.Calls.{calls_by}
use Rattle.qu_lock.specs.Locked.{ClientStands}
use Rattle.qu_gather.specs.Correct.{correct_replicas, correct_clients}

abbrev pub replica_name : ReplicaState × List KeptStep → ReplicaId
replica_name held = held.0.me

abbrev pub client_name : ClientState × List KeptStep → ClientId
client_name held = held.0.me

-- the steps of a replica, each with its name
abbrev pub steps_of_replica : ReplicaState × List KeptStep → List (Party × KeptStep)
steps_of_replica held = map (λ (step : KeptStep). (party.Replica held.0.me, step)) held.1

-- the steps of a client, each with its name
abbrev pub steps_of_client : ClientState × List KeptStep → List (Party × KeptStep)
steps_of_client held = map (λ (step : KeptStep). (party.Client held.0.me, step)) held.1

-- the steps of all, actor by actor
abbrev pub all_steps : List (ReplicaState × List KeptStep) → List (ClientState × List KeptStep)
    → List (Party × KeptStep)
all_steps held others = flat_map steps_of_replica held ++ flat_map steps_of_client others

-- each replica is where its steps lead in a run of this setup
abbrev pub ReplicasStand : Setup → List (ReplicaState × List KeptStep) → Type 0
ReplicasStand setup held =
    AllByRecursion (λ (one : ReplicaState × List KeptStep). ReplicaStands setup one.0 one.1) held

-- each client is where its steps lead in a run of this setup, and began the first of its calls
abbrev pub ClientsStand : Setup → List (ClientId × Op) → List (ClientState × List KeptStep) → Type 0
ClientsStand setup calls held =
    AllByRecursion (λ (one : ClientState × List KeptStep). ClientStands setup calls one.0 one.1) held

-- a client began as many operations as it is called for, and none is under way
pub record HasEnded (calls : List (ClientId × Op)) (one : ClientState × List KeptStep) : Type 0 where
  pub idle : one.0.work ≡ None
  pub all : length (begun_operations one.1) ≡ length (calls_by one.0.me calls)

abbrev pub HaveEnded : List (ClientId × Op) → List (ClientState × List KeptStep) → Type 0
HaveEnded calls held = AllByRecursion (HasEnded calls) held

-- behind each lock stands the actor that it was made for, and there is a lock for each correct party
pub record AreTheirOwn (setup : Setup) (held : List (ReplicaState × List KeptStep))
    (others : List (ClientState × List KeptStep)) : Type 0 where
  pub replicas_are : map replica_name held ≡ correct_replicas setup (replicas setup.bounds)
  pub clients_are : map client_name others ≡ correct_clients setup setup.clients
