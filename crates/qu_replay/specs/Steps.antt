-- Kept steps: what an actor took, and what it made of it.
use Rattle.std.specs.Prelude.{ℕ, List, [], ◌≡◌, Option, None}
use Rattle.qu_base.specs.declared.party.ClientId.{ClientId}
use Rattle.qu_base.specs.declared.party.Party.{Party}
use Rattle.qu_base.specs.declared.party.Party.TheVariants as party
use Rattle.qu_objects.specs.declared.op.Outcome.{Outcome}
use Rattle.qu_frames.specs.declared.frame.Letter.{Letter}
use Rattle.qu_rows.specs.State.{ReplicaState}
use Rattle.qu_replica.specs.Step.{replica_step}
use Rattle.qu_client.specs.declared.state.ClientState.{ClientState}
use Rattle.qu_client.specs.State.{Stepped}
use Rattle.qu_client.specs.Steps.{client_invoke, client_step, client_tick}
use Rattle.qu_world.specs.Step.{ended_by}
use Rattle.qu_frames.specs.declared.input.Input.{Input}
use Rattle.qu_frames.specs.declared.input.Input.TheVariants.{Frame, Tick, Invoke}

-- a replica or a client, by its state
pub data Actor : Type 0 where
  Replicates : ReplicaState → Actor
  Asks : ClientState → Actor

-- what a step makes
pub record Moved : Type 0 where
  pub actor : Actor
  pub letters : List Letter
  pub ended : Option (ClientId × ℕ × Outcome)

-- what a replica made
abbrev pub replica_made : ReplicaState × List Letter → Moved
replica_made made = record { actor = Replicates made.0; letters = made.1; ended = None }

-- what a client with this name made, with the number of the operation that ended
abbrev pub client_made : ClientId → ClientState → Stepped → Moved
client_made me state stepped = record {
  actor = Asks stepped.state;
  letters = stepped.letters;
  ended = ended_by me state.work stepped.ended;
}

-- nothing is made
abbrev pub actor_stays : Actor → Moved
actor_stays actor = record { actor = actor; letters = []; ended = None }

-- what a replica makes of an input
abbrev pub moved_replica : ReplicaState → Input → Moved
moved_replica state (Frame name text) = replica_made (replica_step state text)
moved_replica state Tick = actor_stays (Replicates state)
moved_replica state (Invoke op) = actor_stays (Replicates state)

-- what a client makes of an input
abbrev pub moved_client : ClientId → ClientState → Input → Moved
moved_client me state (Frame name text) = client_made me state (client_step state text)
moved_client me state Tick = client_made me state (client_tick state)
moved_client me state (Invoke op) = client_made me state (client_invoke state op)

-- what the actor with this name makes of an input
abbrev pub actor_moved : Party → Actor → Input → Moved
actor_moved (party.Replica me) (Replicates state) input = moved_replica state input
actor_moved (party.Client me) (Asks state) input = moved_client me state input
actor_moved _ actor input = actor_stays actor

-- a client begins an operation where it has none under way
abbrev pub IsTakenByClient : ClientState → Input → Type 0
IsTakenByClient state (Frame name text) = Unit {0}
IsTakenByClient state Tick = Unit {0}
IsTakenByClient state (Invoke op) = state.work ≡ None

-- a replica takes frames alone
abbrev pub IsTakenByReplica : Input → Type 0
IsTakenByReplica (Frame name text) = Unit {0}
IsTakenByReplica Tick = ⊥
IsTakenByReplica (Invoke op) = ⊥

-- an actor can take this input
abbrev pub CanTake : Party → Actor → Input → Type 0
CanTake (party.Replica me) (Replicates state) input = IsTakenByReplica input
CanTake (party.Client me) (Asks state) input = IsTakenByClient state input
CanTake _ actor input = ⊥
