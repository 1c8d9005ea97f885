-- A world: the state of each replica and client, and the record of what happened so far.
use Rattle.std.specs.Prelude.{ℕ, if◌then◌else◌, zero, suc, ◌+◌, List, [], ◌∷◌, slice_get, slice_set, Option, None}
use Rattle.std.specs.Option.{option_and_then}
use Rattle.qu_base.specs.declared.party.ClientId.{ClientId}
use Rattle.qu_base.specs.declared.party.ObjectId.{ObjectId}
use Rattle.qu_base.specs.declared.party.Party.TheVariants as party
use Rattle.qu_base.specs.declared.party.ReplicaId.{ReplicaId}
use Rattle.qu_base.specs.Bounds.{replicas}
use Rattle.qu_seal.specs.Keys.{Ring}
use Rattle.qu_history.specs.History.{ObjectHistory}
use Rattle.qu_objects.specs.declared.kind.KindName.{KindName}
use Rattle.qu_frames.specs.declared.frame.Letter.{Letter}
use Rattle.qu_fitting.specs.Holding as replica
use Rattle.qu_rows.specs.State.{ReplicaState}
use Rattle.qu_client.specs.State as client
use Rattle.qu_client.specs.declared.state.ClientState.{ClientState}
use Rattle.qu_trace.specs.declared.trace.Setup.{Setup}
use Rattle.qu_trace.specs.declared.trace.Entry.{Entry}
use Rattle.qu_trace.specs.Faulty.{is_faulty}
use Rattle.qu_trace.specs.Letters.{letters_of}
pub use Rattle.qu_trace.specs.Letters.{numbered}

pub record WorldState : Type 0 where
  pub setup : Setup
  -- replicas 0, 1, 2, ..
  pub replicas : List ReplicaState
  -- clients 1, 2, 3, ..
  pub clients : List ClientState
  pub entries : List Entry

abbrev pub world_of : Setup → List ReplicaState → List ClientState → List Entry → WorldState
world_of setup replicas clients entries =
    record { setup = setup; replicas = replicas; clients = clients; entries = entries }

-- the kinds of the objects that the replica with this number keeps: a faulty one keeps nothing, so that it accepts
-- nothing
abbrev pub kinds_at : Setup → ℕ → List KindName
kinds_at setup number = if is_faulty setup (party.Replica (record { 0 = number })) then [] else setup.kinds

-- so many replicas from this number on, as they begin, each with objects of its kinds
unfoldable pub opening_replicas : ℕ → ℕ → Ring → (ℕ → List KindName) → List ReplicaState
opening_replicas number zero keys kinds = []
opening_replicas number (suc count) keys kinds =
    replica.replica_at_start (record { 0 = number }) keys (kinds number) ∷ opening_replicas (number + 1) count keys
    kinds

-- so many clients from this number on, as they begin
unfoldable pub opening_clients : ℕ → ℕ → Ring → List ClientState
opening_clients number zero keys = []
opening_clients number (suc count) keys =
    client.client_at_start (record { 0 = number }) keys keys.seed ∷ opening_clients (number + 1) count keys

-- the keys of a run
abbrev pub ring_of : Setup → Ring
ring_of setup = record { seed = setup.seed; bounds = setup.bounds; clients = setup.clients }

-- a world in which nothing happened yet
abbrev pub opening_world : Setup → WorldState
opening_world setup = record {
  setup = setup;
  replicas = opening_replicas 0 (replicas setup.bounds) (ring_of setup) (kinds_at setup);
  clients = opening_clients 1 setup.clients (ring_of setup);
  entries = [];
}

-- the items with another one under this number
abbrev pub with_numbered : {X : Type 0} → List X → ℕ → X → List X
with_numbered items zero item = items
with_numbered items (suc number) item = slice_set items number item

-- the replica with this number, where it is correct
abbrev pub correct_replica : WorldState → ReplicaId → Option ReplicaState
correct_replica world me =
    if is_faulty world.setup (party.Replica me) then None else slice_get world.replicas me.0

-- the client with this number, where it is correct
abbrev pub correct_client : WorldState → ClientId → Option ClientState
correct_client world me =
    if is_faulty world.setup (party.Client me) then None else numbered world.clients me.0

-- the letter with this number
abbrev pub letter_of : WorldState → ℕ → Option Letter
letter_of world number = numbered (letters_of world.entries) number

-- the history of an object at a replica; a faulty one has none
abbrev pub history_at : WorldState → ReplicaId → ObjectId → Option ObjectHistory
history_at world me object = option_and_then (λ replica. slice_get replica.histories object.0)
    (slice_get world.replicas me.0)
