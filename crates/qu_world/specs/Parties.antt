-- What one party makes of its part of an event, and that the others stay as they are.
use Rattle.std.specs.Prelude.{ℕ, ◌≡◌, ◌<◌, ◌-◌, ◌^◌, IfSome, IsSomeAnd, List, [], ◌∷◌, ◌++◌, slice_get, slice_set, Option, None, MatchOption}
use Rattle.qu_base.specs.declared.party.ClientId.{ClientId}
use Rattle.qu_base.specs.declared.party.Party.{Party}
use Rattle.qu_base.specs.declared.party.ReplicaId.{ReplicaId}
use Rattle.qu_rows.specs.State.{ReplicaState}
use Rattle.qu_replica.specs.Step.{replica_step}
use Rattle.qu_client.specs.declared.state.ClientState.{ClientState}
use Rattle.qu_client.specs.State.{Stepped}
use Rattle.qu_trace.specs.declared.event.Event.{Event}
use Rattle.qu_trace.specs.declared.event.Event.TheVariants.{Invoke, Deliver, Tick, Inject}
use Rattle.qu_trace.specs.declared.trace.Entry.{Entry}
use Rattle.qu_trace.specs.declared.trace.Setup.{Setup}
use Rattle.qu_world.specs.declared.parties.Made.{Made}
use Rattle.qu_world.specs.State.{WorldState, world_of, numbered, with_numbered}
use Rattle.qu_world.specs.Step.{ended_by, received, moved, world_step}

-- nobody moved, and nothing was made
pub record MakesNothing {X : Type 0} (old new : List X) (made : Made) : Type 0 where
  pub parties : new ≡ old
  pub letters : made.letters ≡ []
  pub ended : made.ended ≡ None

-- a replica took a text
pub record TakesText (old new : List ReplicaState) (me : ReplicaId) (text : List ℕ) (made : Made)
    (state : ReplicaState) : Type 0 where
  pub parties : new ≡ slice_set old me.0 (replica_step state text).0
  pub letters : made.letters ≡ (replica_step state text).1
  pub ended : made.ended ≡ None

abbrev pub ReplicaMoves : List ReplicaState → List ReplicaState → ReplicaId → List ℕ → Made → Type 0
ReplicaMoves old new me text made =
    MatchOption (slice_get old me.0) (MakesNothing old new made) (TakesText old new me text made)

-- a client moved so
pub record Moves (old new : List ClientState) (me : ClientId) (move : ClientState → Stepped) (made : Made)
    (state : ClientState) : Type 0 where
  pub parties : new ≡ with_numbered old me.0 (move state).state
  pub letters : made.letters ≡ (move state).letters
  pub ended : made.ended ≡ ended_by me state.work (move state).ended

abbrev pub ClientMoves : List ClientState → List ClientState → ClientId → (ClientState → Stepped) → Made → Type 0
ClientMoves old new me move made = MatchOption (numbered old me.0) (MakesNothing old new made)
    (Moves old new me move made)

-- a client that is there, has no operation under way, and has a number left for the next one
pub record CanBegin (state : ClientState) : Type 0 where
  pub idle : state.work ≡ None
  pub number_left : IfSome state.last_request (λ last. last.0 < 2 ^ 64 - 1)

abbrev pub IsIdle : Option ClientState → Type 0
IsIdle state = IsSomeAnd state CanBegin

-- a client that begins an operation can begin it
abbrev pub MayBegin : List ClientState → Event → Type 0
MayBegin clients (Invoke client op) = IsIdle (numbered clients client.0)
MayBegin clients (Deliver letter) = Unit {0}
MayBegin clients (Tick client) = Unit {0}
MayBegin clients (Inject party text) = Unit {0}

-- the world with the record of what an event made of these parties
abbrev pub made_world : Setup → List ReplicaState → List ClientState → List Entry → Event → Made → WorldState
made_world setup replicas clients entries event made =
    world_of setup replicas clients
    (entries ++ (record { event = event; letters = made.letters; ended = made.ended }) ∷ [])

-- a text that reached a party made this of the parties
abbrev pub Receives : List ReplicaState → List ReplicaState → List ClientState → List ClientState → Party → List ℕ
    → Made → Type 0
Receives replicas moved clients stepped to text made =
    (setup : Setup) (entries : List Entry) (event : Event) → made_world setup moved stepped entries event
    made ≡ received (world_of setup replicas clients entries) event to text

-- the step of the party at which an event happens made this of the parties
abbrev pub Steps : List ReplicaState → List ReplicaState → List ClientState → List ClientState → List Entry
    → Event → Made → Type 0
Steps replicas others clients stepped entries event made =
    (setup : Setup) → made_world setup others stepped entries event made ≡ moved
    (world_of setup replicas clients entries) event

-- an event made this of the parties
abbrev pub Makes : Setup → List ReplicaState → List ReplicaState → List ClientState → List ClientState → List Entry
    → Event → Made → Type 0
Makes setup replicas others clients stepped entries event made =
    made_world setup others stepped entries event made ≡ world_step (world_of setup replicas clients entries) event

-- an event made this of the parties and of the record
abbrev pub MakesEntry : Setup → List ReplicaState → List ReplicaState → List ClientState → List ClientState
    → List Entry → List Entry → Event → Type 0
MakesEntry setup replicas moved clients stepped before after event =
    world_of setup moved stepped after ≡ world_step (world_of setup replicas clients before) event
