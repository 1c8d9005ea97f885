-- What an event makes of a world: one step of one party, which is recorded.
use Rattle.std.specs.Prelude.{ℕ, Bool, false, if◌then◌else◌, List, [], ◌∷◌, ◌++◌, slice_get, slice_set, Option, None, Some, option_map}
use Rattle.qu_base.specs.declared.party.ClientId.{ClientId}
use Rattle.qu_base.specs.declared.party.ReplicaId.{ReplicaId}
use Rattle.qu_base.specs.declared.party.Party.{Party}
use Rattle.qu_base.specs.declared.party.Party.TheVariants as party
use Rattle.qu_objects.specs.declared.op.Outcome.{Outcome}
use Rattle.qu_frames.specs.declared.frame.Letter.{Letter}
use Rattle.qu_rows.specs.State.{ReplicaState}
use Rattle.qu_replica.specs.Step.{replica_step}
use Rattle.qu_client.specs.declared.work.Work.{Work}
use Rattle.qu_client.specs.declared.state.ClientState.{ClientState}
use Rattle.qu_client.specs.State.{Stepped}
use Rattle.qu_client.specs.Steps.{client_invoke, client_step, client_tick}
use Rattle.qu_trace.specs.declared.trace.Setup.{Setup}
use Rattle.qu_trace.specs.declared.trace.Entry.{Entry}
use Rattle.qu_trace.specs.Letters.{letters_of}
use Rattle.qu_trace.specs.Faulty.{is_faulty}
use Rattle.qu_trace.specs.declared.event.Event.{Event}
use Rattle.qu_trace.specs.declared.event.Event.TheVariants.{Invoke, Deliver, Tick, Inject}
use Rattle.qu_world.specs.State.{WorldState, numbered, with_numbered, letter_of}

-- the record of an event that made this
abbrev pub recorded : WorldState → Event → List Letter → Option (ClientId × ℕ × Outcome) → WorldState
recorded world event letters ended =
    record world { entries = world.entries ++ (record { event = event; letters = letters; ended = ended }) ∷ [] }

-- an event that nobody takes makes nothing
abbrev pub unchanged : WorldState → Event → WorldState
unchanged world event = recorded world event [] None

-- the end of the operation with this number
abbrev pub ended_as : ClientId → Option ℕ → Option Outcome → Option (ClientId × ℕ × Outcome)
ended_as client None ended = None
ended_as client (Some number) ended = option_map (λ (outcome : Outcome). (client, number, outcome)) ended

-- the operation that ended, which was under way before
abbrev pub ended_by : ClientId → Option Work → Option Outcome → Option (ClientId × ℕ × Outcome)
ended_by client work ended = ended_as client (option_map (λ (under_way : Work). under_way.number) work) ended

-- a replica takes a text
abbrev pub at_replica : WorldState → Event → ReplicaId → List ℕ → Option ReplicaState → WorldState
at_replica world event me text None = unchanged world event
at_replica world event me text (Some state) =
    let moved = replica_step state text in
    recorded (record world { replicas = slice_set world.replicas me.0 moved.0 }) event moved.1 None

-- a client moves
abbrev pub at_client : WorldState → Event → ClientId → (ClientState → Stepped) → Option ClientState → WorldState
at_client world event me move None = unchanged world event
at_client world event me move (Some state) =
    let stepped = move state in
    recorded (record world { clients = with_numbered world.clients me.0 stepped.state }) event stepped.letters
    (ended_by me state.work stepped.ended)

-- a text reaches a party
abbrev pub received : WorldState → Event → Party → List ℕ → WorldState
received world event (party.Replica me) text = at_replica world event me text (slice_get world.replicas me.0)
received world event (party.Client me) text =
    at_client world event me (λ state. client_step state text) (numbered world.clients me.0)

-- a letter's text reaches its receiver
abbrev pub delivered : WorldState → Event → Option Letter → WorldState
delivered world event None = unchanged world event
delivered world event (Some letter) = received world event letter.to letter.text

-- the step of the party at which the event happens
abbrev pub moved : WorldState → Event → WorldState
moved world (Invoke client op) =
    at_client world (Invoke client op) client (λ state. client_invoke state op) (numbered world.clients client.0)
moved world (Deliver number) = delivered world (Deliver number) (letter_of world number)
moved world (Tick client) = at_client world (Tick client) client client_tick (numbered world.clients client.0)
moved world (Inject party text) = received world (Inject party text) party text

abbrev pub is_to_faulty : Setup → Option Letter → Bool
is_to_faulty setup None = false
is_to_faulty setup (Some letter) = is_faulty setup letter.to

-- whether the event happens at a faulty party
abbrev pub at_faulty : Setup → List Entry → Event → Bool
at_faulty setup entries (Invoke client op) = is_faulty setup (party.Client client)
at_faulty setup entries (Deliver number) = is_to_faulty setup (numbered (letters_of entries) number)
at_faulty setup entries (Tick client) = is_faulty setup (party.Client client)
at_faulty setup entries (Inject who text) = is_faulty setup who

-- a faulty party has no step, and an event at it changes nothing
abbrev pub world_step : WorldState → Event → WorldState
world_step world event = if at_faulty world.setup world.entries event then unchanged world event else moved world event
