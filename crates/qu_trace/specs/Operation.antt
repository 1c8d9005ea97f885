-- The operations that a trace shows: of each correct client number, operation, the event of the invocation,
-- and event and outcome of the end.
use Rattle.std.specs.Prelude.{ℕ, Bool, false, ◌+◌, ◌==◌, ◌&&◌, if◌then◌else◌, List, [], ◌∷◌, ◌++◌, count_by, Option, None, Some}
use Rattle.qu_base.specs.declared.party.ClientId.{ClientId}
use Rattle.qu_base.specs.declared.party.Party.TheVariants as party
use Rattle.qu_objects.specs.declared.op.Op.{Op}
use Rattle.qu_objects.specs.declared.op.Outcome.{Outcome}
use Rattle.qu_machine.specs.declared.record.OpRecord.{OpRecord}
use Rattle.qu_trace.specs.declared.event.Event.{Event}
use Rattle.qu_trace.specs.declared.event.Event.TheVariants.{Invoke, Deliver, Tick, Inject}
use Rattle.qu_trace.specs.declared.trace.Entry.{Entry}
use Rattle.qu_trace.specs.declared.trace.Setup.{Setup}
use Rattle.qu_trace.specs.declared.trace.Trace.{Trace}
use Rattle.qu_trace.specs.Faulty.{is_faulty}

abbrev pub invokes : ClientId → Event → Bool
invokes client (Invoke other op) = client.0 == other.0
invokes client (Deliver letter) = false
invokes client (Tick other) = false
invokes client (Inject party text) = false

-- how often a client was invoked
unfoldable pub begun_by : ClientId → List Entry → ℕ
begun_by client entries = count_by (λ entry. invokes client entry.event) entries

-- how this operation ended at an event, if it did
abbrev pub outcome_in : ClientId → ℕ → Option (ClientId × ℕ × Outcome) → Option Outcome
outcome_in client number None = None
outcome_in client number (Some ended) = if (ended.0).0 == client.0 && ended.1 == number then Some ended.2 else None

-- this end at this event, or a later one
abbrev pub first_end : Option Outcome → ℕ → Option (ℕ × Outcome) → Option (ℕ × Outcome)
first_end None at later = later
first_end (Some outcome) at later = Some (at, outcome)

-- the first event from this number on at which the operation ended, and how
unfoldable pub end_from : ClientId → ℕ → ℕ → List Entry → Option (ℕ × Outcome)
end_from client number at [] = None
end_from client number at (entry ∷ later) =
    first_end (outcome_in client number entry.ended) at (end_from client number (at + 1) later)

-- an operation is numbered by its client's earlier ones
abbrev pub record_of : ClientId → Op → ℕ → List Entry → List Entry → OpRecord
record_of client op at earlier later =
    let number = begun_by client earlier + 1 in
    record { client = client; number = number; op = op; invoked = at; reply = end_from client number at later }

-- the operation that begins at an event, if a correct client begins one
abbrev pub begins_at : Setup → Event → ℕ → List Entry → List Entry → List OpRecord
begins_at setup (Invoke client op) at earlier later =
    if is_faulty setup (party.Client client) then [] else record_of client op at earlier later ∷ []
begins_at setup (Deliver letter) at earlier later = []
begins_at setup (Tick client) at earlier later = []
begins_at setup (Inject who text) at earlier later = []

-- the operations that begin at the later events, the first of which has this number
unfoldable pub operations_from : Setup → List Entry → ℕ → List Entry → List OpRecord
operations_from setup earlier at [] = []
operations_from setup earlier at (entry ∷ later) =
    begins_at setup entry.event at earlier (entry ∷ later)
    ++ operations_from setup (earlier ++ entry ∷ []) (at + 1) later

-- the operations of a trace, in the order of their invocations
abbrev pub operations_of : Trace → List OpRecord
operations_of trace = operations_from trace.setup [] 1 trace.entries
