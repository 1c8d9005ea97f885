-- What is promised of a run on threads.
use Rattle.std.specs.Prelude.{ℕ, List, [], ◌∷◌, length, false, ◌≡◌, ◌≤◌, ◌+◌, ◌==◌, if◌then◌else◌, map, filter, Option, None, Some, IsSome, IfSome}
use Rattle.std.specs.List.{AllByRecursion}
use Rattle.qu_base.specs.declared.party.ClientId.{ClientId}
use Rattle.qu_base.specs.declared.party.Party.TheVariants as party
use Rattle.qu_objects.specs.declared.op.Op.{Op}
use Rattle.qu_objects.specs.declared.op.Outcome.{Outcome}
use Rattle.qu_machine.specs.declared.record.OpRecord.{OpRecord}
use Rattle.qu_client.specs.declared.state.ClientState.{ClientState}
use Rattle.qu_trace.specs.declared.trace.Entry.{Entry}
use Rattle.qu_trace.specs.declared.trace.Setup.{Setup}
use Rattle.qu_trace.specs.declared.trace.Trace.{Trace}
use Rattle.qu_trace.specs.Faulty.{is_faulty}
use Rattle.qu_trace.specs.Operation.{operations_of}
use Rattle.qu_world.specs.State.{correct_client}
use Rattle.qu_world.specs.Run.{IsRun, run, events_of}
use Rattle.qu_replay.specs.Operations.{invoked_by, IsNotInjected}
use Rattle.qu_lock.specs.Calls.{calls_by}
use Rattle.qu_gather.specs.Ticks.{TicksAnswered}

-- a client of the setup that is not faulty
pub record IsCorrectClient (setup : Setup) (me : ClientId) : Type 0 where
  pub first : 1 ≤ me.0
  pub last : me.0 ≤ setup.clients
  pub correct : is_faulty setup (party.Client me) ≡ false

-- each call is of a correct client
abbrev pub AreCallsOf : Setup → List (ClientId × Op) → Type 0
AreCallsOf setup calls = AllByRecursion (λ (call : ClientId × Op). IsCorrectClient setup call.0) calls

-- how many operations of a client an entry ends
abbrev pub ends_at : ClientId → Option (ClientId × ℕ × Outcome) → ℕ
ends_at me None = 0
ends_at me (Some end) = if (end.0).0 == me.0 then 1 else 0

-- how many operations of a client these entries end
unfoldable pub ends_among : ClientId → List Entry → ℕ
ends_among me [] = 0
ends_among me (entry ∷ entries) = ends_at me entry.ended + ends_among me entries

-- what a client began, of these operations of a run
unfoldable pub operations_by : ClientId → List OpRecord → List Op
operations_by me operations =
    map (λ (operation : OpRecord). operation.op)
    (filter (λ (operation : OpRecord). (operation.client).0 == me.0) operations)

-- an operation has its end: an answer, or that it was given up
abbrev pub HasEnd : OpRecord → Type 0
HasEnd operation = IsSome operation.reply

-- a trace is that of a run of this setup in which clients were called for these operations
pub record IsLive (setup : Setup) (calls : List (ClientId × Op)) (trace : Trace) : Type 0 where
  pub is_run : IsRun trace
  pub setup_is : trace.setup ≡ setup
  -- it has invocations, deliveries and ticks alone
  pub no_injection : AllByRecursion (λ (entry : Entry). IsNotInjected entry.event) trace.entries
  -- each client began the operations that it was called for, in their order
  pub invoked : (me : ClientId) → invoked_by me trace.entries ≡ calls_by me calls
  -- and as many of them ended
  pub ended : (me : ClientId) → ends_among me trace.entries ≡ length (calls_by me calls)
  -- the record of operations has those that each client was called for, in their order, and each has its end
  pub recorded : (me : ClientId) → operations_by me (operations_of trace) ≡ calls_by me calls
  pub answered : AllByRecursion HasEnd (operations_of trace)
  -- a client ticks only once its letters to correct parties were delivered, and what was sent to it upon them
  pub ticks : TicksAnswered trace.setup trace.entries
  -- in the end no operation of a correct client is under way
  pub idle : (me : ClientId)
      → IfSome (correct_client (run trace.setup (events_of trace.entries)) me)
      (λ (state : ClientState). state.work ≡ None)
