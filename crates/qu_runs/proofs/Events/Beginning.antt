-- The operation that a client begins at an event is one of the trace, and the client was free to begin it.
use Rattle.qu_world.proofs.Steps.{is_invoked, barred_as_refused}
use Rattle.qu_world.proofs.RunLaws.{idle_by}
use Rattle.std.proofs.Common.{◌≡◌, ℕ, zero, suc, ◌+◌, ◌<◌, Bool, false, cond, List, [], ◌∷◌, ◌++◌, length, take, drop, get_or, Option, None, Some, refl, sym, ap, subst, ◌∙◌, append_assoc, arith}
use Rattle.std.specs.Prelude.{Contains}
use Rattle.std.proofs.lemmas.Bool.{eq-eqb}
use Rattle.std.proofs.lemmas.List.{take_more, append-nil}
use Rattle.std.proofs.lemmas.List.Sums.{sum_by_push}
use Rattle.qu_base.specs.declared.party.ClientId.{ClientId}
use Rattle.qu_base.specs.declared.party.Party.{Party}
use Rattle.qu_base.specs.declared.party.Party.TheVariants as party
use Rattle.qu_objects.specs.declared.op.Op.{Op}
use Rattle.qu_machine.specs.declared.record.OpRecord.{OpRecord}
use Rattle.qu_client.specs.declared.state.ClientState.{ClientState}
use Rattle.qu_trace.specs.declared.event.Event.{Event}
use Rattle.qu_trace.specs.declared.event.Event.TheVariants.{Invoke}
use Rattle.qu_trace.specs.declared.trace.Entry.{Entry}
use Rattle.qu_trace.specs.declared.trace.Setup.{Setup}
use Rattle.qu_trace.specs.declared.trace.Trace.{Trace}
use Rattle.qu_trace.specs.Faulty.{is_faulty}
use Rattle.qu_trace.specs.Operation.{invokes, begun_by, record_of, begins_at, operations_from, operations_of}
use Rattle.qu_world.specs.State.{WorldState, numbered}
use Rattle.qu_world.specs.Step.{world_step}
use Rattle.qu_world.specs.Refusals.{refused_invocation}
use Rattle.qu_world.specs.Run.{bar_of, run_from, MayHappen, events_of, IsRun}
use Rattle.qu_claims.specs.Times.{world_after}

-- ---- operations of the trace

contains_later : (front operations : List OpRecord) (operation : OpRecord) → Contains operations operation
    → Contains (front ++ operations) operation
contains_later [] operations operation held = held
contains_later (first ∷ front) operations operation held =
    let later : Contains (front ++ operations) operation = contains_later front operations operation held in
    let below : later.0 < length (front ++ operations) = later.1 in
    (suc later.0, omega arith, later.2)

begins_here : (setup : Setup) (event : Event) (client : ClientId) (op : Op) (at : ℕ) (earlier later : List Entry)
    (operations : List OpRecord) → event ≡ Invoke client op → is_faulty setup (party.Client client) ≡ false
    → Contains (begins_at setup event at earlier later ++ operations) (record_of client op at earlier later)
begins_here setup event client op at earlier later operations is correct =
    subst (λ (it : Event). Contains (begins_at setup it at earlier later ++ operations)
    (record_of client op at earlier later)) (sym is)
    (subst (λ (faulty : Bool). Contains (cond faulty [] (record_of client op at earlier later ∷ []) ++ operations)
    (record_of client op at earlier later)) (sym correct)
    (zero, omega arith, refl))

operation_from : (setup : Setup) (earlier : List Entry) (at : ℕ) (later : List Entry) (index : ℕ) (default : Entry)
    (client : ClientId) (op : Op) (event : ℕ) (before : List Entry) → is_faulty setup (party.Client client) ≡ false
    → index < length later → (get_or later index default).event ≡ Invoke client op → event ≡ at + index
    → before ≡ earlier ++ take index later
    → Contains (operations_from setup earlier at later) (record_of client op event before (drop index later))
unfolding operations_from
operation_from setup earlier at [] index default client op event before correct below is event_is before_is = absurd
    (omega arith)
operation_from setup earlier at (entry ∷ later) zero default client op event before correct below is event_is
    before_is =
    let same_event : event ≡ at = omega arith in
    let same_before : before ≡ earlier = before_is ∙ append-nil earlier in
    rw (same_event, same_before)
    (begins_here setup entry.event client op at earlier (entry ∷ later)
    (operations_from setup (earlier ++ entry ∷ []) (at + 1) later) is correct)
operation_from setup earlier at (entry ∷ later) (suc index) default client op event before correct below is event_is
    before_is =
    contains_later (begins_at setup entry.event at earlier (entry ∷ later))
    (operations_from setup (earlier ++ entry ∷ []) (at + 1) later) _
    (operation_from setup (earlier ++ entry ∷ []) (at + 1) later index default client op event before correct
    (omega arith) is (omega arith)
    (before_is ∙ sym (append_assoc earlier (entry ∷ []) (take index later))))

-- an invocation of a correct client begins an operation of the trace
pub operation_begun : (trace : Trace) (index : ℕ) (default : Entry) (client : ClientId) (op : Op)
    → is_faulty trace.setup (party.Client client) ≡ false
    → index < length trace.entries → (get_or trace.entries index default).event ≡ Invoke client op
    → Contains (operations_of trace)
    (record_of client op (index + 1) (take index trace.entries) (drop index trace.entries))
operation_begun trace index default client op correct below is =
    operation_from trace.setup [] 1 trace.entries index default client op (index + 1) (take index trace.entries) correct
    below is (omega arith) refl

-- ---- how many a client began

begins : ClientId → Event → ℕ
begins client event = cond (invokes client event) 1 0

begun_next : (entries : List Entry) (index : ℕ) (default : Entry) (client : ClientId) → index < length entries
    → begun_by client (take (index + 1) entries) ≡ begun_by client (take index entries) + begins client
    (get_or entries index default).event
unfolding begun_by begins
begun_next entries index default client below =
    ap (begun_by client) (take_more entries index default below) ∙
    sum_by_push (λ (it : Entry). cond (invokes client it.event) 1 0) (take index entries) (get_or entries index default)

-- the client that is invoked began one more
pub begun_one : (entries : List Entry) (index : ℕ) (default : Entry) (client : ClientId) (op : Op)
    → index < length entries → (get_or entries index default).event ≡ Invoke client op
    → begun_by client (take (index + 1) entries) ≡ begun_by client (take index entries) + 1
unfolding begins
begun_one entries index default client op below is =
    begun_next entries index default client below ∙
    ap (λ (event : Event). begun_by client (take index entries) + begins client event) is ∙
    ap (λ (test : Bool). begun_by client (take index entries) + cond test 1 0) (eq-eqb client.0 client.0 refl)

-- a client that no event invokes began as many as before
pub begun_same : (entries : List Entry) (index : ℕ) (default : Entry) (client : ClientId)
    → index < length entries → invokes client (get_or entries index default).event ≡ false
    → begun_by client (take (index + 1) entries) ≡ begun_by client (take index entries)
unfolding begins
begun_same entries index default client below other =
    let more : begun_by client (take (index + 1) entries) ≡ begun_by client (take index entries) + begins client
    (get_or entries index default).event =
    begun_next entries index default client below in
    let none : begins client (get_or entries index default).event ≡ 0 = ap (λ (test : Bool). cond test 1 0) other in
    omega arith

-- ---- what may happen

happens_from : (world : WorldState) (entries : List Entry) (count : ℕ) (default : Entry) → count < length entries
    → MayHappen world (events_of entries)
    → bar_of (run_from world (events_of (take count entries))) (get_or entries count default).event ≡ None
unfolding run_from MayHappen
happens_from world [] count default below may = absurd (omega arith)
happens_from world (entry ∷ later) zero default below may = may.0
happens_from world (entry ∷ later) (suc count) default below may =
    happens_from (world_step world entry.event) later count default (omega arith) may.1

-- each event of a run may happen in the world before it
pub happens : (trace : Trace) → IsRun trace → (count : ℕ) (default : Entry) → count < length trace.entries
    → bar_of (world_after trace count) (get_or trace.entries count default).event ≡ None
happens trace is count default below = happens_from _ trace.entries count default below is.happened

-- a client of these that has no work
pub record IsFree (clients : List ClientState) (client : ClientId) : Type 0 where
  pub state : ClientState
  pub found : numbered clients client.0 ≡ Some state
  pub free : state.work ≡ None

free_by : (clients : List ClientState) (client : ClientId) (who : Party) (found : Option ClientState)
    → numbered clients client.0 ≡ found → refused_invocation who found ≡ None → IsFree clients client
free_by clients client who None is may = absurd cc
free_by clients client who (Some state) is may =
    record { state = state; found = is; free = idle_by state.work may }

-- an invocation at a correct client that may happen is that of a client without work
pub may_invoke : (world : WorldState) (client : ClientId) (op : Op) → bar_of world (Invoke client op) ≡ None
    → is_faulty world.setup (party.Client client) ≡ false → IsFree world.clients client
may_invoke world client op may correct =
    free_by world.clients client _ (numbered world.clients client.0) refl
    (is_invoked world client op (sym (barred_as_refused world (Invoke client op) correct) ∙ may)).free
