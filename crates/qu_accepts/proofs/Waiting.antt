-- Each request that waits at a replica came to it before.
use Rattle.std.proofs.Common.{◌≡◌, ◌⊎◌, ℕ, zero, suc, ◌+◌, ◌<◌, ◌≤◌, Bool, true, false, cond, List, [], ◌∷◌, length, replicate, get_or, Option, None, Some, inl, inr, refl, sym, subst, ap, ◌∙◌, arith, add-one}
use Rattle.std.specs.Prelude.{slice_get, slice_set, option_map}
use Rattle.std.proofs.lemmas.Bool.{cases_Bool, cond_both}
use Rattle.std.proofs.lemmas.Option.{none-some, same_Some}
use Rattle.qu_base.specs.declared.party.ObjectId.{ObjectId}
use Rattle.qu_base.specs.declared.party.Party.TheVariants as party
use Rattle.qu_stamp.specs.declared.stamp.Stamp.{Stamp}
use Rattle.qu_frames.specs.declared.frame.Frame.{Frame}
use Rattle.qu_frames.specs.declared.frame.Frame.TheVariants as frame
use Rattle.qu_frames.specs.Signing.{brought}
use Rattle.qu_mends.specs.declared.accepted.Accepted.{Accepted}
use Rattle.qu_rows.specs.declared.decision.Decision.{Decision}
use Rattle.qu_rows.specs.declared.decision.Decision.TheVariants.{Answers, Waits}
use Rattle.qu_rows.specs.Rows.{asked_at, decision_on}
use Rattle.qu_waiting.specs.Waiting.{TakenRequest, Waiting, request_frame_of}
use Rattle.qu_rows.specs.State.{ReplicaState}
use Rattle.qu_fitting.specs.Holding.{accept, accept_all}
use Rattle.qu_waiting.specs.Slots.{lacks, first_waiting, without_request}
use Rattle.qu_replica.specs.Step.{has_kind, is_found, learned, handled, carried_out, if_handled, replica_on_frame, replica_on_received, replica_step}
use Rattle.qu_trace.specs.declared.event.Event.{Event}
use Rattle.qu_trace.specs.declared.trace.Entry.{Entry}
use Rattle.qu_trace.specs.declared.trace.Trace.{Trace}
use Rattle.qu_world.specs.State.{WorldState}
use Rattle.qu_claims.specs.Carried.{Brings, handed}
use Rattle.qu_claims.specs.Times.{world_after}
use Rattle.qu_world.proofs.Each.{set_cases}
use Rattle.qu_base.specs.declared.limits.TheConstants.{LAST_CLIENT}
use Rattle.qu_runs.proofs.Small.{some_entry}
use Rattle.qu_runs.proofs.Worlds.Befores.{WasBefore, was_before}
use Rattle.qu_runs.proofs.Worlds.OpeningReplicas.{opening_at}
use Rattle.qu_runs.proofs.Worlds.WorldGrowth.{world_after-next}
use Rattle.qu_accepts.proofs.Takings.{event_takes}

-- ---- what waits after a step

-- the request waits, for some versions
pub record WaitsFor (slots : List (Option Waiting)) (request : TakenRequest) : Type 0 where
  pub waiting : Waiting
  pub slot : ℕ
  pub is_slot : slice_get slots slot ≡ Some (Some waiting)
  pub same : waiting.request ≡ request

lowest_waits : (object : ObjectId) (stamp : Stamp) (slots : List (Option Waiting)) (waiting : Waiting)
    → first_waiting object stamp slots ≡ Some waiting → WaitsFor slots waiting.request
unfolding first_waiting
lowest_waits object stamp [] waiting found = absurd (none-some waiting found)
lowest_waits object stamp (None ∷ later) waiting found =
    let rest : WaitsFor later waiting.request = lowest_waits object stamp later waiting found in
    record { waiting = rest.waiting; slot = suc rest.slot; is_slot = rest.is_slot; same = rest.same }
lowest_waits object stamp (Some first ∷ later) waiting found =
    elim (cases_Bool (lacks object stamp first)) [
      | inl is ↦
          let here : first ≡ waiting = same_Some first waiting
          (sym (ap (λ (test : Bool). cond test (Some first) (first_waiting object stamp later)) is) ∙ found) in
          record { waiting = first; slot = 0; is_slot = refl; same = ap (λ (it : Waiting). it.request) here }
      | inr not ↦
          let rest : WaitsFor later waiting.request = lowest_waits object stamp later waiting
          (sym (ap (λ (test : Bool). cond test (Some first) (first_waiting object stamp later)) not) ∙ found) in
          record { waiting = rest.waiting; slot = suc rest.slot; is_slot = rest.is_slot; same = rest.same }
    ]

accept_all-waiting : (state : ReplicaState) (accepted : List Accepted)
    → (accept_all state accepted).waiting ≡ state.waiting
unfolding accept_all
accept_all-waiting state [] = refl
accept_all-waiting state (first ∷ later) = accept_all-waiting (accept state first) later

-- a slot that is set holds this, and the others what they did
set_waits : (slots : List (Option Waiting)) (place : ℕ) (slot : Option Waiting) (request : TakenRequest)
    → WaitsFor (slice_set slots place slot) request
    → ((waiting : Waiting) × (slot ≡ Some waiting) × (waiting.request ≡ request)) ⊎ WaitsFor slots request
set_waits slots place slot request waits =
    elim (set_cases slots place waits.slot slot (Some waits.waiting) waits.is_slot) [
      | inl here ↦ inl (waits.waiting, sym here.1, waits.same)
      | inr other ↦ inr (record {
        waiting = waits.waiting;
        slot = waits.slot;
        is_slot = other.1;
        same = waits.same;
      })
    ]

carried_waits : (state : ReplicaState) (request : TakenRequest) (decision : Decision) (other : TakenRequest)
    → WaitsFor ((carried_out state request decision).0).waiting other
    → (request ≡ other) ⊎ WaitsFor state.waiting other
carried_waits state request (Answers verdict accepted) other waits =
    inr (subst (λ (slots : List (Option Waiting)). WaitsFor slots other) (accept_all-waiting state accepted) waits)
carried_waits state request (Waits missing) other waits =
    elim (set_waits state.waiting (request.client).0 (Some (record { request = request; missing = missing })) other
    waits) [
      | inl here ↦ inl (ap (λ (it : Waiting). it.request)
          (same_Some (record { request = request; missing = missing }) here.0 here.1) ∙ here.2)
      | inr before ↦ inr before
    ]

woken_waits : (found : Option Waiting) (slots : List (Option Waiting)) (other : TakenRequest)
    → WaitsFor (without_request found slots) other → WaitsFor slots other
woken_waits None slots other waits = waits
woken_waits (Some waiting) slots other waits =
    elim (set_waits slots ((waiting.request).client).0 None other waits) [
      | inl here ↦ absurd (none-some here.0 here.1)
      | inr before ↦ before
    ]

-- what a replica learns lets no request wait that did not
learned_waits : (state : ReplicaState) (received : Frame) (other : TakenRequest)
    → WaitsFor (learned state received).waiting other → WaitsFor state.waiting other
learned_waits state (frame.Fetched replica object stamp version mac) other =
    cond_both (is_found state replica object stamp version) _ _
    (λ (mid : ReplicaState). WaitsFor mid.waiting other → WaitsFor state.waiting other)
    (λ _ waits. woken_waits (first_waiting object stamp state.waiting) state.waiting other waits)
    (λ _. cond_both (has_kind (slice_get state.kinds object.0) version.value) _ _
    (λ (mid : ReplicaState). WaitsFor mid.waiting other → WaitsFor state.waiting other)
    (λ _ waits. waits) (λ _ waits. waits))
learned_waits state (frame.Request client number round sets body mac) other = λ waits. waits
learned_waits state (frame.Reply replica client number round verdict culled shown mac) other = λ waits. waits
learned_waits state (frame.Fetch replica object stamp mac) other = λ waits. waits

-- the request that a frame makes a replica handle is the frame, or waited
pub handled_waits : (state : ReplicaState) (received : Frame) (request : TakenRequest)
    → handled state received ≡ Some request
    → (request_frame_of request ≡ received) ⊎ WaitsFor state.waiting request
handled_waits state (frame.Request client number round sets body mac) request is =
    inl (ap request_frame_of (sym (same_Some _ request is)))
handled_waits state (frame.Fetched replica object stamp version mac) request is =
    inr (by_found (is_found state replica object stamp version) (first_waiting object stamp state.waiting) refl is)
  where
    by_found : (test : Bool) (found : Option Waiting) → first_waiting object stamp state.waiting ≡ found
        → cond test (option_map (λ (waiting : Waiting). waiting.request) found) None ≡ Some request
        → WaitsFor state.waiting request
    by_found false found lowest is = absurd (none-some request is)
    by_found true None lowest is = absurd (none-some request is)
    by_found true (Some waiting) lowest is =
        subst (WaitsFor state.waiting) (same_Some waiting.request request is)
        (lowest_waits object stamp state.waiting waiting lowest)
handled_waits state (frame.Reply replica client number round verdict culled shown mac) request is =
    absurd (none-some request is)
handled_waits state (frame.Fetch replica object stamp mac) request is = absurd (none-some request is)

if_handled_waits : (mid : ReplicaState) (found : Option TakenRequest) (other : TakenRequest)
    → WaitsFor ((if_handled mid found).0).waiting other → (found ≡ Some other) ⊎ WaitsFor mid.waiting other
if_handled_waits mid None other waits = inr waits
if_handled_waits mid (Some request) other waits =
    elim (carried_waits mid request
    (decision_on mid (asked_at mid request.client request.number request.sets request.body) request.body) other
    waits) [
      | inl same ↦ inl (ap Some same)
      | inr before ↦ inr before
    ]

-- a request that waits after a frame is the frame, or waited before
frame_waits : (state : ReplicaState) (received : Frame) (other : TakenRequest)
    → WaitsFor ((replica_on_frame state received).0).waiting other
    → (request_frame_of other ≡ received) ⊎ WaitsFor state.waiting other
frame_waits state received other waits = by_frame received waits
  where
    by_both : (received : Frame) → WaitsFor ((if_handled (learned state received) (handled state received)).0).waiting
        other → (request_frame_of other ≡ received) ⊎ WaitsFor state.waiting other
    by_both received waits =
        elim (if_handled_waits (learned state received) (handled state received) other waits) [
          | inl handles ↦ handled_waits state received other handles
          | inr mid ↦ inr (learned_waits state received other mid)
        ]

    by_frame : (received : Frame) → WaitsFor ((replica_on_frame state received).0).waiting other
        → (request_frame_of other ≡ received) ⊎ WaitsFor state.waiting other
    by_frame (frame.Request client number round sets body mac) waits =
        by_both (frame.Request client number round sets body mac) waits
    by_frame (frame.Fetched replica object stamp version mac) waits =
        by_both (frame.Fetched replica object stamp version mac) waits
    by_frame (frame.Reply replica client number round verdict culled shown mac) waits = inr waits
    by_frame (frame.Fetch replica object stamp mac) waits = inr waits

-- of a text: it brought the request, or this waited before
step_waits : (state : ReplicaState) (text : List ℕ) (other : TakenRequest)
    → WaitsFor ((replica_step state text).0).waiting other
    → Brings state text (request_frame_of other) ⊎ WaitsFor state.waiting other
step_waits state text other waits = by_brought (brought state.keys (party.Replica state.me) text) refl waits
  where
    by_brought : (found : Option Frame) → brought state.keys (party.Replica state.me) text ≡ found
        → WaitsFor ((replica_on_received state found).0).waiting other
        → Brings state text (request_frame_of other) ⊎ WaitsFor state.waiting other
    by_brought None is waits = inr waits
    by_brought (Some received) is waits =
        elim (frame_waits state received other waits) [
          | inl same ↦ inl (is ∙ ap Some (sym same))
          | inr before ↦ inr before
        ]

-- ---- in a run

-- the request came to the replica at this place before this time
pub record Came (trace : Trace) (time place : ℕ) (request : TakenRequest) : Type 0 where
  pub since : ℕ
  pub before : since < time
  pub entry : Entry
  pub is_entry : slice_get trace.entries since ≡ Some entry
  pub receiver : ReplicaState
  pub is_receiver : slice_get (world_after trace since).replicas place ≡ Some receiver
  pub text : List ℕ
  pub is_handed : handed (world_after trace since) entry.event ≡ Some (party.Replica (record { 0 = place }), text)
  pub brings : Brings receiver text (request_frame_of request)

pub came_later : (trace : Trace) (time later place : ℕ) (request : TakenRequest) → time ≤ later
    → Came trace time place request → Came trace later place request
came_later trace time later place request order it = record {
  since = it.since;
  before = omega (arith, it.before, order);
  entry = it.entry;
  is_entry = it.is_entry;
  receiver = it.receiver;
  is_receiver = it.is_receiver;
  text = it.text;
  is_handed = it.is_handed;
  brings = it.brings;
}

none_of : (count : ℕ) (request : TakenRequest) → WaitsFor (replicate count None) request → ⊥
none_of count request waits = none_at count waits.slot waits.is_slot
  where
    none_at : (count slot : ℕ) → slice_get (replicate count None) slot ≡ Some (Some waits.waiting) → ⊥
    none_at zero slot is = none-some (Some waits.waiting) is
    none_at (suc count) zero is = none-some waits.waiting (same_Some None (Some waits.waiting) is)
    none_at (suc count) (suc slot) is = none_at count slot is

none_waits : (trace : Trace) (place : ℕ) (state : ReplicaState)
    → slice_get (world_after trace 0).replicas place ≡ Some state → (request : TakenRequest)
    → WaitsFor state.waiting request → ⊥
none_waits trace place state is_state request waits =
    none_of (LAST_CLIENT + 1) request
    (subst (λ (it : ReplicaState). WaitsFor it.waiting request) (opening_at trace place state is_state) waits)

-- each request that waits at a replica came to it
pub waiting_came : (trace : Trace) (count : ℕ) → count ≤ length trace.entries → (place : ℕ) (state : ReplicaState)
    → slice_get (world_after trace count).replicas place ≡ Some state → (request : TakenRequest)
    → WaitsFor state.waiting request → Came trace count place request
waiting_came trace zero within place state is_state request waits =
    absurd (none_waits trace place state is_state request waits)
waiting_came trace (suc count) within place state is_state request waits =
    let below : count < length trace.entries = omega arith in
    let default : Entry = some_entry trace.entries (omega (arith, below)) in
    let event : Event = (get_or trace.entries count default).event in
    let is_new : slice_get (world_after trace (count + 1)).replicas place ≡ Some state =
    ap (λ (at : ℕ). slice_get (world_after trace at).replicas place) (add-one count) ∙ is_state in
    let old : WasBefore (world_after trace count).replicas place state =
    was_before (world_after trace count) event place state
    (ap (λ (world : WorldState). slice_get world.replicas place) (sym (world_after-next trace count default below))
    ∙ is_new) in
    let before : WaitsFor (old.old).waiting request → Came trace (suc count) place request =
    λ was. came_later trace count (suc count) place request (omega arith)
    (waiting_came trace count (omega arith) place old.old old.is_old request was) in
    elim (event_takes trace count place old.old state below old.is_old is_new) [
      | inl same ↦ before (subst (λ (it : ReplicaState). WaitsFor it.waiting request) same waits)
      | inr takes ↦
          elim (step_waits old.old takes.text request
          (subst (λ (it : ReplicaState). WaitsFor it.waiting request) takes.steps waits)) [
            | inl brings ↦ record {
              since = count;
              before = omega arith;
              entry = takes.entry;
              is_entry = takes.is_entry;
              receiver = old.old;
              is_receiver = old.is_old;
              text = takes.text;
              is_handed = takes.is_handed;
              brings = brings;
            }
            | inr was ↦ before was
          ]
    ]
