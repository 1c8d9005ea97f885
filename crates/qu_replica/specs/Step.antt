-- The replica's step: a function from its state and a text to a state and letters.
use Rattle.std.specs.Prelude.{ℕ, zero, suc, ◌+◌, ◌==◌, Bool, true, false, ◌&&◌, if◌then◌else◌, List, [], ◌∷◌, map, slice_get, Option, None, Some, option_map}
use Rattle.std.specs.List.{filter_map, flat_map}
use Rattle.qu_base.specs.Bounds.{replicas}
use Rattle.qu_base.specs.declared.party.Party.TheVariants as party
use Rattle.qu_base.specs.declared.party.ClientId.{ClientId}
use Rattle.qu_base.specs.declared.party.ObjectId.{ObjectId}
use Rattle.qu_base.specs.declared.party.ReplicaId.{ReplicaId}
use Rattle.qu_seal.specs.Keys.{Ring}
use Rattle.qu_stamp.specs.declared.stamp.Stamp.{Stamp}
use Rattle.qu_history.specs.declared.sets.SetOf.{SetOf}
use Rattle.qu_history.specs.History.{ObjectHistory}
use Rattle.qu_history.specs.Sealing.{sealed_by}
use Rattle.qu_objects.specs.declared.state.ObjState.{ObjState}
use Rattle.qu_objects.specs.declared.kind.KindName.{KindName}
use Rattle.qu_objects.specs.declared.kind.KindName.TheVariants as kind
use Rattle.qu_objects.specs.declared.kind.Value.{Value}
use Rattle.qu_objects.specs.declared.kind.Value.TheVariants.{Counter, Blob, Dir}
use Rattle.qu_objects.specs.States.{state_form}
use Rattle.qu_waiting.specs.Fetching.{completes}
use Rattle.qu_versions.specs.Versions.{version_at, with_version}
use Rattle.qu_frames.specs.declared.frame.Frame.{Frame}
use Rattle.qu_frames.specs.declared.frame.Frame.TheVariants as frame
use Rattle.qu_frames.specs.declared.frame.Letter.{Letter}
use Rattle.qu_verdicts.specs.declared.verdict.Verdict.{Verdict}
use Rattle.qu_frames.specs.Blank.{blank_mac}
use Rattle.qu_frames.specs.Signing.{signed, brought}
use Rattle.qu_rows.specs.declared.decision.Decision.{Decision}
use Rattle.qu_rows.specs.declared.decision.Decision.TheVariants.{Answers, Waits}
use Rattle.qu_waiting.specs.Waiting.{TakenRequest, Running}
use Rattle.qu_rows.specs.State.{ReplicaState}
use Rattle.qu_fitting.specs.Holding.{accept_all}
use Rattle.qu_waiting.specs.declared.counting.Counting.{Counting}
use Rattle.qu_waiting.specs.Slots.{with_slot, with_fetches, with_votes, without_fetch, counting_of, fetch_under, first_waiting, without_request}
use Rattle.qu_rows.specs.Rows.{asked_at, decision_on}
use Rattle.qu_rows.specs.Named.{named}

-- the histories of those objects of the sets that the replica has, as they stand
unfoldable pub shown : ReplicaState → List SetOf → List ObjectHistory
shown state sets = filter_map (λ set. slice_get state.histories (set.object).0) sets

-- the frame that answers a request with these sets, before its HMAC is made
abbrev pub answer_frame : ReplicaState → ClientId → ℕ → ℕ → List SetOf → Verdict → Frame
answer_frame state client number round sets verdict =
    frame.Reply state.me client number round verdict (named state sets) (map (sealed_by state.keys) (shown state sets))
    blank_mac

-- the letter that carries it, signed for the client
abbrev pub reply : ReplicaState → ClientId → ℕ → ℕ → List SetOf → Verdict → Letter
reply state client number round sets verdict = record {
  from = party.Replica state.me;
  to = party.Client client;
  text = signed state.keys (party.Client client) (answer_frame state client number round sets verdict);
}

-- ---- a request that waits

-- the letter with which a replica asks another for the version under this key
abbrev pub fetch_letter : Ring → ReplicaId → ObjectId × Stamp → ℕ → Letter
fetch_letter keys me key replica = record {
  from = party.Replica me;
  to = party.Replica (record { 0 = replica });
  text = signed keys (party.Replica (record { 0 = replica })) (frame.Fetch me key.0 key.1 blank_mac);
}

-- of so many replicas from this number on each but itself is asked
unfoldable pub fetches_from : Ring → ReplicaId → ObjectId × Stamp → ℕ → ℕ → List Letter
fetches_from keys me key replica zero = []
fetches_from keys me key replica (suc count) =
    if replica == me.0 then fetches_from keys me key (replica + 1) count
    else fetch_letter keys me key replica ∷ fetches_from keys me key (replica + 1) count

-- each other replica is asked for each version
unfoldable pub fetches_of : Ring → ReplicaId → List (ObjectId × Stamp) → List Letter
fetches_of keys me missing = flat_map (λ key. fetches_from keys me key 0 (replicas keys.bounds)) missing

-- as many identical answers as have one of a correct replica among them
abbrev pub answers_needed : ReplicaState → ℕ
answers_needed state = state.keys.bounds + 1

-- the request takes the place of the one of its client that waited, and what it lacks is fetched
abbrev pub with_waiting : ReplicaState → TakenRequest → List (ObjectId × Stamp) → ReplicaState
with_waiting state request missing = record state {
  waiting = with_slot request.client (Some (record { request = request; missing = missing })) state.waiting;
  fetching = with_fetches (answers_needed state) missing state.fetching;
}

abbrev pub carried_out : ReplicaState → TakenRequest → Decision → ReplicaState × List Letter
carried_out state request (Answers verdict accepted) =
    let new = accept_all state accepted in
    (new, reply new request.client request.number request.round request.sets verdict ∷ [])
carried_out state request (Waits missing) = (with_waiting state request missing, fetches_of state.keys state.me missing)

-- a request is decided upon by the rows, from the first
abbrev pub decided : ReplicaState → TakenRequest → ReplicaState × List Letter
decided state request =
    carried_out state request
    (decision_on state (asked_at state request.client request.number request.sets request.body) request.body)

-- the letter with a version that another replica fetches, signed for it
abbrev pub version_letter : ReplicaState → ReplicaId → ObjectId → Stamp → ObjState → Letter
version_letter state to object stamp version = record {
  from = party.Replica state.me;
  to = party.Replica to;
  text = signed state.keys (party.Replica to) (frame.Fetched state.me object stamp version blank_mac);
}

-- a fetch is answered where the version is held
abbrev pub version_letters : ReplicaState → ReplicaId → ObjectId → Stamp → Option ObjState → List Letter
version_letters state to object stamp None = []
version_letters state to object stamp (Some version) = version_letter state to object stamp version ∷ []

-- the letters that answer a frame that is no request
abbrev pub other_letters : ReplicaState → Option Frame → List Letter
other_letters state (Some (frame.Fetch replica object stamp mac)) =
    version_letters state replica object stamp (version_at object stamp state.versions)
other_letters state _ = []

-- ---- a version that was fetched

abbrev pub is_value_of : KindName → Value → Bool
is_value_of kind.Counter (Counter number) = true
is_value_of kind.Blob (Blob content) = true
is_value_of kind.Dir (Dir entries) = true
is_value_of kind value = false

-- a value of the kind that the object has
abbrev pub has_kind : Option KindName → Value → Bool
has_kind None value = false
has_kind (Some kind) value = is_value_of kind value

-- the answer completes the fetch, if it runs
abbrev pub completes_fetch : Option Running → ReplicaId → List ℕ → Bool
completes_fetch None replica text = false
completes_fetch (Some running) replica text = completes running.answers replica text

abbrev pub is_found : ReplicaState → ReplicaId → ObjectId → Stamp → ObjState → Bool
is_found state replica object stamp version =
    has_kind (slice_get state.kinds object.0) version.value
    && completes_fetch (fetch_under object stamp state.fetching) replica (state_form.spell version)

-- whether a version that a replica sends counts as its answer
abbrev pub counting : ReplicaState → ReplicaId → ObjectId → Stamp → ObjState → Counting
counting state replica object stamp version =
    counting_of (fetch_under object stamp state.fetching) (has_kind (slice_get state.kinds object.0) version.value)
    replica (state_form.spell version)

-- a version that is found is stored, where none is held; its fetch ends, and the request that it wakes waits no longer
abbrev pub with_found : ReplicaState → ObjectId → Stamp → ObjState → ReplicaState
with_found state object stamp version = record state {
  versions = with_version object stamp version state.versions;
  waiting = without_request (first_waiting object stamp state.waiting) state.waiting;
  fetching = without_fetch object stamp state.fetching;
}

-- the answer of a replica is kept; a state of another kind is none
abbrev pub with_told : ReplicaState → ReplicaId → ObjectId → Stamp → ObjState → ReplicaState
with_told state replica object stamp version =
    if has_kind (slice_get state.kinds object.0) version.value
    then record state {
      fetching = with_votes object stamp replica (state_form.spell version) state.fetching;
    } else state

-- ---- a frame

-- the state with what the frame tells, before a request is handled
abbrev pub learned : ReplicaState → Frame → ReplicaState
learned state (frame.Fetched replica object stamp version mac) =
    if is_found state replica object stamp version then with_found state object stamp version
    else with_told state replica object stamp version
learned state _ = state

-- the request that a frame makes the replica handle: the one that it brings, or that of the lowest client that waited
-- for the version which it completes
abbrev pub handled : ReplicaState → Frame → Option TakenRequest
handled state (frame.Request client number round sets body mac) = Some (record {
  client = client;
  number = number;
  round = round;
  sets = sets;
  body = body;
  mac = mac;
})
handled state (frame.Fetched replica object stamp version mac) =
    if is_found state replica object stamp version
    then option_map (λ waiting. waiting.request) (first_waiting object stamp state.waiting) else None
handled state _ = None

abbrev pub if_handled : ReplicaState → Option TakenRequest → ReplicaState × List Letter
if_handled state None = (state, [])
if_handled state (Some request) = decided state request

-- a request is decided upon, a fetch is answered, a version is counted, and other frames are ignored
abbrev pub replica_on_frame : ReplicaState → Frame → ReplicaState × List Letter
replica_on_frame state (frame.Request client number round sets body mac) =
    if_handled state (handled state (frame.Request client number round sets body mac))
replica_on_frame state (frame.Fetched replica object stamp version mac) =
    if_handled (learned state (frame.Fetched replica object stamp version mac))
    (handled state (frame.Fetched replica object stamp version mac))
replica_on_frame state other = (state, other_letters state (Some other))

abbrev pub replica_on_received : ReplicaState → Option Frame → ReplicaState × List Letter
replica_on_received state None = (state, [])
replica_on_received state (Some frame) = replica_on_frame state frame

-- a text that is not decoded, or whose HMAC is wrong, is ignored
abbrev pub replica_step : ReplicaState → List ℕ → ReplicaState × List Letter
replica_step state text = replica_on_received state (brought state.keys (party.Replica state.me) text)
