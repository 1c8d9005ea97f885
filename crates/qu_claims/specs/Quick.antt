-- The one round in which an act is answered whose client's cached histories are current (Query/Update: in the best case
-- an operation takes a single round trip).
-- Definitions whose comment names no source are this project's own; Query/Update is the paper of SOSP 2005.
use Rattle.std.specs.Prelude.{◌≡◌, ◌≢◌, ℕ, true, false, ◌+◌, ◌<◌, ◌≤◌, List, [], ◌∷◌, length, map, filter, slice_get, Option, Some, IsSome, option_map, Contains}
use Rattle.std.specs.List.{All, AllPairs, range_with_len}
use Rattle.qu_base.specs.Bounds.{replicas, quorum}
use Rattle.qu_base.specs.declared.party.ClientId.{ClientId}
use Rattle.qu_base.specs.declared.party.ObjectId.{ObjectId}
use Rattle.qu_base.specs.declared.party.Party.{Party}
use Rattle.qu_base.specs.declared.party.Party.TheVariants as party
use Rattle.qu_stamp.specs.declared.candidate.Candidate.{Candidate}
use Rattle.qu_stamp.specs.declared.limits.TheConstants.{LAST_TIME}
use Rattle.qu_stamp.specs.Stamp.{is_below}
use Rattle.qu_objects.specs.declared.act.Method.{Method}
use Rattle.qu_objects.specs.declared.op.Op.{Op}
use Rattle.qu_objects.specs.declared.op.Op.TheVariants as op
use Rattle.qu_objects.specs.declared.op.Outcome.TheVariants as outcome
use Rattle.qu_objects.specs.declared.state.ObjState.{ObjState}
use Rattle.qu_objects.specs.Performing.{performed_answer}
use Rattle.qu_history.specs.declared.limits.TheConstants.{HISTORY_LIMIT}
use Rattle.qu_history.specs.declared.sets.SetOf.{SetOf}
use Rattle.qu_history.specs.Sealing.{are_right}
use Rattle.qu_history.specs.Sets.{entries_of, method_at}
use Rattle.qu_versions.specs.Versions.{version_at}
use Rattle.qu_machine.specs.declared.record.OpRecord.{OpRecord}
use Rattle.qu_frames.specs.declared.frame.Body.TheVariants as body
use Rattle.qu_frames.specs.declared.frame.Frame.TheVariants as frame
use Rattle.qu_frames.specs.declared.frame.Letter.{Letter}
use Rattle.qu_rows.specs.State.{ReplicaState, own_candidates, own_latest}
use Rattle.qu_client.specs.declared.state.ClientState.{ClientState}
use Rattle.qu_question.specs.Named.{operation_objects}
use Rattle.qu_question.specs.Question.{sets_of}
use Rattle.qu_client.specs.declared.whom.Whom.TheVariants.{Preferred}
use Rattle.qu_client.specs.Whom.{is_asked, first_object}
use Rattle.qu_question.specs.Kept.{unmarked}
use Rattle.qu_trace.specs.declared.event.Event.{Event}
use Rattle.qu_trace.specs.declared.event.Event.TheVariants.{Invoke, Deliver, Tick, Inject}
use Rattle.qu_trace.specs.declared.trace.Entry.{Entry}
use Rattle.qu_trace.specs.declared.trace.Trace.{Trace}
use Rattle.qu_trace.specs.Operation.{operations_of}
use Rattle.qu_world.specs.State.{numbered}
use Rattle.qu_claims.specs.Carried.{handed, offered_by, Brings}
use Rattle.qu_claims.specs.Parts.{Names, values_on}
use Rattle.qu_claims.specs.Times.{world_after}
use Rattle.qu_claims.specs.Values.{HasVersion}

-- ---- events

-- the event of the entry with this index sends the letter
pub record SendsAt (trace : Trace) (at : ℕ) (letter : Letter) : Type 0 where
  pub entry : Entry
  pub is_entry : slice_get trace.entries at ≡ Some entry
  pub sent : Contains entry.letters letter

-- it hands this text to a correct party
pub record HandsAt (trace : Trace) (at : ℕ) (to : Party) (text : List ℕ) : Type 0 where
  pub entry : Entry
  pub is_entry : slice_get trace.entries at ≡ Some entry
  pub hands : handed (world_after trace at) entry.event ≡ Some (to, text)

-- the party at which an event happens
abbrev pub party_of : List Entry → Event → Option Party
party_of entries (Invoke client op) = Some (party.Client client)
party_of entries (Deliver number) = option_map (λ offer. offer.0) (offered_by entries (Deliver number))
party_of entries (Tick client) = Some (party.Client client)
party_of entries (Inject to text) = Some to

-- the event of the entry with this index does not happen at the client
abbrev pub IsElsewhere : Trace → ClientId → ℕ → Type 0
IsElsewhere trace client at = (entry : Entry) → slice_get trace.entries at ≡ Some entry
    → party_of (world_after trace at).entries entry.event ≢ Some (party.Client client)

-- ---- when an act is quick

-- what a client shows in the first round of an operation: all that it keeps of the objects, trimmed
abbrev pub first_sets : ClientState → Op → List SetOf
first_sets state op = sets_of state.keys.bounds 1 (unmarked state.kept) (operation_objects op)

-- a replica can perform an act upon this candidate of an object at once: it has accepted nothing above it, has its
-- version, and room for a candidate more. It need not have accepted it
pub record IsReadyOn (state : ReplicaState) (object : ObjectId) (base : Candidate) : Type 0 where
  pub current : is_below base.stamp (own_latest state object) ≡ false
  pub stored : IsSome (version_at object base.stamp state.versions)
  pub room : length (own_candidates state object) < HISTORY_LIMIT

-- the turn of a replica in a round: it handles the request at one event, and at another its reply is delivered
pub record RoundTurn : Type 0 where
  pub replica : ℕ
  pub handles : ℕ
  pub heard : ℕ

-- the letter that the client sent to this replica, which is correct, reaches it when all entries of the sets are right
-- for it and it is ready on each object; and the client is handed what it answers
pub record IsQuickTurn (trace : Trace) (begin : ℕ) (operation : OpRecord) (parts : List (ObjectId × Method))
    (sets : List SetOf) (bases : ObjectId → Candidate) (turn : RoundTurn) : Type 0 where
  pub request : Letter
  pub sent : SendsAt trace begin request
  pub reaches : HandsAt trace turn.handles (party.Replica (record { 0 = turn.replica })) request.text
  pub state : ReplicaState
  pub is_state : slice_get (world_after trace turn.handles).replicas turn.replica ≡ Some state
  pub mac : List ℕ
  pub brings : Brings state request.text
      (frame.Request operation.client operation.number 1 sets (body.Act parts) mac)
  pub right : are_right state.keys state.me sets ≡ true
  pub ready : (object : ObjectId) → Names parts object → IsReadyOn state object (bases object)
  pub reply : Letter
  pub replies : SendsAt trace turn.handles reply
  pub told : HandsAt trace turn.heard (party.Client operation.client) reply.text

-- the next events at the client, from this one on, are those at which these replies are delivered
unfoldable pub HearsNext : Trace → ClientId → ℕ → List RoundTurn → Type 0
HearsNext trace client from [] = Unit {0}
HearsNext trace client from (turn ∷ later) =
    (from ≤ turn.heard) × ((at : ℕ) → from ≤ at → at < turn.heard → IsElsewhere trace client at)
    × HearsNext trace client (turn.heard + 1) later

-- the last event at which one of them is
unfoldable pub last_heard : ℕ → List RoundTurn → ℕ
last_heard last [] = last
last_heard last (turn ∷ later) = last_heard turn.heard later

-- an act of a correct client that begins at the event of the entry with this index, when the client's cached histories
-- are current: they class each of its objects as METHOD, with these candidates, upon which as many replicas as make a
-- quorum are ready when the request reaches them; and no event happens at the client between but that it is handed
-- their replies. That the request is decoded by each of them is a premise: one of more than 2^25 bytes is not
pub record IsQuick (trace : Trace) (operation : OpRecord) (parts : List (ObjectId × Method))
    (bases : ObjectId → Candidate) (begin last : ℕ) : Type 0 where
  pub of_trace : Contains (operations_of trace) operation
  pub is_act : operation.op ≡ op.Act parts
  pub begins : operation.invoked ≡ begin + 1
  pub state : ClientState
  pub is_state : numbered (world_after trace begin).clients (operation.client).0 ≡ Some state
  pub current : (object : ObjectId) → Names parts object
      → method_at trace.setup.bounds (entries_of object (first_sets state operation.op)) ≡ Some (bases object)
  pub in_time : (object : ObjectId) → Names parts object → (bases object).stamp.time < LAST_TIME
  pub turns : List RoundTurn
  pub quorum_of_turns : length turns ≡ quorum trace.setup.bounds
  pub different : AllPairs (λ (first second : RoundTurn). first.replica ≢ second.replica) turns
  pub quick : All (IsQuickTurn trace begin operation parts (first_sets state operation.op) bases) turns
  pub hears : HearsNext trace operation.client (begin + 1) turns
  pub last_is : last ≡ last_heard begin turns

-- ---- what it comes to

-- the replicas that are asked first for an object
abbrev pub asked_first : ℕ → ObjectId → List Party
asked_first bounds object =
    map (λ number. party.Replica (record { 0 = number }))
    (filter (λ number. is_asked bounds (Preferred object) number) (range_with_len 0 (replicas bounds)))

-- the client sends one letter to each replica that is preferred for the lowest object, a quorum, and no other up to the
-- last of the replies, at which the operation is done, with the answer of the act on the versions of the candidates
pub record EndsInOneRound (trace : Trace) (operation : OpRecord) (parts : List (ObjectId × Method))
    (bases : ObjectId → Candidate) (begin last : ℕ) : Type 0 where
  pub entry : Entry
  pub is_entry : slice_get trace.entries begin ≡ Some entry
  pub asked : map (λ letter. letter.to) entry.letters ≡ asked_first trace.setup.bounds (first_object operation.op)
  pub letters : length entry.letters ≡ quorum trace.setup.bounds
  pub no_more : (at : ℕ) (letter : Letter) → begin < at → at ≤ last → SendsAt trace at letter
      → letter.from ≢ party.Client operation.client
  pub versions : ObjectId → ObjState
  pub of_bases : (object : ObjectId) → Names parts object → HasVersion trace object (bases object) (versions object)
  pub done : operation.reply ≡ Some (
    last + 1,
    outcome.Done (performed_answer parts (values_on (λ (object : ObjectId). (versions object).value) parts)),
  )

-- each act that is quick ends in one round
abbrev pub QuickIsOneRound : Trace → Type 0
QuickIsOneRound trace = (operation : OpRecord) (parts : List (ObjectId × Method)) (bases : ObjectId → Candidate)
    (begin last : ℕ) → IsQuick trace operation parts bases begin last
    → EndsInOneRound trace operation parts bases begin last
