-- What a replica's reply says of the replica.
use Rattle.std.specs.Prelude.{◌≡◌, ℕ, true, false, List, [], ◌∷◌, map, All, Some}
use Rattle.std.specs.List.{AllZip}
use Rattle.qu_base.specs.declared.party.ClientId.{ClientId}
use Rattle.qu_base.specs.declared.party.Digest.{Digest}
use Rattle.qu_base.specs.declared.party.ObjectId.{ObjectId}
use Rattle.qu_stamp.specs.declared.stamp.Stamp.{Stamp}
use Rattle.qu_stamp.specs.declared.candidate.Candidate.{Candidate}
use Rattle.qu_stamp.specs.Stamp.{is_below}
use Rattle.qu_history.specs.declared.sets.SetOf.{SetOf}
use Rattle.qu_history.specs.Culling.{culled}
use Rattle.qu_history.specs.History.{holds}
use Rattle.qu_history.specs.Sets.{entries_of, method_at}
use Rattle.qu_objects.specs.declared.act.Method.{Method}
use Rattle.qu_objects.specs.declared.answer.Answer.{Answer}
use Rattle.qu_objects.specs.declared.kind.Value.{Value}
use Rattle.qu_objects.specs.declared.query.Ask.{Ask}
use Rattle.qu_objects.specs.declared.state.ObjState.{ObjState}
use Rattle.qu_objects.specs.Performing.{told_answer}
use Rattle.qu_kept.specs.Rows.{row_of}
use Rattle.qu_frames.specs.declared.frame.Body.{Body}
use Rattle.qu_frames.specs.declared.frame.Frame.TheVariants as frame
use Rattle.qu_verdicts.specs.declared.verdict.Verdict.{Verdict}
use Rattle.qu_verdicts.specs.declared.verdict.Verdict.TheVariants.{Done, Told, Already, Mended, Refused}
use Rattle.qu_mends.specs.declared.accepted.Accepted.{Accepted}
use Rattle.qu_rows.specs.declared.decision.Decision.TheVariants.{Answers}
use Rattle.qu_rows.specs.State.{ReplicaState, own_candidates}
use Rattle.qu_rows.specs.Rows.{asked_at, decision_on}
use Rattle.qu_versions.specs.Versions.{version_at}
use Rattle.qu_trace.specs.declared.trace.Trace.{Trace}
use Rattle.qu_claims.specs.Handling.{Handles}

-- a version keeps of this client the act with this number and digest, and what it answered
abbrev pub Keeps : ClientId → ℕ → Digest → Answer → ObjState → Type 0
Keeps client number act answer version =
    row_of client version.kept ≡ Some (record { client = client; number = number; act = act; answer = answer })

-- the first of a list is such
abbrev pub HoldsOfFirst : {X : Type 0} → (X → Type 0) → List X → Type 0
HoldsOfFirst P [] = ⊥
HoldsOfFirst P (first ∷ later) = P first

-- on an object of an update, whose digest is `act`, a replica has the candidate with the stamp that it tells, and
-- the version of it, which keeps the update with the answer
pub record HasDone (state : ReplicaState) (client : ClientId) (number : ℕ) (act : Digest) (answer : Answer)
    (told : ObjectId × Stamp) : Type 0 where
  pub candidate : Candidate
  pub is_told : candidate.stamp ≡ told.1
  pub held : holds candidate (own_candidates state told.0) ≡ true
  pub of_client : candidate.stamp.client ≡ client
  pub of_act : candidate.stamp.act ≡ Some act
  pub version : ObjState
  pub of_candidate : version_at told.0 candidate.stamp state.versions ≡ Some version
  pub keeps : Keeps client number act answer version

-- a replica that tells Done has a candidate of the update on each of its objects, and a version of each that keeps it:
-- that of the lowest object with the answer that is told
pub record TellsDone (new : ReplicaState) (client : ClientId) (number : ℕ) (act : Digest)
    (parts : List (ObjectId × Method)) (stamps : List (ObjectId × Stamp)) (answer : Answer) : Type 0 where
  pub of_parts : map (λ (it : ObjectId × Stamp). it.0) stamps ≡ map (λ (part : ObjectId × Method). part.0) parts
  pub each : All (λ (told : ObjectId × Stamp). (kept : Answer) × HasDone new client number act kept told) stamps
  pub first : HoldsOfFirst (HasDone new client number act answer) stamps

-- on an object of an update, a replica has the version of a base that a quorum holds in the sets, and it keeps the
-- update with the answer
pub record HasKept (state : ReplicaState) (client : ClientId) (number : ℕ) (act : Digest) (sets : List SetOf)
    (answer : Answer) (object : ObjectId) : Type 0 where
  pub base : Candidate
  pub method : method_at state.keys.bounds (entries_of object sets) ≡ Some base
  pub version : ObjState
  pub of_base : version_at object base.stamp state.versions ≡ Some version
  pub keeps : Keeps client number act answer version

-- a replica that tells Already has such a version of each object of the update, that of the lowest one with the answer
-- that is told
pub record TellsAlready (state : ReplicaState) (client : ClientId) (number : ℕ) (act : Digest) (sets : List SetOf)
    (parts : List (ObjectId × Method)) (answer : Answer) : Type 0 where
  pub each : All (λ (part : ObjectId × Method).
      (kept : Answer) × HasKept state client number act sets kept part.0) parts
  pub first : HoldsOfFirst (λ (part : ObjectId × Method). HasKept state client number act sets answer part.0) parts

-- what is told of an update alone: that it is done, now or before
abbrev pub IsOfUpdate : Verdict → Type 0
IsOfUpdate (Done stamps answer) = Unit {0}
IsOfUpdate (Already answer) = Unit {0}
IsOfUpdate (Told stamps answer) = ⊥
IsOfUpdate (Mended object stamp) = ⊥
IsOfUpdate (Refused why) = ⊥

-- on an object of a query, a replica has the value from the version of a base that a quorum holds in the sets, and
-- has accepted nothing above that base
pub record HasTold (state : ReplicaState) (sets : List SetOf) (told : ObjectId × Stamp) (value : Value)
    : Type 0 where
  pub base : Candidate
  pub is_told : base.stamp ≡ told.1
  pub method : method_at state.keys.bounds (entries_of told.0 sets) ≡ Some base
  pub version : ObjState
  pub of_base : version_at told.0 base.stamp state.versions ≡ Some version
  pub value_is : version.value ≡ value
  pub nothing_above : (held : Candidate) → holds held (own_candidates state told.0) ≡ true
      → is_below base.stamp held.stamp ≡ false

-- a replica that tells a query's answer has it from such values of all its objects
pub record TellsQuery (state : ReplicaState) (sets : List SetOf) (query : List (ObjectId × Ask))
    (stamps : List (ObjectId × Stamp)) (answer : Answer) : Type 0 where
  pub of_parts : map (λ (it : ObjectId × Stamp). it.0) stamps ≡ map (λ (part : ObjectId × Ask). part.0) query
  pub values : List Value
  pub each : AllZip (HasTold state sets) stamps values
  pub answer_is : answer ≡ told_answer query values

-- the sets of a request, as the replica culls them
abbrev pub culled_in : ReplicaState → List SetOf → List SetOf
culled_in state sets = culled state.keys state.me sets

-- the verdict, sent at the event of the entry with this index, is that of a replica upon a request of this
-- client, number and round, which it handles at this event
pub record IsReplyTo (trace : Trace) (at : ℕ) (replica : ℕ) (client : ClientId) (number round : ℕ)
    (verdict : Verdict) : Type 0 where
  pub old : ReplicaState
  pub new : ReplicaState
  pub handles : Handles trace at replica old new
  pub sets : List SetOf
  pub body : Body
  pub mac : List ℕ
  pub is_request : handles.carried ≡ frame.Request client number round sets body mac
  pub accepted : List Accepted
  pub decided : decision_on handles.mid (asked_at handles.mid client number sets body) body ≡ Answers verdict accepted
