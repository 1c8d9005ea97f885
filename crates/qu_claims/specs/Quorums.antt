-- What stands behind the answer of a completed operation: so many correct replicas that with b more they are a quorum.
use Rattle.std.specs.Prelude.{◌≡◌, ◌≢◌, ℕ, ◌+◌, ◌-◌, ◌<◌, ◌≤◌, true, false, List, length, map, slice_get, count_by, All, Contains, Some}
use Rattle.std.specs.List.{AllPairs}
use Rattle.qu_base.specs.declared.party.ObjectId.{ObjectId}
use Rattle.qu_base.specs.Bounds.{replicas, quorum}
use Rattle.qu_stamp.specs.declared.stamp.Stamp.{Stamp}
use Rattle.qu_stamp.specs.declared.candidate.Candidate.{Candidate}
use Rattle.qu_stamp.specs.Stamp.{is_below}
use Rattle.qu_history.specs.History.{holds}
use Rattle.qu_objects.specs.declared.act.Method.{Method}
use Rattle.qu_objects.specs.declared.query.Ask.{Ask}
use Rattle.qu_objects.specs.declared.answer.Answer.{Answer}
use Rattle.qu_objects.specs.declared.op.Op.{Op}
use Rattle.qu_objects.specs.declared.op.Op.TheVariants as op
use Rattle.qu_objects.specs.Digesting.{act_digest}
use Rattle.qu_verdicts.specs.declared.verdict.Verdict.TheVariants as verdict
use Rattle.qu_machine.specs.declared.record.OpRecord.{OpRecord}
use Rattle.qu_machine.specs.Serial.{Completes}
use Rattle.qu_rows.specs.State.{ReplicaState, own_candidates}
use Rattle.qu_trace.specs.declared.trace.Trace.{Trace}
use Rattle.qu_trace.specs.Faulty.{is_good}
use Rattle.qu_trace.specs.Operation.{operations_of}
use Rattle.qu_claims.specs.Completions.{RepliedAt, IsCompleted}
use Rattle.qu_claims.specs.Accepted.{accepts}
use Rattle.qu_claims.specs.Times.{world_after}
use Rattle.qu_claims.specs.Setting.{IsAncestor}
use Rattle.qu_claims.specs.RunSetting.{setting}
use Rattle.qu_verdicts.specs.declared.verdict.Verdict.{Verdict}
use Rattle.std.proofs.Common.{◌⊎◌}

-- what the quorum accepted is the act's candidate; where the act is told to be done already, it is that, or a later one
-- which rests on it
abbrev pub StandsUpon : Trace → Verdict → ObjectId → Candidate → Candidate → Type 0
StandsUpon trace (verdict.Already answer) object candidate complete =
    (candidate ≡ complete) ⊎ IsAncestor (setting trace) (setting trace).last object candidate complete
StandsUpon trace _ object candidate complete = candidate ≡ complete

-- so many correct replicas had accepted a candidate of the act, on this object, before the event of its reply, that
-- with b more they are a quorum (Query/Update: an established candidate)
pub record PartOfQuorum (trace : Trace) (operation : OpRecord) (parts : List (ObjectId × Method)) (reply : ℕ)
    (told : Verdict) (object : ObjectId) : Type 0 where
  pub candidate : Candidate
  pub of_client : candidate.stamp.client ≡ operation.client
  pub of_act : candidate.stamp.act ≡ Some (act_digest operation.client operation.number parts)
  pub complete : Candidate
  pub upon : StandsUpon trace told object candidate complete
  pub accepted : quorum trace.setup.bounds ≤ count_by (accepts object complete)
      (world_after trace (reply - 1)).replicas + trace.setup.bounds

-- on each of its objects, of which there are some
pub record ActOfQuorum (trace : Trace) (operation : OpRecord) (parts : List (ObjectId × Method)) (reply : ℕ)
    (told : Verdict) : Type 0 where
  pub some : 1 ≤ length parts
  pub each : All (λ (part : ObjectId × Method). PartOfQuorum trace operation parts reply told part.0) parts

-- the replica told this answer to the query, from the versions with these stamps, and had then accepted
-- nothing above them (Query/Update)
pub record ToldFrom (trace : Trace) (operation : OpRecord) (reply round : ℕ) (stamps : List (ObjectId × Stamp))
    (answer : Answer) (replica : ℕ) : Type 0 where
  pub at : ℕ
  pub earlier : at < reply - 1
  pub told : RepliedAt trace at operation.client operation.number round (verdict.Told stamps answer) replica
  pub state : ReplicaState
  pub is_state : slice_get (world_after trace at).replicas replica ≡ Some state
  pub nothing_above : All (λ (it : ObjectId × Stamp). (held : Candidate)
      → holds held (own_candidates state it.0) ≡ true → is_below it.1 held.stamp ≡ false) stamps

-- so many different correct replicas told the answer to the query, each from the same version of each of its objects,
-- that with b more they are a quorum
pub record QueryOfQuorum (trace : Trace) (operation : OpRecord) (parts : List (ObjectId × Ask)) (reply : ℕ)
    (answer : Answer) : Type 0 where
  pub round : ℕ
  pub stamps : List (ObjectId × Stamp)
  pub of_parts : map (λ (it : ObjectId × Stamp). it.0) stamps ≡ map (λ (part : ObjectId × Ask). part.0) parts
  pub members : List ℕ
  pub different : AllPairs (λ (a b : ℕ). a ≢ b) members
  pub within : All (λ (member : ℕ). member < replicas trace.setup.bounds) members
  pub correct : All (λ (member : ℕ). is_good trace.setup member ≡ true) members
  pub enough : quorum trace.setup.bounds ≤ length members + trace.setup.bounds
  pub told : All (ToldFrom trace operation reply round stamps answer) members

-- an operation that was told this verdict, with this answer
abbrev pub IsOfQuorum : Trace → OpRecord → ℕ → Verdict → Answer → Op → Type 0
IsOfQuorum trace operation reply told answer (op.Act parts) = ActOfQuorum trace operation parts reply told
IsOfQuorum trace operation reply told answer (op.Query query) = QueryOfQuorum trace operation query reply answer

-- each completed operation of a run
abbrev pub CompletesByQuorums : Trace → Type 0
CompletesByQuorums trace = (operation : OpRecord) (reply : ℕ) (answer : Answer) → Contains (operations_of trace)
    operation
    → Completes operation reply answer
    → (done : IsCompleted trace operation reply answer)
    × IsOfQuorum trace operation reply done.verdict answer operation.op
