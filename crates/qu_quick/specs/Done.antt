-- What a correct replica makes of an act whose client's cached histories are current.
use Rattle.std.specs.Prelude.{◌≡◌, ℕ, true, false, ◌<◌, ◌≤◌, List, [], ◌∷◌, length, map, slice_get, Some}
use Rattle.std.specs.List.{AllByRecursion}
use Rattle.qu_base.specs.Bounds.{quorum}
use Rattle.qu_base.specs.declared.party.ClientId.{ClientId}
use Rattle.qu_base.specs.declared.party.ObjectId.{ObjectId}
use Rattle.qu_base.specs.declared.party.Party.TheVariants as party
use Rattle.qu_stamp.specs.declared.stamp.Stamp.{Stamp}
use Rattle.qu_stamp.specs.declared.candidate.Candidate.{Candidate}
use Rattle.qu_stamp.specs.declared.limits.TheConstants.{LAST_TIME}
use Rattle.qu_stamp.specs.Stamp.{is_below}
use Rattle.qu_history.specs.declared.limits.TheConstants.{HISTORY_LIMIT}
use Rattle.qu_history.specs.declared.sealed.Sealed.{Sealed}
use Rattle.qu_history.specs.declared.sets.SetOf.{SetOf}
use Rattle.qu_history.specs.Sealing.{are_right}
use Rattle.qu_history.specs.Sets.{entries_of, method_at}
use Rattle.qu_objects.specs.declared.act.Method.{Method}
use Rattle.qu_objects.specs.declared.state.ObjState.{ObjState}
use Rattle.qu_objects.specs.Performing.{performed_answer}
use Rattle.qu_kept.specs.Rows.{row_of}
use Rattle.qu_kept.specs.Standing.{IsLower}
use Rattle.qu_versions.specs.Versions.{version_at}
use Rattle.qu_frames.specs.declared.frame.Body.TheVariants as body
use Rattle.qu_frames.specs.declared.frame.Frame.TheVariants as frame
use Rattle.qu_frames.specs.declared.frame.Letter.{Letter}
use Rattle.qu_verdicts.specs.declared.verdict.Verdict.{Verdict}
use Rattle.qu_verdicts.specs.declared.verdict.Verdict.TheVariants as verdict
use Rattle.qu_frames.specs.Signing.{brought}
use Rattle.qu_rows.specs.Rows.{asked_of, fresh_stamp, objects_of}
use Rattle.qu_rows.specs.State.{ReplicaState, own_candidates, own_latest}
use Rattle.qu_client.specs.declared.state.ClientState.{ClientState}
use Rattle.qu_trace.specs.declared.trace.Entry.{Entry}
use Rattle.qu_trace.specs.declared.trace.Trace.{Trace}
use Rattle.qu_world.specs.State.{numbered}
use Rattle.qu_claims.specs.Parts.{Names, values_on}
use Rattle.qu_claims.specs.Times.{world_after}

-- the stamps of the candidates that it makes
abbrev pub done_stamps : ClientId → ℕ → List SetOf → List (ObjectId × Method) → List (ObjectId × Stamp)
done_stamps client number sets parts =
    map (λ (object : ObjectId). (object, fresh_stamp (asked_of client number sets (body.Act parts)) object))
    (objects_of parts)

-- the verdict upon it where nothing is culled and the bases have these versions: nothing in it is of the replica
abbrev pub done_verdict : ClientId → ℕ → List SetOf → List (ObjectId × Method) → (ObjectId → ObjState) → Verdict
done_verdict client number sets parts versions =
    verdict.Done (done_stamps client number sets parts)
    (performed_answer parts (values_on (λ (object : ObjectId). (versions object).value) parts))

-- the sets class the object METHOD, with this base, above which the replica has accepted nothing; and it has the base's
-- version, which keeps only lower numbers of the client, and room and time for one candidate more
pub record MayPerformOn (state : ReplicaState) (client : ClientId) (number : ℕ) (sets : List SetOf) (object : ObjectId)
    (base : Candidate) (version : ObjState) : Type 0 where
  pub method : method_at state.keys.bounds (entries_of object sets) ≡ Some base
  pub current : is_below base.stamp (own_latest state object) ≡ false
  pub stored : version_at object base.stamp state.versions ≡ Some version
  pub room : length (own_candidates state object) < HISTORY_LIMIT
  pub in_time : base.stamp.time < LAST_TIME
  pub lower : IsLower number (row_of client version.kept)

-- the entries are all right for the replica, which has the objects of the sets, a quorum of entries of each; and it may
-- perform the act on each of its objects
pub record IsReady (state : ReplicaState) (client : ClientId) (number : ℕ) (sets : List SetOf)
    (parts : List (ObjectId × Method)) (bases : ObjectId → Candidate) (versions : ObjectId → ObjState) : Type 0 where
  pub right : are_right state.keys state.me sets ≡ true
  pub known : AllByRecursion (λ set. (set.object).0 < length state.histories) sets
  pub enough : AllByRecursion (λ set. quorum state.keys.bounds ≤ length set.entries) sets
  pub each : (object : ObjectId) → Names parts object
      → MayPerformOn state client number sets object (bases object) (versions object)

-- the one letter of the event of this entry is the reply of this replica with this verdict, and its client is brought
-- it whenever it is delivered
pub record IsDoneAt (trace : Trace) (at place : ℕ) (client : ClientId) (number round : ℕ) (verdict : Verdict)
    : Type 0 where
  pub entry : Entry
  pub is_entry : slice_get trace.entries at ≡ Some entry
  pub letter : Letter
  pub letters : entry.letters ≡ letter ∷ []
  pub shown : List Sealed
  pub mac : List ℕ
  pub brings : (count : ℕ) → count ≤ length trace.entries → (state : ClientState)
      → numbered (world_after trace count).clients client.0 ≡ Some state
      → brought state.keys (party.Client state.me) letter.text
      ≡ Some (frame.Reply (record { 0 = place }) client number round verdict [] shown mac)
