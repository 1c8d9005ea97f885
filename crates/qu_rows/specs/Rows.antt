-- What a replica makes of a request, row by row (Query/Update: the replica's handling of a request).
use Rattle.std.specs.Prelude.{ℕ, Bool, false, not, ◌+◌, nat_lt, nat_le, if◌then◌else◌, List, [], ◌∷◌, length, map, filter, find, zip, Option, None, Some, is_none, option_map, option_and_then, unwrap_or, IsTrue}
use Rattle.std.specs.List.{list_all, list_any, filter_map}
use Rattle.qu_base.specs.declared.party.ClientId.{ClientId}
use Rattle.qu_base.specs.declared.party.Digest.{Digest}
use Rattle.qu_base.specs.declared.party.ObjectId.{ObjectId}
use Rattle.qu_base.specs.Bounds.{quorum}
use Rattle.qu_stamp.specs.declared.stamp.Stamp.{Stamp}
use Rattle.qu_stamp.specs.declared.limits.TheConstants.{LAST_TIME}
use Rattle.qu_stamp.specs.declared.candidate.Candidate.{Candidate}
use Rattle.qu_stamp.specs.Stamp.{is_below}
use Rattle.qu_history.specs.declared.sets.SetOf.{SetOf}
use Rattle.qu_history.specs.History.{ObjectHistory}
use Rattle.qu_history.specs.Sets.{entries_of, latest_of, method_at}
use Rattle.qu_history.specs.Text.{sets_digest}
use Rattle.qu_history.specs.Culling.{culled}
use Rattle.qu_objects.specs.declared.act.Method.{Method}
use Rattle.qu_objects.specs.declared.query.Ask.{Ask}
use Rattle.qu_objects.specs.declared.state.ObjState.{ObjState}
use Rattle.qu_objects.specs.Parts.{are_parts}
use Rattle.qu_objects.specs.Performing.{performed_answer, told_answer}
use Rattle.qu_objects.specs.Digesting.{act_digest}
use Rattle.qu_plan.specs.declared.fact.Fact.{Fact}
use Rattle.qu_class.specs.declared.class.Class.{Class}
use Rattle.qu_class.specs.declared.class.Class.TheVariants as class
use Rattle.qu_class.specs.Class.{is_copy, class_in}
use Rattle.qu_plan.specs.Evidence.{evidence_of}
use Rattle.qu_plan.specs.Linking.{Linking, link_in}
use Rattle.qu_kept.specs.declared.repeats.Standing.{Standing}
use Rattle.qu_kept.specs.declared.repeats.Standing.TheVariants.{Fresh, Already, Spent}
use Rattle.qu_kept.specs.Performing.{values_of, performed_states}
use Rattle.qu_kept.specs.Standing.{standing_of}
use Rattle.qu_frames.specs.declared.frame.Body.{Body}
use Rattle.qu_frames.specs.declared.frame.Body.TheVariants as body
use Rattle.qu_verdicts.specs.declared.verdict.ClassCode.{ClassCode}
use Rattle.qu_verdicts.specs.declared.verdict.ClassCode.TheVariants.{InlineMethod, Copy, InlineBarrier, Barrier, Needs}
use Rattle.qu_verdicts.specs.declared.verdict.Refusal.{Refusal}
use Rattle.qu_verdicts.specs.declared.verdict.Refusal.TheVariants as refusal
use Rattle.qu_verdicts.specs.declared.verdict.Verdict.TheVariants as verdict
use Rattle.qu_kept.specs.declared.remedy.Remedy.{Remedy}
use Rattle.qu_mends.specs.declared.mend.Mend.{Mend}
use Rattle.qu_mends.specs.declared.mending.Mending.{Mending}
use Rattle.qu_mends.specs.declared.mending.Mending.TheVariants as mending
use Rattle.qu_kept.specs.Remedy.{wanted_by}
use Rattle.qu_mends.specs.Remedy.{MendPart, mend_of}
use Rattle.qu_mends.specs.Mending.{is_held_in, decide_mend}
use Rattle.qu_mends.specs.declared.seen.Seen.{Seen}
use Rattle.qu_mends.specs.declared.accepted.Accepted.{Accepted}
use Rattle.qu_rows.specs.declared.decision.Decision.{Decision}
use Rattle.qu_rows.specs.declared.decision.Decision.TheVariants.{Answers, Waits}
use Rattle.qu_mends.specs.Seen.{seen_in}
use Rattle.qu_mends.specs.Table.{first_given, has_no_room}
use Rattle.qu_rows.specs.State.{ReplicaState, own_candidates, own_latest}
use Rattle.qu_versions.specs.Versions.{version_at, has_version}

-- the class that a refusal carries; none of METHOD does
abbrev pub class_code : Class → Option ClassCode
class_code (class.Method candidate) = None
class_code (class.InlineMethod candidate) = Some InlineMethod
class_code class.Copy = Some Copy
class_code (class.InlineBarrier candidate) = Some InlineBarrier
class_code (class.Barrier prior) = Some Barrier
class_code (class.Needs member) = Some Needs

-- a request, as a replica is handed it
pub record Asked : Type 0 where
  pub client : ClientId
  pub number : ℕ
  -- the sets, culled
  pub sets : List SetOf
  -- the digest of the act that is asked for, none of a query or a repair
  pub act : Option Digest
  -- the digest of the culled sets
  pub set : Digest

abbrev pub act_asked : ClientId → ℕ → Body → Option Digest
act_asked client number (body.Act parts) = Some (act_digest client number parts)
act_asked client number (body.Ask parts) = None
act_asked client number (body.Mend target) = None

-- the request with its digests
abbrev pub asked_of : ClientId → ℕ → List SetOf → Body → Asked
asked_of client number sets body =
    record { client = client; number = number; sets = sets; act = act_asked client number body; set = sets_digest sets }

-- the request as a replica takes it, which culls the sets
abbrev pub asked_at : ReplicaState → ClientId → ℕ → List SetOf → Body → Asked
asked_at state client number sets body = asked_of client number (culled state.keys state.me sets) body

-- nothing is accepted
abbrev pub refuse : Refusal → Decision
refuse why = Answers (verdict.Refused why) []

-- the entries that the sets show of an object
abbrev pub shown_of : Asked → ObjectId → List ObjectHistory
shown_of asked object = entries_of object asked.sets

-- what the sets show of an object, which all rows look at
abbrev pub seen_of : ReplicaState → Asked → ObjectId → Seen
seen_of state asked object = seen_in state.keys.bounds asked.sets object

-- of each of them
abbrev pub seen_each : ReplicaState → Asked → List ObjectId → List Seen
seen_each state asked objects = map (seen_of state asked) objects

-- they are the objects of an operation: some, few, and rising
abbrev pub AreOperated : List Seen → Type 0
AreOperated seen = IsTrue (are_parts (map (λ one. (one.object, one)) seen))

-- ---- upon what an operation rests

-- the candidate upon which an operation may rest
abbrev pub method_base : ReplicaState → Asked → ObjectId → Option Candidate
method_base state asked object = method_at state.keys.bounds (shown_of asked object)

-- the version upon which one rests that was seen so
abbrev pub version_seen : ReplicaState → Seen → Option ObjState
version_seen state one = option_and_then (λ base. version_at one.object base.stamp state.versions) one.method

abbrev pub base_version : ReplicaState → Asked → ObjectId → Option ObjState
base_version state asked object = version_seen state (seen_of state asked object)

abbrev pub base_versions : ReplicaState → List Seen → List ObjState
base_versions state seen = filter_map (version_seen state) seen

-- the objects, each with the stamp upon which an operation rests
abbrev pub base_key : Seen → Option (ObjectId × Stamp)
base_key one = option_map (λ (base : Candidate). (one.object, base.stamp)) one.method

abbrev pub base_keys : List Seen → List (ObjectId × Stamp)
base_keys seen = filter_map base_key seen

-- those of the versions under these stamps that the replica lacks
abbrev pub missing_of : ReplicaState → List (ObjectId × Stamp) → List (ObjectId × Stamp)
missing_of state keys = filter (λ key. not (has_version key.0 key.1 state.versions)) keys

-- those that it has
abbrev pub versions_under : ReplicaState → List (ObjectId × Stamp) → List ObjState
versions_under state keys = filter_map (λ key. version_at key.0 key.1 state.versions) keys

-- ---- what an act makes

-- a fresh stamp has the time after the latest, and the digests of the act and of the sets
abbrev pub stamp_after : Asked → Stamp → Stamp
stamp_after asked latest =
    record {
      time = latest.time + 1;
      barrier = false;
      client = asked.client;
      act = asked.act;
      set = asked.set;
    }

abbrev pub fresh_stamp : Asked → ObjectId → Stamp
fresh_stamp asked object = stamp_after asked (latest_of (shown_of asked object))

abbrev pub fresh_stamps : Asked → List Seen → List Stamp
fresh_stamps asked seen = map (λ one. stamp_after asked one.latest) seen

-- the objects, each with its fresh stamp
abbrev pub fresh_keys : Asked → List Seen → List (ObjectId × Stamp)
fresh_keys asked seen = map (λ one. (one.object, stamp_after asked one.latest)) seen

-- one candidate alone has no group
abbrev pub unless_alone : List (ObjectId × ℕ) → List (ObjectId × ℕ)
unless_alone (member ∷ []) = []
unless_alone members = members

-- the group of the candidates that are made on these objects: each object with the time of its fresh stamp
abbrev pub fresh_group : Asked → List ObjectId → List (ObjectId × ℕ)
fresh_group asked objects = unless_alone (map (λ object. (object, (fresh_stamp asked object).time)) objects)

abbrev pub members_seen : Asked → List Seen → List (ObjectId × ℕ)
members_seen asked seen = map (λ one. (one.object, (stamp_after asked one.latest).time)) seen

abbrev pub group_seen : Asked → List Seen → List (ObjectId × ℕ)
group_seen asked seen = unless_alone (members_seen asked seen)

-- the candidate that the act makes on an object, with this group
abbrev pub fresh_candidate : Asked → List (ObjectId × ℕ) → Seen → Option Candidate
fresh_candidate asked group one =
    option_map (λ base. record { stamp = stamp_after asked one.latest; prior = base.stamp; group = group }) one.method

-- it is held already
unfoldable pub is_held : ReplicaState → Asked → List (ObjectId × ℕ) → Seen → Bool
is_held state asked group one =
    is_held_in (own_candidates state one.object) (fresh_candidate asked group one)

-- it is accepted, with the object's version after the act
abbrev pub accepted_one : Asked → List (ObjectId × ℕ) → Seen × ObjState → Option Accepted
accepted_one asked group each =
    option_map (λ (fresh : Candidate). record { object = (each.0).object; candidate = fresh; state = Some each.1 })
    (fresh_candidate asked group each.0)

abbrev pub accepted_by : Asked → List (ObjectId × ℕ) → List Seen → List ObjState → List Accepted
accepted_by asked group seen versions = filter_map (accepted_one asked group) (zip seen versions)

-- how an act stands to what these versions keep of its client
abbrev pub standing_in : Asked → List (ObjectId × Method) → List ObjState → Standing
standing_in asked parts versions =
    elim (asked.act) [ None ↦ Fresh | Some act ↦ standing_of asked.client asked.number act parts versions ]

-- ---- the rows of an act and of a query, by what was seen of each of their objects

-- the first of which the fact holds is refused
abbrev pub refuse_first : {X : Type 0} → (X → Bool) → (X → Refusal) → List X → Option Decision
refuse_first bad why items = option_map (λ it. refuse (why it)) (find bad items)

-- the first object of the sets that the replica does not have
abbrev pub unknown_in : ReplicaState → List SetOf → Option SetOf
unknown_in state sets = find (λ set. nat_le (length state.histories) (set.object).0) sets

-- sets with such an object are refused
abbrev pub unknown_refused : Option SetOf → Option Decision
unknown_refused found = option_map (λ (set : SetOf). refuse (refusal.UnknownObject set.object)) found

-- culled sets are of the same objects, so that this can be asked before they are culled
unfoldable pub row_unknown : ReplicaState → Asked → Option Decision
row_unknown state asked = unknown_refused (unknown_in state asked.sets)

-- fewer entries than a quorum
unfoldable pub row_thin : ReplicaState → Asked → Option Decision
row_thin state asked =
    refuse_first (λ set. nat_lt (length set.entries) (quorum state.keys.bounds)) (λ set. refusal.Thin set.object)
    asked.sets

-- an act that was performed before is done, with the answer that it had
abbrev pub done_again : List (ObjectId × Stamp) → Standing → Option Decision
done_again stamps (Already answer) = Some (Answers (verdict.Done stamps answer) [])
done_again stamps Fresh = None
done_again stamps (Spent object number) = None

-- a retry whose candidates are all held is told the answer that their versions keep
unfoldable pub row_retry : ReplicaState → Asked → List (ObjectId × Method) → List Seen → Option Decision
row_retry state asked parts seen =
    if list_all (is_held state asked (group_seen asked seen)) seen
    then done_again (fresh_keys asked seen) (standing_in asked parts (versions_under state (fresh_keys asked seen)))
    else None

-- the replica has a later candidate than the sets show
unfoldable pub row_current : ReplicaState → List Seen → Option Decision
row_current state seen =
    refuse_first (λ one. is_below one.latest (own_latest state one.object))
    (λ one. refusal.NotCurrent one.object (own_latest state one.object)) seen

-- the class that is told of an object upon which no operation may rest: without an object candidate it is BARRIER
abbrev pub class_told : Seen → ClassCode
class_told one = unwrap_or (class_code one.class) Barrier

-- the object is of another class than METHOD
unfoldable pub row_method : List Seen → Option Decision
row_method seen =
    refuse_first (λ one. is_none one.method) (λ one. refusal.NotMethod one.object (class_told one)) seen

-- a version upon which the operation rests is missing
unfoldable pub row_version : ReplicaState → List Seen → Option Decision
row_version state seen =
    if list_any (λ one. is_none (version_seen state one)) seen then Some (Waits (missing_of state (base_keys seen)))
    else None

abbrev pub repeated : Standing → Option Decision
repeated Fresh = None
repeated (Already answer) = Some (Answers (verdict.Already answer) [])
repeated (Spent object number) = Some (refuse (refusal.Spent object number))

-- the versions upon which the act rests keep that it was performed before, or a number of its client that is at
-- least its own
unfoldable pub row_kept : Asked → List (ObjectId × Method) → List ObjState → Option Decision
row_kept asked parts before = repeated (standing_in asked parts before)

-- the time of the object is spent
unfoldable pub row_time : List Seen → Option Decision
row_time seen =
    refuse_first (λ one. nat_le LAST_TIME one.latest.time) (λ one. refusal.TimeSpent one.object) seen

-- the history of the object is full
unfoldable pub row_full : ReplicaState → List Seen → Option Decision
row_full state seen =
    refuse_first (λ one. has_no_room (own_candidates state one.object)) (λ one. refusal.HistoryFull one.object) seen

-- the act is performed upon the versions, and all its candidates are accepted
unfoldable pub row_done : Asked → List (ObjectId × Method) → List Seen → List ObjState → Option Decision
row_done asked parts seen before =
    Some (Answers (verdict.Done (fresh_keys asked seen) (performed_answer parts (values_of before)))
    (accepted_by asked (group_seen asked seen) seen
    (performed_states asked.client asked.number parts (fresh_stamps asked seen) before)))

-- the query is answered from the versions
unfoldable pub row_told : List (ObjectId × Ask) → List Seen → List ObjState → Option Decision
row_told parts seen before =
    Some (Answers (verdict.Told (base_keys seen) (told_answer parts (values_of before))) [])

abbrev pub objects_of : {X : Type 0} → List (ObjectId × X) → List ObjectId
objects_of parts = map (λ part. part.0) parts

unfoldable pub decide_act : ReplicaState → Asked → List (ObjectId × Method) → List ObjectId → Decision
decide_act state asked parts objects =
    let seen = seen_each state asked objects in
    let before = base_versions state seen in
    first_given (Waits []) (
    row_unknown state asked
    ∷ row_thin state asked
    ∷ row_retry state asked parts seen
    ∷ row_current state seen
    ∷ row_method seen
    ∷ row_version state seen
    ∷ row_kept asked parts before
    ∷ row_time seen
    ∷ row_full state seen
    ∷ row_done asked parts seen before
    ∷ [])

unfoldable pub decide_ask : ReplicaState → Asked → List (ObjectId × Ask) → List ObjectId → Decision
decide_ask state asked parts objects =
    let seen = seen_each state asked objects in
    first_given (Waits []) (
    row_unknown state asked
    ∷ row_thin state asked
    ∷ row_current state seen
    ∷ row_method seen
    ∷ row_version state seen
    ∷ row_told parts seen (base_versions state seen)
    ∷ [])

-- ---- a repair

-- the sets show fewer entries of the target than a quorum: it is not among their objects, or the row of thin sets fits
unfoldable pub row_few : ReplicaState → Asked → ObjectId → Option Decision
row_few state asked target =
    if nat_lt (length (shown_of asked target)) (quorum state.keys.bounds) then Some (refuse (refusal.Thin target))
    else None

-- what the versions that the replica has tell of other objects
abbrev pub linking_of : ReplicaState → Linking
linking_of state object stamp other =
    option_and_then (λ version. link_in version.links other) (version_at object stamp state.versions)

-- of those under these keys
abbrev pub fact_at : ReplicaState → ObjectId × Stamp → Option Fact
fact_at state key =
    option_map (λ (version : ObjState). record { object = key.0; stamp = key.1; links = version.links })
    (version_at key.0 key.1 state.versions)

abbrev pub facts_of : ReplicaState → List (ObjectId × Stamp) → List Fact
facts_of state keys = filter_map (fact_at state) keys

-- the versions that the plan of a copy reads; what is of another class is not copied
abbrev pub evidence_for : ReplicaState → Asked → ObjectId → List (ObjectId × Stamp)
evidence_for state asked target =
    if is_copy (class_in state.keys.bounds asked.sets target)
    then evidence_of state.keys.bounds asked.sets target else []

abbrev pub waits_for : List (ObjectId × Stamp) → Option Decision
waits_for [] = None
waits_for (key ∷ more) = Some (Waits (key ∷ more))

-- one of them is missing
unfoldable pub row_evidence : ReplicaState → Asked → ObjectId → Option Decision
row_evidence state asked target = waits_for (missing_of state (evidence_for state asked target))

-- the request, with what its sets say of the target, and with a plan by what the versions tell
abbrev pub mend_asked : ReplicaState → Asked → ObjectId → Mend
mend_asked state asked target =
    mend_of state.keys.bounds asked.sets (linking_of state) asked.set target asked.client

-- the version that the remedy wants, where the replica has it
abbrev pub wanted_version : ReplicaState → ObjectId → Remedy → Option ObjState
wanted_version state target remedy =
    option_and_then (λ stamp. version_at target stamp state.versions) (wanted_by remedy)

-- an object that is mended so, with what the replica has of it
abbrev pub part_of : ReplicaState → Asked → ObjectId × Remedy → MendPart
part_of state asked mended =
    record {
      object = mended.0;
      latest = latest_of (shown_of asked mended.0);
      remedy = mended.1;
      own = own_candidates state mended.0;
      version = wanted_version state mended.0 mended.1;
    }

-- those that are mended with the target
abbrev pub parts_of : ReplicaState → Asked → ObjectId → List MendPart
parts_of state asked target = map (part_of state asked) (mend_asked state asked target).remedies

-- what the replica makes of it
abbrev pub mending_on : ReplicaState → Asked → ObjectId → Mending
mending_on state asked target = decide_mend (mend_asked state asked target) (parts_of state asked target)

-- what is added is accepted, with the versions that are stored with it
abbrev pub decision_by : ObjectId → Mending → Decision
decision_by target (mending.Mends stamp accepted) = Answers (verdict.Mended target stamp) accepted
decision_by target (mending.Holds stamp) = Answers (verdict.Mended target stamp) []
decision_by target (mending.Refuses why) = refuse why
decision_by target (mending.Waits missing) = Waits missing

unfoldable pub decide_repair : ReplicaState → Asked → ObjectId → Decision
decide_repair state asked target = first_given (Waits []) (
    row_unknown state asked
    ∷ row_thin state asked
    ∷ row_few state asked target
    ∷ row_evidence state asked target
    ∷ Some (decision_by target (mending_on state asked target))
    ∷ [])

abbrev pub decision_on : ReplicaState → Asked → Body → Decision
decision_on state asked (body.Act parts) = decide_act state asked parts (objects_of parts)
decision_on state asked (body.Ask parts) = decide_ask state asked parts (objects_of parts)
decision_on state asked (body.Mend target) = decide_repair state asked target
