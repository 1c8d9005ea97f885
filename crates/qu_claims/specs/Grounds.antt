-- Why a replica accepts a candidate, and what an event of a world adds to a replica.
use Rattle.std.specs.Prelude.{◌≡◌, ◌+◌, ◌≤◌, ℕ, Bool, true, false, List, [], ◌∷◌, ◌++◌, length, map, Option, None, Some, Result, Ok, Err}
use Rattle.std.specs.List.{flat_map}
use Rattle.qu_base.specs.declared.party.ClientId.{ClientId}
use Rattle.qu_base.specs.declared.party.ObjectId.{ObjectId}
use Rattle.qu_base.specs.Bounds.{quorum, repair}
use Rattle.qu_stamp.specs.declared.stamp.Stamp.{Stamp}
use Rattle.qu_stamp.specs.declared.candidate.Candidate.{Candidate}
use Rattle.qu_stamp.specs.Stamp.{is_below}
use Rattle.qu_stamp.specs.Candidate.{member as member_on}
use Rattle.qu_history.specs.declared.sets.SetOf.{SetOf}
use Rattle.qu_history.specs.Culling.{culled}
use Rattle.qu_history.specs.Sets.{entries_of, latest_of, order_of, method_at}
use Rattle.qu_objects.specs.declared.act.Method.{Method}
use Rattle.qu_objects.specs.declared.state.ObjState.{ObjState}
use Rattle.qu_objects.specs.Performing.{performed_values}
use Rattle.qu_kept.specs.Performing.{row_by, links_to_others, state_after, copied_state}
use Rattle.qu_kept.specs.Rows.{row_of}
use Rattle.qu_kept.specs.Standing.{IsLower}
use Rattle.qu_plan.specs.declared.plan.CopyPlan.{CopyPlan}
use Rattle.qu_plan.specs.declared.plan.PlanFail.{PlanFail}
use Rattle.qu_class.specs.declared.class.Class.TheVariants.{Copy}
use Rattle.qu_plan.specs.Chosen.{chosen_on}
use Rattle.qu_class.specs.Class.{class_in}
use Rattle.qu_plan.specs.Copying.{plan_of}
use Rattle.qu_plan.specs.Evidence.{evidence_of}
use Rattle.qu_plan.specs.Linking.{Linking}
use Rattle.qu_class.specs.Repairable.{object_base}
use Rattle.qu_frames.specs.declared.frame.Body.{Body}
use Rattle.qu_frames.specs.declared.frame.Body.TheVariants as body
use Rattle.qu_frames.specs.declared.frame.Frame.{Frame}
use Rattle.qu_frames.specs.declared.frame.Frame.TheVariants as frame
use Rattle.qu_versions.specs.declared.stored.Stored.{Stored}
use Rattle.qu_rows.specs.Rows.{Asked, asked_of, fresh_stamp, fresh_group, objects_of, linking_of, missing_of}
use Rattle.qu_rows.specs.State.{ReplicaState, own_candidates, own_latest}
use Rattle.qu_fitting.specs.Holding.{stored_if}
use Rattle.qu_versions.specs.Versions.{version_at}
use Rattle.qu_trace.specs.declared.trace.Trace.{Trace}
use Rattle.qu_claims.specs.Handling.{Handles}
use Rattle.qu_claims.specs.Parts.{Names, values_on}

-- the stamp of a candidate that is made upon these sets: its time is after the latest
abbrev pub made_stamp : Asked → ObjectId → Bool → Stamp
made_stamp asked object barrier =
    record {
      time = (latest_of (entries_of object asked.sets)).time + 1;
      barrier = barrier;
      client = asked.client;
      act = asked.act;
      set = asked.set;
    }

-- the replica makes the candidate upon a base, with those on the other objects: above all that is shown, with the
-- digests of the act, if one is asked for, and of the sets
pub record IsMade (asked : Asked) (base : Candidate) (objects : List ObjectId) (object : ObjectId)
    (candidate : Candidate) : Type 0 where
  pub stamp : candidate.stamp ≡ made_stamp asked object candidate.stamp.barrier
  pub prior : candidate.prior ≡ base.stamp
  pub group : candidate.group ≡ fresh_group asked objects

-- the object candidate: the greatest without barrier that the sets show so often that it may be repaired
abbrev pub shown_base : ℕ → Asked → ObjectId → Candidate
shown_base bounds asked object = object_base bounds (entries_of object asked.sets)

-- the objects that are copied together, by the plan of a target
abbrev pub planned_on : Result CopyPlan PlanFail → List ObjectId
planned_on (Ok plan) = objects_of plan.joint
planned_on (Err why) = []

-- a request makes candidates together on the objects of an act, upon the object candidates; a barrier is set alone,
-- upon the object candidate; and what is chosen is copied on all objects of the plan, by what the versions tell
abbrev pub made_on : ℕ → Linking → Asked → Body → ObjectId → Bool → List ObjectId
made_on bounds link asked (body.Act parts) object barrier = objects_of parts
made_on bounds link asked (body.Ask parts) object barrier = []
made_on bounds link asked (body.Mend target) object true = object ∷ []
made_on bounds link asked (body.Mend target) object false = planned_on (plan_of bounds asked.sets link target)

abbrev pub made_upon : ℕ → Linking → Asked → Body → ObjectId → Bool → Candidate
made_upon bounds link asked (body.Act parts) object barrier = shown_base bounds asked object
made_upon bounds link asked (body.Ask parts) object barrier = shown_base bounds asked object
made_upon bounds link asked (body.Mend target) object true = shown_base bounds asked object
made_upon bounds link asked (body.Mend target) object false = chosen_on bounds asked.sets link object

abbrev pub IsMadeFrom : ℕ → Linking → Asked → Body → ObjectId → Candidate → Type 0
IsMadeFrom bounds link asked asks object candidate =
    IsMade asked (made_upon bounds link asked asks object candidate.stamp.barrier)
    (made_on bounds link asked asks object candidate.stamp.barrier) object candidate

-- it is shown the candidate, by so many that it may be repaired, and nothing later
pub record IsFound (bounds : ℕ) (asked : Asked) (object : ObjectId) (candidate : Candidate) : Type 0 where
  pub latest : candidate.stamp ≡ latest_of (entries_of object asked.sets)
  pub order : repair bounds ≤ order_of candidate (entries_of object asked.sets)

-- ---- an act

-- why a replica in this state accepts a candidate on an object upon a request of an act on these objects: the sets show
-- a base that a quorum holds and that nothing shown is above, and the replica itself has nothing above what is shown
pub record IsGround (state : ReplicaState) (asked : Asked) (objects : List ObjectId) (object : ObjectId)
    (candidate base : Candidate) : Type 0 where
  pub method : method_at state.keys.bounds (entries_of object asked.sets) ≡ Some base
  pub prior : candidate.prior ≡ base.stamp
  pub group : candidate.group ≡ fresh_group asked objects
  pub stamp : candidate.stamp ≡ fresh_stamp asked object
  pub current : is_below (latest_of (entries_of object asked.sets)) (own_latest state object) ≡ false

-- the versions have the values of the parts, performed upon the versions of the bases, and keep the act with its
-- answer; of this client those of the bases keep lower numbers alone
pub record ArePerformed (state : ReplicaState) (client : ClientId) (number : ℕ) (parts : List (ObjectId × Method))
    (bases candidates : ObjectId → Candidate) (versions : ObjectId → ObjState) : Type 0 where
  pub befores : ObjectId → ObjState
  pub of_bases : (object : ObjectId) → Names parts object
      → version_at object (bases object).stamp state.versions ≡ Some (befores object)
  pub values : performed_values parts (values_on (λ (object : ObjectId). (befores object).value) parts)
      ≡ values_on (λ (object : ObjectId). (versions object).value) parts
  pub lower : (object : ObjectId) → Names parts object → IsLower number (row_of client (befores object).kept)
  pub afters : (object : ObjectId) → Names parts object → versions object ≡ state_after
      (row_by client number parts (values_on (λ (it : ObjectId). (befores it).value) parts)) (versions object).value
      (links_to_others object (candidates object).stamp parts) (befores object)

-- the versions that are stored with the candidates of the parts
abbrev pub stored_of : (ObjectId → Candidate) → (ObjectId → ObjState) → List (ObjectId × Method) → List Stored
stored_of candidates versions parts = map (λ (part : ObjectId × Method). record {
  object = part.0;
  stamp = (candidates part.0).stamp;
  state = versions part.0;
}) parts

-- it accepts one candidate on each object that the act's parts name, with the version that the act makes
pub record Performs (old new : ReplicaState) (asked : Asked) (parts : List (ObjectId × Method))
    (candidates : ObjectId → Candidate) : Type 0 where
  pub bases : ObjectId → Candidate
  pub grounds : (object : ObjectId) → Names parts object
      → IsGround old asked (objects_of parts) object (candidates object) (bases object)
  pub versions : ObjectId → ObjState
  pub performed : ArePerformed old asked.client asked.number parts bases candidates versions
  pub stored : new.versions ≡ old.versions ++ stored_of candidates versions parts

-- ---- a repair (Query/Update: inline repair, barriers and copies)

-- the plan of a target of class COPY, by what the replica's versions tell, of which it lacks none that the plan reads
pub record IsPlanned (state : ReplicaState) (asked : Asked) (target : ObjectId) (plan : CopyPlan) : Type 0 where
  pub copy : class_in state.keys.bounds asked.sets target ≡ Copy
  pub known : missing_of state (evidence_of state.keys.bounds asked.sets target) ≡ []
  pub is : plan_of state.keys.bounds asked.sets (linking_of state) target ≡ Ok plan

-- why a replica adds a candidate to an object that is mended with a target, and which version it stores with it
pub data IsRemedy (state : ReplicaState) (asked : Asked) (target object : ObjectId) (candidate : Candidate)
    : Option ObjState → Type 0 where
  -- it is shown a barrier
  inline_barrier : candidate.stamp.barrier ≡ true → IsFound state.keys.bounds asked object candidate
      → IsRemedy state asked target object candidate None
  -- it is shown a candidate without barrier, whose version it has already
  inline_method : (version : ObjState) → candidate.stamp.barrier ≡ false
      → IsFound state.keys.bounds asked object candidate
      → version_at object candidate.stamp state.versions ≡ Some version
      → IsRemedy state asked target object candidate None
  -- it sets a barrier
  barrier : candidate.stamp.barrier ≡ true
      → IsMade asked (shown_base state.keys.bounds asked object) (object ∷ []) object candidate
      → IsRemedy state asked target object candidate None
  -- it copies what is chosen there, on the objects of the target's plan, where a quorum holds the latest, a barrier
  copy : (latest : Candidate) (plan : CopyPlan) (before : ObjState) → candidate.stamp.barrier ≡ false
      → IsPlanned state asked target plan → Names plan.joint object
      → IsMade asked (chosen_on state.keys.bounds asked.sets (linking_of state) object) (objects_of plan.joint) object
      candidate
      → latest.stamp.barrier ≡ true → latest.stamp ≡ latest_of (entries_of object asked.sets)
      → quorum state.keys.bounds ≤ order_of latest (entries_of object asked.sets)
      → version_at object candidate.prior state.versions ≡ Some before
      → IsRemedy state asked target object candidate (Some (copied_state object candidate before))

-- the objects that are mended: those of a group together, or the target where there is none
abbrev pub MendsOn : ObjectId → List (ObjectId × ℕ) → ObjectId → Type 0
MendsOn target [] object = target ≡ object
MendsOn target (member ∷ later) object = Names (member ∷ later) object

abbrev pub mended_objects : ObjectId → List (ObjectId × ℕ) → List ObjectId
mended_objects target [] = target ∷ []
mended_objects target (member ∷ later) = objects_of (member ∷ later)

-- the versions that are stored with what is added to these objects
abbrev pub stored_mended : (ObjectId → Candidate) → (ObjectId → Option ObjState) → List ObjectId → List Stored
stored_mended candidates versions objects =
    flat_map (λ object. stored_if object (candidates object).stamp (versions object)) objects

-- it adds a candidate to each object that is mended, above all that it has there
pub record Mends (old new : ReplicaState) (asked : Asked) (target : ObjectId) (group : List (ObjectId × ℕ))
    (candidates : ObjectId → Candidate) : Type 0 where
  -- the sets have a quorum of entries of the object
  pub enough : (object : ObjectId) → MendsOn target group object
      → quorum old.keys.bounds ≤ length (entries_of object asked.sets)
  pub current : (object : ObjectId) → MendsOn target group object
      → is_below (latest_of (entries_of object asked.sets)) (own_latest old object) ≡ false
  pub above : (object : ObjectId) → MendsOn target group object
      → is_below (own_latest old object) (candidates object).stamp ≡ true
  -- what is added has this whole group, which lists the stamp of each
  pub whole : (object : ObjectId) → MendsOn target group object → (candidates object).group ≡ group
  pub listed : (object other : ObjectId) → Names group object → Names group other
      → member_on (candidates object) other ≡ Some (candidates other).stamp
  pub versions : ObjectId → Option ObjState
  pub remedy : (object : ObjectId) → MendsOn target group object
      → IsRemedy old asked target object (candidates object) (versions object)
  pub stored : new.versions ≡ old.versions ++ stored_mended candidates versions (mended_objects target group)

-- ---- what a request makes a replica accept

-- the objects on which candidates are accepted
abbrev pub AddsTo : Body → List (ObjectId × ℕ) → ObjectId → Type 0
AddsTo (body.Act parts) group object = Names parts object
AddsTo (body.Ask parts) group object = ⊥
AddsTo (body.Mend target) group object = MendsOn target group object

abbrev pub Reasons : ReplicaState → ReplicaState → Asked → Body → List (ObjectId × ℕ) → (ObjectId → Candidate)
    → Type 0
Reasons old new asked (body.Act parts) group candidates = Performs old new asked parts candidates
Reasons old new asked (body.Ask parts) group candidates = ⊥
Reasons old new asked (body.Mend target) group candidates = Mends old new asked target group candidates

-- upon a request, one candidate more on each object to which it adds, and the other objects as they were
pub record Accepts (old new : ReplicaState) (received : Frame) : Type 0 where
  pub client : ClientId
  pub number : ℕ
  pub round : ℕ
  -- the sets of the request, and what the replica keeps of them in culling
  pub sent : List SetOf
  pub sets : List SetOf
  pub culls : culled old.keys old.me sent ≡ sets
  pub asks : Body
  pub mac : List ℕ
  pub is_request : received ≡ frame.Request client number round sent asks mac
  -- the group whose objects are mended together, if there is one
  pub group : List (ObjectId × ℕ)
  pub candidates : ObjectId → Candidate
  pub added : (object : ObjectId) → AddsTo asks group object
      → own_candidates new object ≡ own_candidates old object ++ candidates object ∷ []
  pub others : (object : ObjectId) → (AddsTo asks group object → ⊥)
      → own_candidates new object ≡ own_candidates old object
  pub reasons : Reasons old new (asked_of client number sets asks) asks group candidates

-- at this event the replica at this place handles a request, upon which it accepts candidates
pub record IsMoved (trace : Trace) (at place : ℕ) (old new : ReplicaState) : Type 0 where
  pub handles : Handles trace at place old new
  pub accepts : Accepts handles.mid new handles.carried

-- the same, of an object on which it accepts a candidate
pub record IsDelivered (trace : Trace) (at place : ℕ) (old new : ReplicaState) (object : ObjectId) : Type 0 where
  pub handles : Handles trace at place old new
  pub accepts : Accepts handles.mid new handles.carried
  pub adds : AddsTo accepts.asks accepts.group object
