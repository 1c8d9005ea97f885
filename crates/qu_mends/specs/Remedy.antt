-- What is added to the history of an object that is mended, by its class (Query/Update: repair, inline repair).
use Rattle.std.specs.Prelude.{[], ℕ, Bool, true, false, ◌+◌, ◌≡◌, ◌≤◌, nat_lt, if◌then◌else◌, List, map, Option, None, Result, Ok, Err, is_none, option_map, IsSome}
use Rattle.std.specs.List.{list_all}
use Rattle.qu_base.specs.declared.party.ClientId.{ClientId}
use Rattle.qu_base.specs.declared.party.Digest.{Digest}
use Rattle.qu_base.specs.declared.party.ObjectId.{ObjectId}
use Rattle.qu_base.specs.Bounds.{repair}
use Rattle.qu_stamp.specs.declared.stamp.Stamp.{Stamp}
use Rattle.qu_stamp.specs.declared.limits.TheConstants.{LAST_TIME}
use Rattle.qu_stamp.specs.declared.candidate.Candidate.{Candidate}
use Rattle.qu_history.specs.declared.sets.SetOf.{SetOf}
use Rattle.qu_history.specs.History.{ObjectHistory}
use Rattle.qu_history.specs.Sets.{entries_of, order_of, latest_of, method_at}
use Rattle.qu_objects.specs.declared.state.ObjState.{ObjState}
use Rattle.qu_class.specs.declared.class.Class.{Class}
use Rattle.qu_class.specs.declared.class.Class.TheVariants.{Method, InlineMethod, Copy, InlineBarrier, Barrier, Needs}
use Rattle.qu_plan.specs.declared.plan.CopyPlan.{CopyPlan}
use Rattle.qu_plan.specs.declared.plan.PlanFail.{PlanFail}
use Rattle.qu_plan.specs.declared.plan.PlanFail.TheVariants as why
use Rattle.qu_class.specs.Class.{class_in}
use Rattle.qu_plan.specs.Copying.{plan_of}
use Rattle.qu_plan.specs.Linking.{Linking}
use Rattle.qu_class.specs.Repairable.{object_base}
use Rattle.qu_class.specs.Rows.{MayBeRepaired, IsGreatestOfKind}
use Rattle.qu_kept.specs.declared.course.Course.{Course}
use Rattle.qu_kept.specs.declared.remedy.Remedy.{Remedy}
use Rattle.qu_kept.specs.declared.remedy.Remedy.TheVariants.{Nothing, Shown, Fresh, Unshown, Unplanned, Outdated}
use Rattle.qu_kept.specs.Remedy.{alone, whole_group, joint_course, remedies_by, fresh_for, added_for, wanted_by}
use Rattle.qu_mends.specs.declared.mend.Mend.{Mend}

abbrev pub base_on : ℕ → List SetOf → ObjectId → Candidate
base_on bounds sets object = object_base bounds (entries_of object sets)

-- the object candidate of a member is added as it is
abbrev pub shown_member : ℕ → List SetOf → ObjectId × ℕ → ObjectId × Remedy
shown_member bounds sets member = (member.0, Shown (base_on bounds sets member.0))

-- what is added as it is, without barrier, is added with all members of its group
abbrev pub inline_course : ℕ → List SetOf → Candidate → Course
inline_course bounds sets candidate =
    record {
      remedy = Shown candidate;
      group = whole_group candidate.group;
      members = map (shown_member bounds sets) candidate.group;
    }

-- what is copied is copied on all objects of the plan
unfoldable pub copy_course : ObjectId → Result CopyPlan PlanFail → Course
copy_course target (Ok plan) = joint_course target plan.joint
copy_course target (Err (why.Stale other)) = alone (Outdated other)
copy_course target (Err (why.Needs other)) = alone (Unplanned other)
copy_course target (Err why.NoMemory) = alone (Unplanned target)

-- by the class of the object, and by the plan, if it is to be copied
unfoldable pub course_by : ℕ → List SetOf → ObjectId → Result CopyPlan PlanFail → Class → Course
course_by bounds sets target plan (Method candidate) = alone Nothing
course_by bounds sets target plan (InlineMethod candidate) = inline_course bounds sets candidate
course_by bounds sets target plan Copy = copy_course target plan
course_by bounds sets target plan (InlineBarrier candidate) = alone (Shown candidate)
course_by bounds sets target plan (Barrier prior) = alone (Fresh true prior)
course_by bounds sets target plan (Needs member) = alone (Unshown member)

unfoldable pub course_of : ℕ → List SetOf → Linking → ObjectId → Course
course_of bounds sets link target =
    course_by bounds sets target (plan_of bounds sets link target) (class_in bounds sets target)

-- the object has a time after the latest that the sets show of it
abbrev pub has_time : List SetOf → ObjectId × ℕ → Bool
has_time sets member = nat_lt (latest_of (entries_of member.0 sets)).time LAST_TIME

abbrev pub fresh_member : List SetOf → ObjectId × ℕ → ObjectId × ℕ
fresh_member sets member = (member.0, (latest_of (entries_of member.0 sets)).time + 1)

-- nothing is made together
abbrev pub none_made : List (ObjectId × ℕ)
none_made = []

-- the group of the candidates that are made on these objects together, where none would have a time after the last
abbrev pub made_group : List SetOf → List (ObjectId × ℕ) → List (ObjectId × ℕ)
made_group sets group = if list_all (has_time sets) group then map (fresh_member sets) group else none_made

-- a request to mend an object by this course, with what its culled sets say of it
abbrev pub mend_by : List SetOf → Digest → ObjectId → ClientId → Course → Mend
mend_by sets set target client course =
    record {
      target = target;
      client = client;
      set = set;
      latest = latest_of (entries_of target sets);
      remedy = course.remedy;
      remedies = remedies_by target course course.group;
      made = made_group sets course.group;
    }

abbrev pub mend_of : ℕ → List SetOf → Linking → Digest → ObjectId → ClientId → Mend
mend_of bounds sets link set target client = mend_by sets set target client (course_of bounds sets link target)

-- one of the objects that are mended, with the latest stamp that the sets show of it, and with the candidates and the
-- wanted version that the replica has
pub record MendPart : Type 0 where
  pub object : ObjectId
  pub latest : Stamp
  pub remedy : Remedy
  pub own : List Candidate
  pub version : Option ObjState

-- the candidate above all that the sets show, of which this stamp is the latest: a barrier or a copy
abbrev pub fresh_repair : Mend → Stamp → Bool → Stamp → Candidate
fresh_repair mend latest barrier prior = fresh_for mend.client mend.set mend.made latest barrier prior

-- the candidate that the remedy adds; none has a time after the last
abbrev pub addition_by : Mend → Stamp → Remedy → Option Candidate
addition_by mend latest remedy = added_for mend.client mend.set mend.made latest remedy

-- on the target
abbrev pub addition_of : Mend → Option Candidate
addition_of mend = addition_by mend mend.latest mend.remedy

abbrev pub part_addition : Mend → MendPart → Option Candidate
part_addition mend part = addition_by mend part.latest part.remedy

-- the wanted version that is missing, as a key
abbrev pub missing_key : MendPart → Option (ObjectId × Stamp)
missing_key part =
    if is_none part.version then option_map (λ (stamp : Stamp). (part.object, stamp)) (wanted_by part.remedy) else None

-- what is sound is of class METHOD; what is added is shown by as many as may repair, a barrier rests upon the object
-- candidate, and a copy upon one that as many show
abbrev pub IsGrounded : ℕ → List ObjectHistory → Remedy → Type 0
IsGrounded bounds entries Nothing = IsSome (method_at bounds entries)
IsGrounded bounds entries (Shown candidate) = repair bounds ≤ order_of candidate entries
IsGrounded bounds entries (Fresh true prior) =
    (base : Candidate) × IsGreatestOfKind bounds entries false base × (base.stamp ≡ prior)
IsGrounded bounds entries (Fresh false prior) =
    (chosen : Candidate) × MayBeRepaired bounds entries false chosen × (chosen.stamp ≡ prior)
IsGrounded bounds entries _ = Unit {0}
