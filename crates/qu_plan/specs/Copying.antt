-- The plan of a copy. What was accepted together is copied together, but for members that are decided already: so the
-- objects of a plan are those of the group of what is copied, and no other target has another plan of them.
use Rattle.std.specs.Prelude.{ℕ, Bool, not, ◌&&◌, ◌||◌, ◌≡◌, ◌⊎◌, if◌then◌else◌, List, [], ◌∷◌, find, filter_map, Option, None, Some, Result, Ok, Err}
use Rattle.std.specs.Option.{option_map}
use Rattle.qu_base.specs.declared.party.ObjectId.{ObjectId}
use Rattle.qu_stamp.specs.declared.stamp.Stamp.{Stamp}
use Rattle.qu_stamp.specs.declared.candidate.Candidate.{Candidate}
use Rattle.qu_history.specs.declared.sets.SetOf.{SetOf}
use Rattle.qu_history.specs.Sets.{entries_of, method_at}
use Rattle.qu_plan.specs.declared.plan.CopyPlan.{CopyPlan}
use Rattle.qu_plan.specs.declared.plan.PlanFail.{PlanFail}
use Rattle.qu_plan.specs.declared.plan.PlanFail.TheVariants.{Needs, Stale}
use Rattle.qu_plan.specs.Chosen.{chosen_on}
use Rattle.qu_class.specs.Class.{is_copy, listed_stamp, is_of_group, class_in}
use Rattle.qu_plan.specs.Linking.{Linking}
use Rattle.qu_plan.specs.Linked.{is_at, is_above}

-- the member's object may be copied with the candidate's: what is chosen there was accepted together with it
unfoldable pub is_joined : ℕ → List SetOf → Linking → Candidate → ObjectId × ℕ → Bool
is_joined bounds sets link candidate member =
    is_copy (class_in bounds sets member.0)
    && is_of_group (chosen_on bounds sets link member.0) (listed_stamp candidate member) candidate.group

-- ---- what the version of an object of class METHOD, if it is of that class, tells of the target

unfoldable pub link_from : Linking → ObjectId → ObjectId → Option Candidate → Option Stamp
link_from link target object None = None
link_from link target object (Some version) = link object version.stamp target

abbrev pub member_link : ℕ → List SetOf → Linking → ObjectId → ObjectId × ℕ → Option Stamp
member_link bounds sets link target member =
    link_from link target member.0 (method_at bounds (entries_of member.0 sets))

-- its last version that was made together with one of the target is this member: it is decided
abbrev pub is_covered : ℕ → List SetOf → Linking → ObjectId → Candidate → ObjectId × ℕ → Bool
is_covered bounds sets link target candidate member =
    is_at (listed_stamp candidate member) (member_link bounds sets link target member)

-- a later one was: the sets of the target are behind
abbrev pub is_stale : ℕ → List SetOf → Linking → ObjectId → Candidate → ObjectId × ℕ → Bool
is_stale bounds sets link target candidate member =
    is_above (listed_stamp candidate member) (member_link bounds sets link target member)

-- ---- the plan

abbrev pub is_outstanding : ℕ → List SetOf → Linking → ObjectId → Candidate → ObjectId × ℕ → Bool
is_outstanding bounds sets link target candidate member =
    not (is_joined bounds sets link candidate member || is_covered bounds sets link target candidate member)

unfoldable pub plan_fail_at : ℕ → List SetOf → Linking → ObjectId → Candidate → ObjectId × ℕ → PlanFail
plan_fail_at bounds sets link target candidate member =
    if is_stale bounds sets link target candidate member then Stale member.0 else Needs member.0

-- of the lowest member of the candidate's group that is neither copied with it nor decided
abbrev pub first_fail : ℕ → List SetOf → Linking → ObjectId → Candidate → Option PlanFail
first_fail bounds sets link target candidate =
    option_map (plan_fail_at bounds sets link target candidate)
    (find (is_outstanding bounds sets link target candidate) candidate.group)

-- an object with what is chosen there, if it joins
abbrev pub joint_part : ℕ → List SetOf → Linking → Candidate → ObjectId × ℕ → Option (ObjectId × Candidate)
joint_part bounds sets link candidate member =
    if is_joined bounds sets link candidate member then Some (member.0, chosen_on bounds sets link member.0) else None

-- the objects that are copied together, where this is copied on the target: those of its group that join
unfoldable pub joint_of : ℕ → List SetOf → Linking → ObjectId → Candidate → List (ObjectId × ℕ)
    → List (ObjectId × Candidate)
joint_of bounds sets link target candidate [] = (target, candidate) ∷ []
joint_of bounds sets link target candidate (member ∷ later) =
    filter_map (joint_part bounds sets link candidate) (member ∷ later)

-- of this candidate on the target
unfoldable pub plan_with : ℕ → List SetOf → Linking → ObjectId → Candidate → Option PlanFail → Result CopyPlan PlanFail
plan_with bounds sets link target candidate (Some why) = Err why
plan_with bounds sets link target candidate None =
    Ok (record { joint = joint_of bounds sets link target candidate candidate.group })

abbrev pub plan_by : ℕ → List SetOf → Linking → ObjectId → Candidate → Result CopyPlan PlanFail
plan_by bounds sets link target candidate =
    plan_with bounds sets link target candidate (first_fail bounds sets link target candidate)

-- what is chosen on the target is copied, with all that were accepted together with it and are not decided
unfoldable pub plan_of : ℕ → List SetOf → Linking → ObjectId → Result CopyPlan PlanFail
plan_of bounds sets link target = plan_by bounds sets link target (chosen_on bounds sets link target)

-- some part is on this object
abbrev pub Names : {X : Type 0} → List (ObjectId × X) → ObjectId → Type 0
Names [] object = ⊥
Names (part ∷ parts) object = (part.0 ≡ object) ⊎ Names parts object
