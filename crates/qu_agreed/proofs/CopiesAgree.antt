-- Two replicas that copy on an object upon the same histories copy the same, where what both have of the versions that
-- their plans read is the same.
use Rattle.std.proofs.Common.{◌≡◌, ℕ, ◌+◌, ◌≤◌, false, not, cond, List, [], ◌∷◌, length, Option, None, Some, inl, inr, refl, sym, ap, subst, ◌∙◌, arith, Ok}
use Rattle.std.specs.Prelude.{is_some, map, option_and_then}
use Rattle.std.specs.List.{AllByRecursion}
use Rattle.std.proofs.lemmas.Bool.{false≢true}
use Rattle.std.proofs.lemmas.Option.{none-some, same_Some}
use Rattle.qu_base.specs.Bounds.{quorum}
use Rattle.qu_base.specs.declared.party.ObjectId.{ObjectId}
use Rattle.qu_stamp.specs.declared.stamp.Stamp.{Stamp}
use Rattle.qu_stamp.specs.declared.candidate.Candidate.{Candidate}
use Rattle.qu_history.specs.declared.sets.SetOf.{SetOf}
use Rattle.qu_history.specs.History.{ObjectHistory}
use Rattle.qu_history.specs.Sets.{entries_of, latest_of}
use Rattle.qu_objects.specs.declared.state.ObjState.{ObjState}
use Rattle.qu_kept.specs.Performing.{copied_state}
use Rattle.qu_versions.specs.Versions.{version_at}
use Rattle.qu_class.specs.declared.class.Class.TheVariants.{Copy}
use Rattle.qu_plan.specs.declared.plan.CopyPlan.{CopyPlan}
use Rattle.qu_plan.specs.Chosen.{chosen_on}
use Rattle.qu_class.specs.Class.{is_in_sets, class_in}
use Rattle.qu_plan.specs.Copying.{plan_of, Names}
use Rattle.qu_plan.specs.Evidence.{evidence_of, AreAlike}
use Rattle.qu_plan.specs.Linking.{Linking, link_in}
use Rattle.qu_class.proofs.ClassRows.{copy_has_quorum}
use Rattle.qu_plan.proofs.Copying.{IsCopied, plan_copies}
use Rattle.qu_class.proofs.GroupRule.{copy_is_own}
use Rattle.qu_plan.proofs.Agreeing.{IsTruePlan, DoAgree, plans_agree}
use Rattle.qu_rows.specs.Rows.{Asked, shown_of, fresh_stamp, fresh_group, objects_of, linking_of, missing_of}
use Rattle.qu_rows.specs.State.{ReplicaState}
use Rattle.qu_claims.specs.Grounds.{IsMade, IsRemedy}
use Rattle.qu_runs.proofs.Small.{same_candidate}

-- ---- what a copy is

-- the replica copied the candidate, by the plan of a target, upon the version of its prior
pub record IsCopyMade (bounds : ℕ) (state : ReplicaState) (asked : Asked) (object : ObjectId) (candidate : Candidate)
    : Type 0 where
  pub target : ObjectId
  pub plan : CopyPlan
  pub copy : class_in bounds asked.sets target ≡ Copy
  pub known : missing_of state (evidence_of bounds asked.sets target) ≡ []
  pub is : plan_of bounds asked.sets (linking_of state) target ≡ Ok plan
  pub names : Names plan.joint object
  pub plain : candidate.stamp.barrier ≡ false
  pub made : IsMade asked (chosen_on bounds asked.sets (linking_of state) object) (objects_of plan.joint) object
      candidate
  pub before : ObjState
  pub found : version_at object candidate.prior state.versions ≡ Some before

-- a version that is stored with what is added to an object that is mended is that of a copy
pub record StoresCopy (state : ReplicaState) (asked : Asked) (object : ObjectId) (candidate : Candidate)
    (version : ObjState) : Type 0 where
  pub copy : IsCopyMade state.keys.bounds state asked object candidate
  pub is : copied_state object candidate copy.before ≡ version

pub remedy_stores : (state : ReplicaState) (asked : Asked) (target object : ObjectId) (candidate : Candidate)
    (found : Option ObjState) → IsRemedy state asked target object candidate found → (version : ObjState)
    → found ≡ Some version → StoresCopy state asked object candidate version
remedy_stores state asked target object candidate found (IsRemedy.inline_barrier barrier shown) version is =
    absurd (none-some version is)
remedy_stores state asked target object candidate found (IsRemedy.inline_method own plain shown stored) version is =
    absurd (none-some version is)
remedy_stores state asked target object candidate found (IsRemedy.barrier barrier made) version is =
    absurd (none-some version is)
remedy_stores state asked target object candidate found
    (IsRemedy.copy latest plan before plain planned names made barrier is_latest full stored) version is = record {
      copy = record {
        target = target;
        plan = plan;
        copy = planned.copy;
        known = planned.known;
        is = planned.is;
        names = names;
        plain = plain;
        made = made;
        before = before;
        found = stored;
      };
      is = same_Some (copied_state object candidate before) version is;
    }

-- what a remedy makes without barrier, with a fresh time, is a copy
pub remedy_copies : (state : ReplicaState) (asked : Asked) (target object : ObjectId) (candidate : Candidate)
    (found : Option ObjState) → IsRemedy state asked target object candidate found
    → candidate.stamp.barrier ≡ false
    → candidate.stamp.time ≡ (latest_of (entries_of object asked.sets)).time + 1
    → IsCopyMade state.keys.bounds state asked object candidate
remedy_copies state asked target object candidate found (IsRemedy.inline_barrier barrier shown) plain fresh =
    absurd (false≢true (sym plain ∙ barrier))
remedy_copies state asked target object candidate found (IsRemedy.inline_method own kind shown stored) plain fresh =
    absurd (no_later _ (sym (ap (λ (it : Stamp). it.time) shown.latest) ∙ fresh))
  where
    no_later : (at : ℕ) → at ≡ at + 1 → ⊥
    no_later at same = omega (arith, same)
remedy_copies state asked target object candidate found (IsRemedy.barrier barrier made) plain fresh =
    absurd (false≢true (sym plain ∙ barrier))
remedy_copies state asked target object candidate found
    (IsRemedy.copy latest plan before kind planned names made barrier is_latest full stored) plain fresh = record {
      target = target;
      plan = plan;
      copy = planned.copy;
      known = planned.known;
      is = planned.is;
      names = names;
      plain = kind;
      made = made;
      before = before;
      found = stored;
    }

-- a quorum of histories shows the object of a copy
pub copied_class : (bounds : ℕ) (sets : List SetOf) (link : Linking) (joint : List (ObjectId × Candidate))
    → AllByRecursion (IsCopied bounds sets link) joint → (object : ObjectId) → Names joint object
    → class_in bounds sets object ≡ Copy
copied_class bounds sets link [] all object never = absurd never
copied_class bounds sets link (part ∷ later) all object (inl same) =
    subst (λ (it : ObjectId). class_in bounds sets it ≡ Copy) same (all.0).copy
copied_class bounds sets link (part ∷ later) all object (inr there) =
    copied_class bounds sets link later all.1 object there

pub copy_enough : (bounds : ℕ) (state : ReplicaState) (asked : Asked) (object : ObjectId) (candidate : Candidate)
    → IsCopyMade bounds state asked object candidate → quorum bounds ≤ length (entries_of object asked.sets)
copy_enough bounds state asked object candidate it =
    copy_has_quorum bounds (entries_of object asked.sets)
    (copy_is_own bounds asked.sets object
    (copied_class bounds asked.sets (linking_of state) (it.plan).joint
    (plan_copies bounds asked.sets (linking_of state) it.target it.plan it.copy it.is) object it.names))

-- ---- times of what is made together

abbrev times_of : Asked → List ObjectId → List (ObjectId × ℕ)
times_of asked objects = map (λ (object : ObjectId). (object, (fresh_stamp asked object).time)) objects

-- the same histories make the same times
fresh_times : (asked other : Asked) → ((object : ObjectId) → shown_of asked object ≡ shown_of other object)
    → (objects : List ObjectId) → times_of asked objects ≡ times_of other objects
fresh_times asked other alike [] = refl
fresh_times asked other alike (object ∷ later) =
    let with_time : List ObjectHistory → List (ObjectId × ℕ) → List (ObjectId × ℕ) =
    λ shown rest. (object, (latest_of shown).time + 1) ∷ rest in
    ap (λ (shown : List ObjectHistory). with_time shown (times_of asked later)) (alike object)
    ∙ ap (with_time (shown_of other object)) (fresh_times asked other alike later)

pub same_times : (asked other : Asked) → ((object : ObjectId) → shown_of asked object ≡ shown_of other object)
    → (objects : List ObjectId) → fresh_group asked objects ≡ fresh_group other objects
same_times asked other alike [] = refl
same_times asked other alike (object ∷ []) = refl
same_times asked other alike (first ∷ second ∷ later) = fresh_times asked other alike (first ∷ second ∷ later)

-- ---- two copies

-- whatever both have stored, they have the same
abbrev pub DoBothHold : ReplicaState → ReplicaState → Type 0
DoBothHold one two =
    (object : ObjectId) (stamp : Stamp) (version besides : ObjState)
    → version_at object stamp one.versions ≡ Some version → version_at object stamp two.versions ≡ Some besides
    → version ≡ besides

module _ (one two : ReplicaState) (agreed : DoBothHold one two) where
  -- what the versions of either tell
  abbrev told_by : Option ObjState → Option Stamp → ObjectId → Option Stamp
  told_by (Some version) elsewhere other = link_in version.links other
  told_by None elsewhere other = elsewhere

  abbrev truth : Linking
  truth object stamp other =
      told_by (version_at object stamp one.versions) (linking_of two object stamp other) other

  abbrev IsHere : ReplicaState → ObjectId × Stamp → Type 0
  IsHere state key = (version : ObjState) × (version_at key.0 key.1 state.versions ≡ Some version)

  -- none is missing
  all_here : (state : ReplicaState) (keys : List (ObjectId × Stamp)) → missing_of state keys ≡ []
      → AllByRecursion (IsHere state) keys
  all_here state [] none = tt
  all_here state (key ∷ later) none =
      by (version_at key.0 key.1 state.versions) refl none (λ rest. all_here state later rest)
    where
      by : (found : Option ObjState) → version_at key.0 key.1 state.versions ≡ found
          → cond (not (is_some found)) (key ∷ missing_of state later) (missing_of state later) ≡ []
          → (missing_of state later ≡ [] → AllByRecursion (IsHere state) later)
          → AllByRecursion (IsHere state) (key ∷ later)
      by None is given rest = absurd (omega (arith, ap length given))
      by (Some version) is given rest = ((version, is), rest given)

  alike_here : (keys : List (ObjectId × Stamp)) → AllByRecursion (IsHere one) keys
      → AreAlike (linking_of one) truth keys
  alike_here [] here = tt
  alike_here (key ∷ later) here =
      let version : ObjState = (here.0).0 in
      let is : version_at key.0 key.1 one.versions ≡ Some version = (here.0).1 in (
        λ other.
            ap (option_and_then (λ (it : ObjState). link_in it.links other)) is
            ∙ sym (ap (λ (found : Option ObjState). told_by found (linking_of two key.0 key.1 other) other) is),
        alike_here later here.1,
      )

  alike_there : (keys : List (ObjectId × Stamp)) → AllByRecursion (IsHere two) keys
      → AreAlike (linking_of two) truth keys
  alike_there [] there = tt
  alike_there (key ∷ later) there =
      let version : ObjState = (there.0).0 in
      let is : version_at key.0 key.1 two.versions ≡ Some version = (there.0).1 in (
        λ other. by other version is (version_at key.0 key.1 one.versions) refl,
        alike_there later there.1,
      )
    where
      by : (other : ObjectId) (version : ObjState) → version_at key.0 key.1 two.versions ≡ Some version
          → (found : Option ObjState) → version_at key.0 key.1 one.versions ≡ found
          → linking_of two key.0 key.1 other
          ≡ told_by (version_at key.0 key.1 one.versions) (linking_of two key.0 key.1 other) other
      by other version is None at =
          sym (ap (λ (it : Option ObjState). told_by it (linking_of two key.0 key.1 other) other) at)
      by other version is (Some own) at =
          ap (option_and_then (λ (it : ObjState). link_in it.links other)) is
          ∙ ap (λ (it : ObjState). link_in it.links other) (sym (agreed key.0 key.1 own version at is))
          ∙ sym (ap (λ (it : Option ObjState). told_by it (linking_of two key.0 key.1 other) other) at)

  module _ (bounds : ℕ) (asked besides : Asked)
      (alike : (object : ObjectId) → entries_of object asked.sets ≡ entries_of object besides.sets)
      (alike_in : (object : ObjectId) → is_in_sets asked.sets object ≡ is_in_sets besides.sets object)
      (object : ObjectId) (first second : Candidate) (it : IsCopyMade bounds one asked object first)
      (also : IsCopyMade bounds two besides object second) where
    here_plan : IsTruePlan bounds truth asked.sets (linking_of one) it.target it.plan
    here_plan = record {
      copy = it.copy;
      alike = alike_here (evidence_of bounds asked.sets it.target)
          (all_here one (evidence_of bounds asked.sets it.target) it.known);
      is = it.is;
    }

    there_plan : IsTruePlan bounds truth besides.sets (linking_of two) also.target also.plan
    there_plan = record {
      copy = also.copy;
      alike = alike_there (evidence_of bounds besides.sets also.target)
          (all_here two (evidence_of bounds besides.sets also.target) also.known);
      is = also.is;
    }

    do_agree : DoAgree bounds truth asked.sets besides.sets alike alike_in (linking_of one) (linking_of two) it.plan
        also.plan object
    do_agree =
        plans_agree bounds truth asked.sets besides.sets alike alike_in (linking_of one) (linking_of two) it.target
        also.target object it.plan also.plan here_plan there_plan it.names also.names

    pub same_prior : first.prior ≡ second.prior
    same_prior =
        (it.made).prior ∙ ap (λ (base : Candidate). base.stamp) do_agree.chosen ∙ sym (also.made).prior

    pub same_group : first.group ≡ second.group
    same_group =
        (it.made).group
        ∙ same_times asked besides alike (objects_of it.plan.joint)
        ∙ ap (λ (plan : CopyPlan). fresh_group besides (objects_of plan.joint)) do_agree.plans
        ∙ sym (also.made).group

    -- and so the versions that both store are one
    pub same_copies : first.stamp ≡ second.stamp
        → copied_state object first it.before ≡ copied_state object second also.before
    same_copies same =
        ap (λ (candidate : Candidate). copied_state object candidate it.before)
        (same_candidate first second same same_prior same_group)
        ∙ ap (copied_state object second)
        (agreed object first.prior it.before also.before it.found
        (ap (λ (prior : Stamp). version_at object prior two.versions) same_prior ∙ also.found))
