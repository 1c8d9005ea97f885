-- Why what a replica adds to an object that is mended is a remedy, by the class of the object.
use Rattle.std.proofs.Common.{◌≡◌, ◌==◌, ℕ, Bool, true, false, cond, List, [], ◌∷◌, map, Option, None, Some, Result, Ok, Err, inl, inr, refl, sym, subst, ap, ◌∙◌, arith, length, IsSome, ◌+◌, ◌≤◌}
use Rattle.std.specs.Prelude.{find, option_and_then, option_map}
use Rattle.std.specs.List.{AllByRecursion}
use Rattle.std.proofs.lemmas.Bool.{eqb-true}
use Rattle.std.proofs.lemmas.Option.{none-some, same_Some}
use Rattle.qu_base.specs.declared.party.Digest.{Digest}
use Rattle.qu_base.specs.declared.party.ObjectId.{ObjectId}
use Rattle.qu_stamp.specs.declared.stamp.Stamp.{Stamp}
use Rattle.qu_stamp.specs.declared.candidate.Candidate.{Candidate}
use Rattle.qu_stamp.specs.Group.{is_group}
use Rattle.qu_history.specs.History.{ObjectHistory}
use Rattle.qu_history.specs.Sets.{latest_of, entries_of, order_of}
use Rattle.qu_objects.specs.declared.state.ObjState.{ObjState}
use Rattle.qu_kept.specs.Performing.{copied_state}
use Rattle.qu_rows.specs.State.{ReplicaState}
use Rattle.qu_rows.specs.Rows.{Asked, linking_of, missing_of, evidence_for, mend_asked, wanted_version, fresh_group, objects_of}
use Rattle.qu_versions.specs.Versions.{version_at}
use Rattle.qu_claims.specs.Grounds.{shown_base, IsMade, IsPlanned, IsRemedy, made_stamp, IsFound}
use Rattle.qu_kept.specs.declared.course.Course.{Course}
use Rattle.qu_mends.specs.declared.mend.Mend.{Mend}
use Rattle.qu_kept.specs.declared.remedy.Remedy.TheVariants.{Shown, Fresh}
use Rattle.qu_kept.specs.Remedy.{whole_group, copied_at, copy_of, chosen_member, wanted_by}
use Rattle.qu_mends.specs.Remedy.{copy_course, course_by, fresh_repair as fresh_candidate}
use Rattle.qu_mends.specs.Causes.{MakesCandidate, AddsVersion}
use Rattle.qu_class.specs.declared.class.Class.{Class}
use Rattle.qu_class.specs.declared.class.Class.TheVariants as class
use Rattle.qu_plan.specs.declared.plan.CopyPlan.{CopyPlan}
use Rattle.qu_plan.specs.declared.plan.PlanFail.{PlanFail}
use Rattle.qu_plan.specs.declared.plan.PlanFail.TheVariants as why
use Rattle.qu_plan.specs.Chosen.{chosen_on}
use Rattle.qu_class.specs.Class.{is_copy, class_in}
use Rattle.qu_plan.specs.Evidence.{evidence_of}
use Rattle.qu_plan.specs.Copying.{plan_of, Names}
use Rattle.qu_plan.specs.Linking.{Linking}
use Rattle.qu_class.specs.Rows.{AreWellFormed, IsLatestOfKind}
use Rattle.qu_class.proofs.BaseOfClass.{barrier_has_base}
use Rattle.qu_plan.proofs.Copying.{IsCopied, plan_copies}
use Rattle.qu_class.proofs.GroupRule.{OwnTells}
use Rattle.qu_class.proofs.OfKind.{held_if_repairable}
use Rattle.qu_base.specs.Bounds.{quorum, repair}
use Rattle.qu_base.proofs.Numbered.{object_is}
use Rattle.qu_grounds.proofs.Formed.{AreGrouped}
use Rattle.qu_grounds.proofs.Planned.{plan_group}

module _ (state : ReplicaState) (asked : Asked) (target object : ObjectId) where
  abbrev entries : List ObjectHistory
  entries = entries_of object asked.sets

  abbrev bounds : ℕ
  bounds = state.keys.bounds

  abbrev link : Linking
  link = linking_of state

  abbrev chosen : Candidate
  chosen = chosen_on bounds asked.sets link object

  abbrev mend : Mend
  mend = mend_asked state asked target

  found_version : (found : Option ObjState) → IsSome found → (version : ObjState) × (found ≡ Some version)
  found_version None some = absurd (grind (arith, some))
  found_version (Some version) some = (version, refl)

  module _ (no_act : asked.act ≡ None) where
    -- a fresh candidate is made upon this base
    is_made : (base : Candidate) (objects : List ObjectId) (barrier : Bool) (candidate : Candidate)
        → candidate ≡ fresh_candidate mend (latest_of entries) barrier base.stamp
        → mend.made ≡ fresh_group asked objects → IsMade asked base objects object candidate
    is_made base objects barrier candidate is group =
        let stamp : candidate.stamp ≡ made_stamp asked object barrier =
        ap (λ (it : Candidate). it.stamp) is
        ∙ ap (λ (act : Option Digest). record {
          time = (latest_of entries).time + 1;
          barrier = barrier;
          client = asked.client;
          act = act;
          set = asked.set;
        }) (sym no_act) in
        record {
          stamp = stamp ∙ ap (made_stamp asked object) (sym (ap (λ (it : Stamp). it.barrier) stamp));
          prior = ap (λ (it : Candidate). it.prior) is;
          group = ap (λ (it : Candidate). it.group) is ∙ group;
        }

    is_fresh_kind : (barrier : Bool) (prior : Stamp) (candidate : Candidate)
        → candidate ≡ fresh_candidate mend (latest_of entries) barrier prior
        → candidate.stamp.barrier ≡ barrier
    is_fresh_kind barrier prior candidate is = ap (λ (it : Candidate). it.stamp.barrier) is

    wanted_copied : (prior : Stamp)
        → wanted_version state object (Fresh false prior) ≡ version_at object prior state.versions
    unfolding wanted_by
    wanted_copied prior = refl

    -- a copy of what is chosen, with those on the objects of the plan
    pub copied : (plan : CopyPlan) → IsPlanned state asked target plan → Names plan.joint object
        → (candidate latest : Candidate) (before : ObjState) (stored : Option ObjState)
        → candidate ≡ fresh_candidate mend (latest_of entries) false chosen.stamp
        → mend.made ≡ fresh_group asked (objects_of plan.joint)
        → IsLatestOfKind bounds entries true latest → quorum bounds ≤ order_of latest entries
        → wanted_version state object (Fresh false chosen.stamp) ≡ Some before
        → stored ≡ Some (copied_state object candidate before)
        → IsRemedy state asked target object candidate stored
    copied plan planned names candidate latest before stored is group of_kind full found stored_is =
        subst (IsRemedy state asked target object candidate) (sym stored_is)
        (IsRemedy.copy latest plan before (is_fresh_kind false _ candidate is) planned names
        (is_made chosen (objects_of plan.joint) false candidate is group)
        ((of_kind.greatest).repairable).kind of_kind.latest full
        (ap (λ (stamp : Stamp). version_at object stamp state.versions) (ap (λ (it : Candidate). it.prior) is)
        ∙ sym (wanted_copied chosen.stamp) ∙ found))

    found_so : (barrier : Bool) (candidate shown : Candidate) → candidate ≡ shown
        → IsLatestOfKind bounds entries barrier shown → IsFound bounds asked object candidate
    found_so barrier candidate shown is of_kind = record {
      latest = ap (λ (it : Candidate). it.stamp) is ∙ of_kind.latest;
      order = subst (λ (it : Candidate). repair bounds ≤ order_of it entries) (sym is)
          ((of_kind.greatest).repairable).order;
    }

    shown_kind : (barrier : Bool) (candidate shown : Candidate) → candidate ≡ shown
        → IsLatestOfKind bounds entries barrier shown → candidate.stamp.barrier ≡ barrier
    shown_kind barrier candidate shown is of_kind =
        ap (λ (it : Candidate). it.stamp.barrier) is ∙ ((of_kind.greatest).repairable).kind

    pub inlined : (candidate shown : Candidate) (found stored : Option ObjState) → candidate ≡ shown
        → IsLatestOfKind bounds entries false shown
        → version_at object shown.stamp state.versions ≡ found → IsSome found → stored ≡ None
        → IsRemedy state asked target object candidate stored
    inlined candidate shown found stored is of_kind found_is some stored_is =
        let version : (it : ObjState) × (found ≡ Some it) = found_version found some in
        subst (IsRemedy state asked target object candidate) (sym stored_is)
        (IsRemedy.inline_method version.0 (shown_kind false candidate shown is of_kind)
        (found_so false candidate shown is of_kind)
        (ap (λ (it : Candidate). version_at object it.stamp state.versions) is ∙ found_is ∙ version.1))

    -- the version that is wanted of a candidate without barrier
    pub wanted_plain : (shown : Candidate) → shown.stamp.barrier ≡ false
        → wanted_version state object (Shown shown) ≡ version_at object shown.stamp state.versions
    unfolding wanted_by
    wanted_plain shown plain =
        ap (λ (barrier : Bool). option_and_then (λ (stamp : Stamp). version_at object stamp state.versions)
        (cond barrier None (Some shown.stamp))) plain

-- what a plan rests upon is known
pub planned_of : (state : ReplicaState) (asked : Asked) (target : ObjectId)
    → missing_of state (evidence_for state asked target) ≡ [] → (plan : CopyPlan)
    → class_in state.keys.bounds asked.sets target ≡ class.Copy
    → plan_of state.keys.bounds asked.sets (linking_of state) target ≡ Ok plan → IsPlanned state asked target plan
planned_of state asked target ready plan copy is = record {
  copy = copy;
  known =
      subst (λ (it : Class). missing_of state (cond (is_copy it) (evidence_of state.keys.bounds asked.sets target) [])
      ≡ []) copy ready;
  is = is;
}

-- ---- what mends the target alone

-- a plan of one object makes no group
alone_fresh : (asked : Asked) (joint : List (ObjectId × Candidate))
    → ((first second : ObjectId × Candidate) (later : List (ObjectId × Candidate)) → joint ≡ first ∷ second ∷ later
    → is_group (map chosen_member joint) ≡ true)
    → whole_group (map chosen_member joint) ≡ [] → fresh_group asked (objects_of joint) ≡ []
alone_fresh asked [] whole none = refl
alone_fresh asked (part ∷ []) whole none = refl
alone_fresh asked (first ∷ second ∷ later) whole none =
    let members : List (ObjectId × ℕ) = map chosen_member (first ∷ second ∷ later) in
    let empty : members ≡ [] =
    sym (ap (λ (test : Bool). cond test members []) (whole first second later refl)) ∙ none in
    absurd (omega (arith, ap length empty))

module _ (state : ReplicaState) (asked : Asked) (target : ObjectId) (no_act : asked.act ≡ None) where
  abbrev alone_entries : List ObjectHistory
  alone_entries = entries_of target asked.sets

  abbrev alone_bounds : ℕ
  alone_bounds = state.keys.bounds

  abbrev alone_link : Linking
  alone_link = linking_of state

  abbrev alone_chosen : Candidate
  alone_chosen = chosen_on alone_bounds asked.sets alone_link target

  abbrev alone_mend : Mend
  alone_mend = mend_asked state asked target

  abbrev pub course_in : Class → Course
  course_in class =
      course_by alone_bounds asked.sets target (plan_of alone_bounds asked.sets alone_link target) class

  -- what the plan copies on the target is chosen there
  record IsFoundAt (joint : List (ObjectId × Candidate)) (found : Candidate) : Type 0 where
    names : Names joint target
    is_chosen : alone_chosen ≡ found

  found_at : (joint : List (ObjectId × Candidate))
      → AllByRecursion (IsCopied alone_bounds asked.sets alone_link) joint → (found : Candidate)
      → copied_at target joint ≡ Some found → IsFoundAt joint found
  found_at [] copied found is = absurd (none-some found is)
  found_at (part ∷ later) copied found is = by ((part.0).0 == target.0) refl is (found_at later copied.1 found)
    where
      by : (test : Bool) → ((part.0).0 == target.0) ≡ test
          → option_map (λ (it : ObjectId × Candidate). it.1)
          (cond test (Some part) (find (λ (it : ObjectId × Candidate). (it.0).0 == target.0) later)) ≡ Some found
          → (copied_at target later ≡ Some found → IsFoundAt later found) → IsFoundAt (part ∷ later) found
      by true here given rest =
          let same : part.0 ≡ target = object_is part.0 target (eqb-true (part.0).0 target.0 here) in
          record {
            names = inl same;
            is_chosen = ap (λ (it : ObjectId). chosen_on alone_bounds asked.sets alone_link it) (sym same)
                ∙ (copied.0).is_chosen ∙ same_Some part.1 found given;
          }
      by false elsewhere given rest =
          let it : IsFoundAt later found = rest given in record { names = inr it.names; is_chosen = it.is_chosen }

  module _ (ready : missing_of state (evidence_for state asked target) ≡ []) (latest : Candidate)
      (of_kind : IsLatestOfKind alone_bounds alone_entries true latest)
      (full : quorum alone_bounds ≤ order_of latest alone_entries) (whole : is_group alone_chosen.group ≡ true)
      (none : alone_mend.made ≡ []) (candidate : Candidate) (stored : Option ObjState) where
    copied_of : (plan : CopyPlan) → IsPlanned state asked target plan
        → whole_group (map chosen_member plan.joint) ≡ [] → (found : Option Candidate)
        → ((it : Candidate) → found ≡ Some it → IsFoundAt plan.joint it)
        → MakesCandidate alone_mend alone_mend.latest (copy_of target found) candidate
        → AddsVersion target candidate (copy_of target found) (wanted_version state target (copy_of target found))
        stored
        → IsRemedy state asked target target candidate stored
    copied_of plan is single None at never has = absurd never
    copied_of plan is single (Some base) at makes has =
        let it : IsFoundAt plan.joint base = at base refl in
        let same : base.stamp ≡ alone_chosen.stamp = ap (λ (one : Candidate). one.stamp) (sym it.is_chosen) in
        copied state asked target target no_act plan is it.names candidate latest has.0 stored
        (makes.0 ∙ ap (fresh_candidate alone_mend alone_mend.latest false) same)
        (none ∙ sym (alone_fresh asked plan.joint
        (plan_group alone_bounds asked.sets alone_link target plan is.is whole) single))
        of_kind full
        (ap (λ (stamp : Stamp). wanted_version state target (Fresh false stamp)) (sym same) ∙ has.1) has.2

    copied_by : class_in alone_bounds asked.sets target ≡ class.Copy → (plan : Result CopyPlan PlanFail)
        → plan_of alone_bounds asked.sets alone_link target ≡ plan → (copy_course target plan).group ≡ []
        → MakesCandidate alone_mend alone_mend.latest (copy_course target plan).remedy candidate
        → AddsVersion target candidate (copy_course target plan).remedy
        (wanted_version state target (copy_course target plan).remedy) stored
        → IsRemedy state asked target target candidate stored
    unfolding copy_course
    copied_by copy (Ok plan) is single makes has =
        copied_of plan (planned_of state asked target ready plan copy is) single (copied_at target plan.joint)
        (λ found given. found_at plan.joint (plan_copies alone_bounds asked.sets alone_link target plan copy is) found
        given) makes has
    copied_by copy (Err (why.Stale other)) is single never has = absurd never
    copied_by copy (Err (why.Needs other)) is single never has = absurd never
    copied_by copy (Err why.NoMemory) is single never has = absurd never

  -- what the class makes of the object
  pub remedy_is : missing_of state (evidence_for state asked target) ≡ [] → (class : Class)
      → class_in alone_bounds asked.sets target ≡ class
      → OwnTells alone_bounds asked.sets target class → is_group alone_chosen.group ≡ true
      → alone_mend.made ≡ [] → (course_in class).group ≡ [] → (candidate : Candidate) (stored : Option ObjState)
      → MakesCandidate alone_mend alone_mend.latest (course_in class).remedy candidate
      → AddsVersion target candidate (course_in class).remedy (wanted_version state target (course_in class).remedy)
      stored
      → IsRemedy state asked target target candidate stored
  unfolding course_by
  remedy_is ready (class.Method method) is tells whole none single candidate stored never has = absurd never
  remedy_is ready (class.InlineMethod shown) is tells whole none single candidate stored makes has =
      inlined state asked target target no_act candidate shown (wanted_version state target (Shown shown)) stored
      makes.0 tells.0
      (sym (wanted_plain state asked target target no_act shown (((tells.0).greatest).repairable).kind))
      (has.0 (((tells.0).greatest).repairable).kind) has.1
  remedy_is ready class.Copy is tells whole none single candidate stored makes has =
      copied_by ready tells.0 tells.1 tells.2 whole none candidate stored is
      (plan_of alone_bounds asked.sets alone_link target) refl single makes has
  remedy_is ready (class.InlineBarrier shown) is tells whole none single candidate stored makes has =
      subst (IsRemedy state asked target target candidate) (sym has.1)
      (IsRemedy.inline_barrier (shown_kind state asked target target no_act true candidate shown makes.0 tells.0)
      (found_so state asked target target no_act true candidate shown makes.0 tells.0))
  remedy_is ready (class.Barrier prior) is tells whole none single candidate stored makes has =
      let base : Candidate = shown_base alone_bounds asked target in
      let upon : prior ≡ base.stamp = barrier_has_base alone_bounds asked.sets target prior (sym is) in
      subst (IsRemedy state asked target target candidate) (sym has)
      (IsRemedy.barrier (is_fresh_kind state asked target target no_act true prior candidate makes.0)
      (is_made state asked target target no_act base (target ∷ []) true candidate
      (makes.0 ∙ ap (fresh_candidate alone_mend alone_mend.latest true) upon) none))
  remedy_is ready (class.Needs member) is tells whole none single candidate stored never has = absurd never

  -- what no group is added with stands alone
  copy_alone : (plan : Result CopyPlan PlanFail) (candidate : Candidate) → alone_mend.made ≡ []
      → MakesCandidate alone_mend alone_mend.latest (copy_course target plan).remedy candidate → candidate.group ≡ []
  unfolding copy_course
  copy_alone (Ok plan) candidate none makes = by (copied_at target plan.joint) makes
    where
      by : (found : Option Candidate) → MakesCandidate alone_mend alone_mend.latest (copy_of target found) candidate
          → candidate.group ≡ []
      by None never = absurd never
      by (Some base) makes = ap (λ (it : Candidate). it.group) makes.0 ∙ none
  copy_alone (Err (why.Stale other)) candidate none never = absurd never
  copy_alone (Err (why.Needs other)) candidate none never = absurd never
  copy_alone (Err why.NoMemory) candidate none never = absurd never

  pub adds_alone : (class : Class) → OwnTells alone_bounds asked.sets target class
      → AreWellFormed alone_bounds alone_entries → AreGrouped alone_entries
      → alone_mend.made ≡ [] → (course_in class).group ≡ [] → (candidate : Candidate)
      → MakesCandidate alone_mend alone_mend.latest (course_in class).remedy candidate
      → candidate.group ≡ []
  unfolding course_by
  adds_alone (class.Method method) tells formed grouped none single candidate never = absurd never
  adds_alone (class.InlineMethod shown) tells formed grouped none single candidate makes =
      ap (λ (it : Candidate). it.group) makes.0
      ∙ sym (ap (λ (test : Bool). cond test shown.group [])
      (grouped shown (held_if_repairable alone_bounds alone_entries formed shown
      (((tells.0).greatest).repairable).order)).whole) ∙ single
  adds_alone class.Copy tells formed grouped none single candidate makes =
      copy_alone (plan_of alone_bounds asked.sets alone_link target) candidate none makes
  adds_alone (class.InlineBarrier shown) tells formed grouped none single candidate makes =
      ap (λ (it : Candidate). it.group) makes.0
      ∙ (grouped shown (held_if_repairable alone_bounds alone_entries formed shown
      (((tells.0).greatest).repairable).order)).alone (((tells.0).greatest).repairable).kind
  adds_alone (class.Barrier prior) tells formed grouped none single candidate makes =
      ap (λ (it : Candidate). it.group) makes.0 ∙ none
  adds_alone (class.Needs member) tells formed grouped none single candidate never = absurd never
