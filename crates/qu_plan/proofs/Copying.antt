-- What a plan copies, and that an object has no part in two plans.
use Rattle.std.proofs.Common.{◌≡◌, ◌⊎◌, ◌&&◌, ℕ, Bool, true, false, cond, List, [], ◌∷◌, find, Option, Some, None, Ok, Err, refl, sym, ap, subst, ◌∙◌, inl, inr}
use Rattle.std.specs.Prelude.{filter_map}
use Rattle.std.specs.List.{All, AllByRecursion, cons_option}
use Rattle.std.specs.Option.{option_map}
use Rattle.std.proofs.lemmas.Bool.{false≢true, and_parts}
use Rattle.std.proofs.lemmas.List.Elements.{recursion_from_All, All-from_recursion}
use Rattle.qu_base.specs.declared.party.ObjectId.{ObjectId}
use Rattle.qu_base.proofs.Items.{no_item}
use Rattle.qu_stamp.specs.declared.stamp.Stamp.{Stamp}
use Rattle.qu_stamp.specs.declared.candidate.Candidate.{Candidate}
use Rattle.qu_stamp.specs.Stamp.{same_stamp}
use Rattle.qu_stamp.specs.Group.{same_group}
use Rattle.qu_stamp.proofs.Groups.{decides_group}
use Rattle.qu_stamp.proofs.Order.{equal_by_same_stamp}
use Rattle.qu_history.specs.declared.sets.SetOf.{SetOf}
use Rattle.qu_history.specs.Sets.{entries_of}
use Rattle.qu_class.specs.declared.class.Class.{Class}
use Rattle.qu_class.specs.declared.class.Class.TheVariants.{Method, InlineMethod, Copy, InlineBarrier, Barrier, Needs as Wants}
use Rattle.qu_plan.specs.declared.plan.CopyPlan.{CopyPlan}
use Rattle.qu_plan.specs.declared.plan.PlanFail.{PlanFail}
use Rattle.qu_plan.specs.declared.plan.PlanFail.TheVariants.{Needs, Stale, NoMemory}
use Rattle.qu_plan.specs.Chosen.{chosen_on}
use Rattle.qu_class.specs.Class.{is_copy, listed_stamp, is_of_group, class_in}
use Rattle.qu_plan.specs.Copying.{is_joined, is_outstanding, plan_fail_at, is_stale, first_fail, joint_part, joint_of, plan_with, plan_by, plan_of, Names}
use Rattle.qu_plan.specs.Linking.{Linking}
use Rattle.qu_class.specs.Rows.{AreWellFormed, MayBeRepaired}
use Rattle.qu_plan.proofs.Chosen.{chosen_sound}
use Rattle.qu_class.proofs.ClassRows.{copy_has_quorum}
use Rattle.qu_class.proofs.GroupRule.{copy_is_own}

pub copy_class : (class : Class) → is_copy class ≡ true → class ≡ Copy
copy_class (Method candidate) test = absurd (false≢true test)
copy_class (InlineMethod candidate) test = absurd (false≢true test)
copy_class Copy test = refl
copy_class (InlineBarrier candidate) test = absurd (false≢true test)
copy_class (Barrier prior) test = absurd (false≢true test)
copy_class (Wants object) test = absurd (false≢true test)

-- the stamps that two candidates list are the same, if they are for one time
abbrev SameBut : Candidate → Candidate → Type 0
SameBut candidate other = (time : ℕ) → record candidate.stamp { time = time } ≡ record other.stamp { time = time }

same_but : (candidate other : Candidate) (one two : ℕ)
    → record candidate.stamp { time = one } ≡ record other.stamp { time = two } → SameBut candidate other
same_but candidate other one two same time = ap (λ (it : Stamp). record it { time = time }) same

module _ (bounds : ℕ) (sets : List SetOf) (link : Linking) where
  abbrev pub chosen : ObjectId → Candidate
  chosen object = chosen_on bounds sets link object

  -- what is chosen on the object was accepted together with the candidate
  pub record IsJoined (candidate : Candidate) (object : ObjectId) (base : Candidate) : Type 0 where
    pub is_chosen : chosen object ≡ base
    pub copy : class_in bounds sets object ≡ Copy
    pub time : ℕ
    pub stamp : base.stamp ≡ record candidate.stamp { time = time }
    pub group : base.group ≡ candidate.group

  pub joined_tells : (candidate : Candidate) (member : ObjectId × ℕ)
      → is_joined bounds sets link candidate member ≡ true
      → IsJoined candidate member.0 (chosen member.0)
  unfolding is_joined
  joined_tells candidate member test =
      let both = and_parts (is_copy (class_in bounds sets member.0))
      (is_of_group (chosen member.0) (listed_stamp candidate member) candidate.group) test in
      let base = and_parts (same_stamp (chosen member.0).stamp (listed_stamp candidate member))
      (same_group (chosen member.0).group candidate.group) both.1 in
      record {
        is_chosen = refl;
        copy = copy_class (class_in bounds sets member.0) both.0;
        time = member.1;
        stamp = equal_by_same_stamp (chosen member.0).stamp (listed_stamp candidate member) base.0;
        group = (decides_group (chosen member.0).group candidate.group).0 base.1;
      }

  abbrev AllJoined : Candidate → List (ObjectId × Candidate) → Type 0
  AllJoined candidate joint =
      AllByRecursion (λ (part : ObjectId × Candidate). IsJoined candidate part.0 part.1) joint

  parts_joined : (candidate : Candidate) (members : List (ObjectId × ℕ))
      → AllJoined candidate (filter_map (joint_part bounds sets link candidate) members)
  parts_joined candidate [] = tt
  parts_joined candidate (member ∷ later) =
      by (is_joined bounds sets link candidate member) refl (parts_joined candidate later)
    where
      by : (test : Bool) → is_joined bounds sets link candidate member ≡ test
          → AllJoined candidate (filter_map (joint_part bounds sets link candidate) later)
          → AllJoined candidate (cons_option (cond test (Some (member.0, chosen member.0)) None)
          (filter_map (joint_part bounds sets link candidate) later))
      by true is rest = (joined_tells candidate member is, rest)
      by false is rest = rest

  -- ---- a plan

  pub record IsPlan (target : ObjectId) (plan : CopyPlan) : Type 0 where
    pub none_left : first_fail bounds sets link target (chosen target) ≡ None
    pub joint : record { joint = joint_of bounds sets link target (chosen target) (chosen target).group } ≡ plan

  pub planned : (target : ObjectId) (candidate : Candidate) (why : Option PlanFail)
      → candidate ≡ chosen target → first_fail bounds sets link target candidate ≡ why
      → plan_of bounds sets link target ≡ plan_with bounds sets link target candidate why
  unfolding plan_of
  planned target candidate why is fails =
      ap (plan_by bounds sets link target) (sym is) ∙ ap (plan_with bounds sets link target candidate) fails

  pub planned_fail : (target : ObjectId) (candidate : Candidate) (why : PlanFail) → candidate ≡ chosen target
      → first_fail bounds sets link target candidate ≡ Some why → plan_of bounds sets link target ≡ Err why
  unfolding plan_with
  planned_fail target candidate why is fails = planned target candidate (Some why) is fails

  -- where a plan fails by why it is told that it does, unless memory is wanting
  pub told_fail : (target : ObjectId) (candidate : Candidate) (why told : PlanFail) → candidate ≡ chosen target
      → (why ≡ NoMemory) ⊎ (first_fail bounds sets link target candidate ≡ Some why) → why ≡ told
      → (told ≡ NoMemory → ⊥) → plan_of bounds sets link target ≡ Err told
  told_fail target candidate why told is (inl none) same other = absurd (other (sym same ∙ none))
  told_fail target candidate why told is (inr fails) same other =
      planned_fail target candidate why is fails ∙ ap (λ (it : PlanFail). Err it) same

  pub plan_made : (target : ObjectId) (candidate : Candidate) (joint : List (ObjectId × Candidate))
      → candidate ≡ chosen target → first_fail bounds sets link target candidate ≡ None
      → joint ≡ joint_of bounds sets link target candidate candidate.group
      → plan_of bounds sets link target ≡ Ok (record { joint = joint })
  unfolding plan_with
  plan_made target candidate joint is none made =
      planned target candidate None is none
      ∙ ap (λ (it : List (ObjectId × Candidate)). Ok (record { joint = it })) (sym made)

  pub is_plan : (target : ObjectId) (plan : CopyPlan) → plan_of bounds sets link target ≡ Ok plan → IsPlan target plan
  unfolding plan_with
  is_plan target plan is =
      by (first_fail bounds sets link target (chosen target)) refl
      (sym (planned target (chosen target) (first_fail bounds sets link target (chosen target)) refl refl) ∙ is)
    where
      by : (found : Option PlanFail) → first_fail bounds sets link target (chosen target) ≡ found
          → plan_with bounds sets link target (chosen target) found ≡ Ok plan → IsPlan target plan
      by (Some why) fails given = absurd cc
      by None none given = record { none_left = none; joint = cc }

  -- ---- what is copied together has one group

  -- an object of the list, with what is copied there: the target alone, or what joined
  pub data IsPart (target : ObjectId) (candidate : Candidate) (object : ObjectId) : Type 0 where
    alone : candidate.group ≡ [] → target ≡ object → IsPart target candidate object
    joined : (member : ObjectId × ℕ) (later : List (ObjectId × ℕ)) → candidate.group ≡ member ∷ later
        → IsJoined candidate object (chosen object) → IsPart target candidate object

  copied_joined : (candidate : Candidate) (joint : List (ObjectId × Candidate)) → AllJoined candidate joint
      → (object : ObjectId) → Names joint object → IsJoined candidate object (chosen object)
  copied_joined candidate [] all object none = absurd none
  copied_joined candidate (part ∷ later) all object (inl same) =
      subst (λ (it : ObjectId). IsJoined candidate it (chosen it)) same
      (subst (IsJoined candidate part.0) (sym (all.0).is_chosen) all.0)
  copied_joined candidate (part ∷ later) all object (inr there) = copied_joined candidate later all.1 object there

  part_of : (target : ObjectId) (candidate : Candidate) (members : List (ObjectId × ℕ)) → candidate.group ≡ members
      → (object : ObjectId) → Names (joint_of bounds sets link target candidate members) object
      → IsPart target candidate object
  unfolding joint_of
  part_of target candidate [] is object (inl same) = IsPart.alone is same
  part_of target candidate [] is object (inr none) = absurd none
  part_of target candidate (member ∷ later) is object copies =
      IsPart.joined member later is (copied_joined candidate
      (filter_map (joint_part bounds sets link candidate) (member ∷ later))
      (parts_joined candidate (member ∷ later)) object copies)

  -- ---- so plans that share an object are one

  part_same : (candidate other : Candidate) → SameBut candidate other → candidate.group ≡ other.group
      → (member : ObjectId × ℕ)
      → joint_part bounds sets link candidate member ≡ joint_part bounds sets link other member
  unfolding is_joined
  part_same candidate other alike groups member =
      ap (λ (stamp : Stamp). cond (is_copy (class_in bounds sets member.0)
      && is_of_group (chosen member.0) stamp candidate.group) (Some (member.0, chosen member.0)) None)
      (alike member.1)
      ∙ ap (λ (group : List (ObjectId × ℕ)). cond (is_copy (class_in bounds sets member.0)
      && is_of_group (chosen member.0) (listed_stamp other member) group) (Some (member.0, chosen member.0)) None)
      groups

  parts_same : (candidate other : Candidate) → SameBut candidate other → candidate.group ≡ other.group
      → (members : List (ObjectId × ℕ))
      → filter_map (joint_part bounds sets link candidate) members
      ≡ filter_map (joint_part bounds sets link other) members
  parts_same candidate other alike groups [] = refl
  parts_same candidate other alike groups (member ∷ later) =
      ap (λ (it : Option (ObjectId × Candidate)). cons_option it
      (filter_map (joint_part bounds sets link candidate) later)) (part_same candidate other alike groups member)
      ∙ ap (λ (rest : List (ObjectId × Candidate)). cons_option (joint_part bounds sets link other member) rest)
      (parts_same candidate other alike groups later)

  -- what is copied alone has no group, and what joins has one
  none_joins : (target second object : ObjectId) (member : ObjectId × ℕ) (later : List (ObjectId × ℕ))
      → (chosen target).group ≡ [] → target ≡ object → (chosen second).group ≡ member ∷ later
      → IsJoined (chosen second) object (chosen object) → ⊥
  none_joins target second object member later none same is it =
      no_item member later (sym none ∙ ap (λ (one : ObjectId). (chosen one).group) same ∙ it.group ∙ is)

  -- where an object is in both lists, they are one
  lists_same : (target second object : ObjectId) → IsPart target (chosen target) object
      → IsPart second (chosen second) object
      → joint_of bounds sets link target (chosen target) (chosen target).group
      ≡ joint_of bounds sets link second (chosen second) (chosen second).group
  unfolding joint_of
  lists_same target second object (IsPart.alone none same) (IsPart.alone also again) =
      ap (λ (it : ObjectId). joint_of bounds sets link it (chosen it) (chosen it).group) (same ∙ sym again)
  lists_same target second object (IsPart.alone none same) (IsPart.joined member later is it) =
      absurd (none_joins target second object member later none same is it)
  lists_same target second object (IsPart.joined member later is it) (IsPart.alone none same) =
      absurd (none_joins second target object member later none same is it)
  lists_same target second object (IsPart.joined member later is it) (IsPart.joined other more also its) =
      let alike : SameBut (chosen target) (chosen second) =
      same_but (chosen target) (chosen second) it.time its.time (sym it.stamp ∙ its.stamp) in
      let groups : (chosen target).group ≡ (chosen second).group = sym it.group ∙ its.group in
      ap (joint_of bounds sets link target (chosen target)) is
      ∙ parts_same (chosen target) (chosen second) alike groups (member ∷ later)
      ∙ ap (joint_of bounds sets link second (chosen second)) (sym is ∙ groups)

  abbrev pub IsOnePlan : CopyPlan → Type 0
  IsOnePlan plan =
      (other object : ObjectId) (besides : CopyPlan) → plan_of bounds sets link other ≡ Ok besides
      → Names plan.joint object → Names besides.joint object → plan ≡ besides

  pub one_plan : (target : ObjectId) (plan : CopyPlan) → plan_of bounds sets link target ≡ Ok plan → IsOnePlan plan
  one_plan target plan is other object besides also here there =
      let one : IsPlan target plan = is_plan target plan is in
      let two : IsPlan other besides = is_plan other besides also in
      sym one.joint
      ∙ ap (λ (joint : List (ObjectId × Candidate)). record { joint = joint })
      (lists_same target other object
      (part_of target (chosen target) (chosen target).group refl object
      (subst (λ (it : CopyPlan). Names it.joint object) (sym one.joint) here))
      (part_of other (chosen other) (chosen other).group refl object
      (subst (λ (it : CopyPlan). Names it.joint object) (sym two.joint) there)))
      ∙ two.joint

  -- ---- and all that they copy may be repaired

  abbrev pub IsFormed : ObjectId × Candidate → Type 0
  IsFormed part = AreWellFormed bounds (entries_of part.0 sets)

  abbrev pub IsSound : ObjectId × Candidate → Type 0
  IsSound part = MayBeRepaired bounds (entries_of part.0 sets) false part.1

  chosen_may : (object : ObjectId) → AreWellFormed bounds (entries_of object sets) → class_in bounds sets object ≡ Copy
      → MayBeRepaired bounds (entries_of object sets) false (chosen object)
  chosen_may object formed copy =
      chosen_sound bounds sets link object formed
      (copy_has_quorum bounds (entries_of object sets) (copy_is_own bounds sets object copy))

  -- an object that is copied is of class COPY, and what is chosen there is copied
  pub record IsCopied (part : ObjectId × Candidate) : Type 0 where
    pub copy : class_in bounds sets part.0 ≡ Copy
    pub is_chosen : chosen part.0 ≡ part.1

  joined_copied : (candidate : Candidate) (joint : List (ObjectId × Candidate)) → AllJoined candidate joint
      → AllByRecursion IsCopied joint
  joined_copied candidate [] all = tt
  joined_copied candidate (part ∷ later) all =
      (record { copy = (all.0).copy; is_chosen = (all.0).is_chosen }, joined_copied candidate later all.1)

  joint_copied : (target : ObjectId) → class_in bounds sets target ≡ Copy → (members : List (ObjectId × ℕ))
      → AllByRecursion IsCopied (joint_of bounds sets link target (chosen target) members)
  unfolding joint_of
  joint_copied target copy [] = (record { copy = copy; is_chosen = refl }, tt)
  joint_copied target copy (member ∷ later) =
      joined_copied (chosen target) (filter_map (joint_part bounds sets link (chosen target)) (member ∷ later))
      (parts_joined (chosen target) (member ∷ later))

  pub plan_copies : (target : ObjectId) (plan : CopyPlan) → class_in bounds sets target ≡ Copy
      → plan_of bounds sets link target ≡ Ok plan → AllByRecursion IsCopied plan.joint
  plan_copies target plan copy is =
      let it : IsPlan target plan = is_plan target plan is in
      subst (λ (one : CopyPlan). AllByRecursion IsCopied one.joint) it.joint
      (joint_copied target copy (chosen target).group)

  copied_sound : (joint : List (ObjectId × Candidate)) → AllByRecursion IsCopied joint
      → AllByRecursion IsFormed joint → AllByRecursion IsSound joint
  copied_sound [] copied formed = tt
  copied_sound (part ∷ later) copied formed = (
    subst (MayBeRepaired bounds (entries_of part.0 sets) false) (copied.0).is_chosen
        (chosen_may part.0 formed.0 (copied.0).copy),
    copied_sound later copied.1 formed.1,
  )

  pub plan_sound : (target : ObjectId) (plan : CopyPlan) → class_in bounds sets target ≡ Copy
      → plan_of bounds sets link target ≡ Ok plan → All IsFormed plan.joint → All IsSound plan.joint
  plan_sound target plan copy is formed =
      All-from_recursion IsSound plan.joint
      (copied_sound plan.joint (plan_copies target plan copy is) (recursion_from_All IsFormed plan.joint formed))

  -- ---- why there is no plan

  -- a member of the group of what is chosen on the target is left
  pub record IsFailed (target : ObjectId) (why : PlanFail) : Type 0 where
    pub member : ObjectId × ℕ
    pub left : find (is_outstanding bounds sets link target (chosen target)) (chosen target).group ≡ Some member
    pub is : (why ≡ Needs member.0) ⊎ (why ≡ Stale member.0)

  fail_cases : (test : Bool) (object : ObjectId) (why : PlanFail) → cond test (Stale object) (Needs object) ≡ why
      → (why ≡ Needs object) ⊎ (why ≡ Stale object)
  fail_cases true object why is = inr (sym is)
  fail_cases false object why is = inl (sym is)

  pub failed_tells : (target : ObjectId) (why : PlanFail) → plan_of bounds sets link target ≡ Err why
      → IsFailed target why
  unfolding plan_with plan_fail_at
  failed_tells target why is =
      by (find (is_outstanding bounds sets link target (chosen target)) (chosen target).group) refl
      (sym (planned target (chosen target) (first_fail bounds sets link target (chosen target)) refl refl) ∙ is)
    where
      by : (found : Option (ObjectId × ℕ))
          → find (is_outstanding bounds sets link target (chosen target)) (chosen target).group ≡ found
          → plan_with bounds sets link target (chosen target)
          (option_map (plan_fail_at bounds sets link target (chosen target)) found) ≡ Err why → IsFailed target why
      by None none given = absurd cc
      by (Some member) left given = record {
        member = member;
        left = left;
        is = fail_cases (is_stale bounds sets link target (chosen target) member) member.0 why cc;
      }
