-- What a plan tells of the objects that it copies: what is chosen on each joins the target's, and what is left out is
-- covered.
use Rattle.std.proofs.Common.{◌≡◌, ◌⊎◌, ◌&&◌, ◌||◌, ℕ, Bool, true, false, cond, List, [], ◌∷◌, find, length, Option, Some, None, Ok, refl, sym, ap, subst, ◌∙◌, inl, inr}
use Rattle.std.specs.Prelude.{◌==◌, filter_map, option_map}
use Rattle.std.specs.List.{cons_option, list_any}
use Rattle.std.proofs.lemmas.Bool.{false≢true, and_parts, and_from, or_cases, or_left, or_right, not-false, eq-eqb}
use Rattle.std.proofs.lemmas.Option.{none-some, same_Some}
use Rattle.qu_base.specs.declared.party.ObjectId.{ObjectId}
use Rattle.qu_base.proofs.Numbered.{tested_object}
use Rattle.qu_stamp.specs.declared.stamp.Stamp.{Stamp}
use Rattle.qu_stamp.specs.declared.candidate.Candidate.{Candidate}
use Rattle.qu_stamp.specs.Stamp.{same_stamp}
use Rattle.qu_stamp.specs.Candidate.{same, member as member_on}
use Rattle.qu_stamp.specs.Group.{is_group_size, are_members_from, is_group, same_group, listed_time}
use Rattle.qu_stamp.proofs.Groups.{decides_group, alone_has_no_member}
use Rattle.qu_stamp.proofs.Order.{equal_by_same_stamp}
use Rattle.qu_history.specs.declared.sets.SetOf.{SetOf}
use Rattle.qu_history.specs.Sets.{entries_of, method_at}
use Rattle.qu_class.specs.declared.class.Class.TheVariants.{Copy}
use Rattle.qu_plan.specs.declared.plan.CopyPlan.{CopyPlan}
use Rattle.qu_plan.specs.Chosen.{chosen_on}
use Rattle.qu_class.specs.Class.{is_copy, listed_stamp, is_of_group, class_in}
use Rattle.qu_plan.specs.Linked.{is_at}
use Rattle.qu_plan.specs.Copying.{is_joined, link_from, is_covered, is_outstanding, plan_fail_at, joint_part, joint_of, plan_of, Names}
use Rattle.qu_plan.specs.Beside.{reads, is_seen}
use Rattle.qu_plan.specs.Linking.{Linking}
use Rattle.qu_plan.proofs.Chosen.{chosen_reads}
use Rattle.qu_plan.proofs.Copying.{is_plan, plan_copies}
use Rattle.qu_rows.proofs.Allowed.{unmapped}
use Rattle.qu_grounds.proofs.Together.{time_in, time_is, listed_named, IsMemberAt, member_at, member_is}
use Rattle.qu_claims.specs.Setting.{Apart}
use Rattle.qu_agreed.proofs.CopiesAgree.{copied_class}
use Rattle.qu_laws.proofs.SetsTell.{is_on, names_more, names_any, IsPicked, picked, none_at}

-- ---- the objects of a plan

module _ (bounds : ℕ) (sets : List SetOf) (link : Linking) where
  abbrev chosen : ObjectId → Candidate
  chosen object = chosen_on bounds sets link object

  -- what is chosen there is the member of the candidate's group, with this whole group
  pub record IsJoinedAt (candidate : Candidate) (object : ObjectId) : Type 0 where
    pub time : ℕ
    pub listed : listed_time object candidate.group ≡ Some time
    pub stamp : (chosen object).stamp ≡ record candidate.stamp { time = time }
    pub group : (chosen object).group ≡ candidate.group

  abbrev joins_on : Candidate → ObjectId → ObjectId × ℕ → Bool
  joins_on candidate object member = is_joined bounds sets link candidate member && (member.0).0 == object.0

  joined_any : (candidate : Candidate) (object : ObjectId) (members : List (ObjectId × ℕ))
      → Names (filter_map (joint_part bounds sets link candidate) members) object
      → list_any (joins_on candidate object) members ≡ true
  joined_any candidate object [] none = absurd none
  joined_any candidate object (member ∷ later) names =
      by (is_joined bounds sets link candidate member) names (joined_any candidate object later)
    where
      by : (test : Bool)
          → Names (cons_option (cond test (Some (member.0, chosen member.0)) None)
          (filter_map (joint_part bounds sets link candidate) later)) object
          → (Names (filter_map (joint_part bounds sets link candidate) later) object
          → list_any (joins_on candidate object) later ≡ true)
          → ((test && (member.0).0 == object.0) || list_any (joins_on candidate object) later) ≡ true
      by true (inl same) rest =
          or_left ((member.0).0 == object.0) (list_any (joins_on candidate object) later)
          (eq-eqb (member.0).0 object.0 (ap (λ (it : ObjectId). it.0) same))
      by true (inr there) rest =
          or_right ((member.0).0 == object.0) (list_any (joins_on candidate object) later) (rest there)
      by false there rest = rest there

  joined_at : (candidate : Candidate) (members : List (ObjectId × ℕ)) → candidate.group ≡ members
      → are_members_from 0 members ≡ true → (object : ObjectId)
      → Names (filter_map (joint_part bounds sets link candidate) members) object → IsJoinedAt candidate object
  unfolding is_joined
  joined_at candidate members is rise object names =
      let it : IsPicked (joins_on candidate object) members =
      picked (joins_on candidate object) 0 members rise (joined_any candidate object members names) in
      let both = and_parts (is_joined bounds sets link candidate it.member) ((it.member.0).0 == object.0) it.passes in
      let same : it.member.0 ≡ object = tested_object it.member.0 object both.1 in
      let joins = and_parts (is_copy (class_in bounds sets it.member.0))
      (is_of_group (chosen it.member.0) (listed_stamp candidate it.member) candidate.group) both.0 in
      let parts = and_parts (same_stamp (chosen it.member.0).stamp (listed_stamp candidate it.member))
      (same_group (chosen it.member.0).group candidate.group) joins.1 in
      subst (IsJoinedAt candidate) same (record {
        time = it.member.1;
        listed = ap (listed_time it.member.0) is ∙ time_is it.member.0 members ∙ it.listed;
        stamp = equal_by_same_stamp (chosen it.member.0).stamp (listed_stamp candidate it.member) parts.0;
        group = (decides_group (chosen it.member.0).group candidate.group).0 parts.1;
      })

  -- the target alone, or an object of its group
  pub data IsPlannedOn (target object : ObjectId) : Type 0 where
    alone : (chosen target).group ≡ [] → target ≡ object → IsPlannedOn target object
    joined : IsJoinedAt (chosen target) object → IsPlannedOn target object

  part_on : (target : ObjectId) (members : List (ObjectId × ℕ)) → (chosen target).group ≡ members
      → are_members_from 0 members ≡ true → (object : ObjectId)
      → Names (joint_of bounds sets link target (chosen target) members) object → IsPlannedOn target object
  unfolding joint_of
  part_on target [] is rise object (inl same) = IsPlannedOn.alone is same
  part_on target [] is rise object (inr none) = absurd none
  part_on target (member ∷ later) is rise object names =
      IsPlannedOn.joined (joined_at (chosen target) (member ∷ later) is rise object names)

  joint_is : (target : ObjectId) (plan : CopyPlan) → plan_of bounds sets link target ≡ Ok plan
      → joint_of bounds sets link target (chosen target) (chosen target).group ≡ plan.joint
  joint_is target plan is = ap (λ (it : CopyPlan). it.joint) (is_plan bounds sets link target plan is).joint

  pub named_planned : (target : ObjectId) (plan : CopyPlan) → plan_of bounds sets link target ≡ Ok plan
      → is_group (chosen target).group ≡ true → (object : ObjectId) → Names plan.joint object
      → IsPlannedOn target object
  unfolding is_group
  named_planned target plan is whole object names =
      part_on target (chosen target).group refl
      (and_parts (is_group_size (length (chosen target).group)) (are_members_from 0 (chosen target).group) whole).1
      object
      (subst (λ (joint : List (ObjectId × Candidate)). Names joint object) (sym (joint_is target plan is)) names)

  pub planned_copy : (target : ObjectId) (plan : CopyPlan) → class_in bounds sets target ≡ Copy
      → plan_of bounds sets link target ≡ Ok plan → (object : ObjectId) → Names plan.joint object
      → class_in bounds sets object ≡ Copy
  planned_copy target plan copy is object names =
      copied_class bounds sets link plan.joint (plan_copies bounds sets link target plan copy is) object names

  -- what they chose is seen
  pub planned_seen : (target object : ObjectId) → class_in bounds sets object ≡ Copy → IsPlannedOn target object
      → is_seen bounds sets target object ≡ true
  planned_seen target object copy (IsPlannedOn.alone none same) =
      or_left (target.0 == object.0) (is_copy (class_in bounds sets object) && reads bounds sets target object)
      (eq-eqb target.0 object.0 (ap (λ (it : ObjectId). it.0) same))
  planned_seen target object copy (IsPlannedOn.joined it) =
      or_right (target.0 == object.0) (is_copy (class_in bounds sets object) && reads bounds sets target object)
      (and_from (is_copy (class_in bounds sets object)) (reads bounds sets target object) (ap is_copy copy)
      (chosen_reads bounds sets link target object
      (names_any (chosen target).group object (listed_named (chosen target).group object it.time it.listed))))

  -- the group of what is chosen on one lists what is chosen on another
  pub planned_joined : (target object other : ObjectId) → IsPlannedOn target object → IsPlannedOn target other
      → Apart object other → member_on (chosen object) other ≡ Some (chosen other).stamp
  planned_joined target object other (IsPlannedOn.alone none same) (IsPlannedOn.alone also again) apart =
      absurd (apart (ap (λ (it : ObjectId). it.0) (sym same ∙ again)))
  planned_joined target object other (IsPlannedOn.alone none same) (IsPlannedOn.joined it) apart =
      absurd (listed_named [] other it.time (ap (listed_time other) (sym none) ∙ it.listed))
  planned_joined target object other (IsPlannedOn.joined it) (IsPlannedOn.alone none same) apart =
      absurd (listed_named [] object it.time (ap (listed_time object) (sym none) ∙ it.listed))
  planned_joined target object other (IsPlannedOn.joined it) (IsPlannedOn.joined its) apart =
      member_is (chosen object) (record (chosen target).stamp { time = it.time }) (chosen target).group other
      its.time it.stamp it.group its.listed
      ∙ ap (λ (stamp : Stamp). Some stamp) (sym its.stamp)

  -- ---- what is left out is covered

  -- the version there keeps the member's stamp for the target
  pub record IsCoveredAt (target other : ObjectId) (stamp : Stamp) : Type 0 where
    pub version : Candidate
    pub is_method : method_at bounds (entries_of other sets) ≡ Some version
    pub is_link : link other version.stamp target ≡ Some stamp

  joins_named : (candidate : Candidate) (members : List (ObjectId × ℕ)) (object : ObjectId) (time : ℕ)
      → time_in object members ≡ Some time → is_joined bounds sets link candidate (object, time) ≡ true
      → Names (filter_map (joint_part bounds sets link candidate) members) object
  joins_named candidate [] object time listed joins = absurd (none-some time listed)
  joins_named candidate (member ∷ later) object time listed joins =
      by ((member.0).0 == object.0) refl listed (λ behind_it. joins_named candidate later object time behind_it joins)
    where
      by : (here : Bool) → ((member.0).0 == object.0) ≡ here
          → option_map (λ (it : ObjectId × ℕ). it.1) (cond here (Some member) (find (is_on object) later)) ≡ Some time
          → (time_in object later ≡ Some time
          → Names (filter_map (joint_part bounds sets link candidate) later) object)
          → Names (cons_option (joint_part bounds sets link candidate member)
          (filter_map (joint_part bounds sets link candidate) later)) object
      by true is given rest =
          let same : member.0 ≡ object = tested_object member.0 object is in
          let times : member.1 ≡ time = same_Some member.1 time given in
          let pair : member ≡ (object, time) = λ i. (same i, times i) in
          subst (λ (test : Bool). Names (cons_option (cond test (Some (member.0, chosen member.0)) None)
          (filter_map (joint_part bounds sets link candidate) later)) object)
          (sym (ap (is_joined bounds sets link candidate) pair ∙ joins)) (inl same)
      by false is given rest =
          names_more (joint_part bounds sets link candidate member)
          (filter_map (joint_part bounds sets link candidate) later) object (rest given)

  joint_named : (target : ObjectId) (candidate : Candidate) (members : List (ObjectId × ℕ)) (object : ObjectId)
      (time : ℕ) → time_in object members ≡ Some time
      → Names (filter_map (joint_part bounds sets link candidate) members) object
      → Names (joint_of bounds sets link target candidate members) object
  unfolding joint_of
  joint_named target candidate [] object time listed names = absurd names
  joint_named target candidate (member ∷ later) object time listed names = names

  covered_at : (target other : ObjectId) (stamp : Stamp) (found : Option Candidate)
      → method_at bounds (entries_of other sets) ≡ found → is_at stamp (link_from link target other found) ≡ true
      → IsCoveredAt target other stamp
  unfolding link_from is_at
  covered_at target other stamp None is at = absurd (false≢true at)
  covered_at target other stamp (Some version) is at = by_link (link other version.stamp target) refl at
    where
      by_link : (own : Option Stamp) → link other version.stamp target ≡ own → is_at stamp own ≡ true
          → IsCoveredAt target other stamp
      by_link None given at = absurd (false≢true at)
      by_link (Some own) given at = record {
        version = version;
        is_method = is;
        is_link = given ∙ ap (λ (it : Stamp). Some it) (equal_by_same_stamp own stamp at);
      }

  -- a member of the target's group, which the plan leaves no failure at
  joined_or_covered : (target : ObjectId) (plan : CopyPlan) → plan_of bounds sets link target ≡ Ok plan
      → (other : ObjectId) (time : ℕ) → listed_time other (chosen target).group ≡ Some time
      → Names plan.joint other ⊎ IsCoveredAt target other (record (chosen target).stamp { time = time })
  joined_or_covered target plan is other time listed =
      let candidate : Candidate = chosen target in
      let there : time_in other candidate.group ≡ Some time = sym (time_is other candidate.group) ∙ listed in
      let none : find (is_outstanding bounds sets link target candidate) candidate.group ≡ None =
      unmapped (plan_fail_at bounds sets link target candidate)
      (find (is_outstanding bounds sets link target candidate) candidate.group)
      (is_plan bounds sets link target plan is).none_left in
      let done : (is_joined bounds sets link candidate (other, time)
      || is_covered bounds sets link target candidate (other, time)) ≡ true =
      not-false (is_joined bounds sets link candidate (other, time)
      || is_covered bounds sets link target candidate (other, time))
      (none_at (is_outstanding bounds sets link target candidate) candidate.group none other time there) in
      elim (or_cases (is_joined bounds sets link candidate (other, time))
      (is_covered bounds sets link target candidate (other, time)) done) [
        | inl joins ↦
            inl (subst (λ (joint : List (ObjectId × Candidate)). Names joint other) (joint_is target plan is)
            (joint_named target candidate candidate.group other time there
            (joins_named candidate candidate.group other time there joins)))
        | inr covered ↦
            inr (covered_at target other (record candidate.stamp { time = time })
            (method_at bounds (entries_of other sets)) refl covered)
      ]

  pub planned_covered : (target : ObjectId) (plan : CopyPlan) → plan_of bounds sets link target ≡ Ok plan
      → (object other : ObjectId) (stamp : Stamp) → IsPlannedOn target object
      → member_on (chosen object) other ≡ Some stamp → Names plan.joint other ⊎ IsCoveredAt target other stamp
  planned_covered target plan is object other stamp (IsPlannedOn.alone none same) is_member =
      absurd (none-some stamp (sym (alone_has_no_member (chosen object) other
      (ap (λ (it : ObjectId). (chosen it).group) (sym same) ∙ none)) ∙ is_member))
  planned_covered target plan is object other stamp (IsPlannedOn.joined at) is_member =
      let it : IsMemberAt (chosen object) other stamp = member_at (chosen object) other stamp is_member in
      let same : record (chosen target).stamp { time = it.time } ≡ stamp =
      ap (λ (own : Stamp). record own { time = it.time }) (sym at.stamp) ∙ it.is in
      elim (joined_or_covered target plan is other it.time (ap (listed_time other) (sym at.group) ∙ it.listed)) [
        | inl joins ↦ inl joins
        | inr covered ↦ inr (subst (IsCoveredAt target other) same covered)
      ]
