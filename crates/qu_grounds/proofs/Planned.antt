-- The objects of a plan are those of a group, if there are more than one.
use Rattle.std.proofs.Common.{◌≡◌, ℕ, ◌+◌, ◌≤◌, suc, Bool, true, false, cond, List, [], ◌∷◌, map, length, Option, None, Some, Ok, refl, sym, ap, subst, ◌∙◌, arith}
use Rattle.std.specs.Prelude.{nat_le, filter_map}
use Rattle.std.specs.List.{cons_option}
use Rattle.std.proofs.lemmas.Bool.{and_parts, and_from, leb-true, le-leb}
use Rattle.std.proofs.lemmas.Bool.Decides.{nat_tests}
use Rattle.qu_base.specs.declared.party.ObjectId.{ObjectId}
use Rattle.qu_stamp.specs.declared.stamp.Stamp.{Stamp}
use Rattle.qu_stamp.specs.declared.candidate.Candidate.{Candidate}
use Rattle.qu_stamp.specs.Stamp.{same_stamp}
use Rattle.qu_stamp.specs.Group.{is_group_size, is_member_from, are_members_from, is_group, same_group}
use Rattle.qu_stamp.proofs.Order.{equal_by_same_stamp}
use Rattle.qu_history.specs.declared.sets.SetOf.{SetOf}
use Rattle.qu_plan.specs.declared.plan.CopyPlan.{CopyPlan}
use Rattle.qu_plan.specs.Chosen.{chosen_on}
use Rattle.qu_class.specs.Class.{is_copy, listed_stamp, is_of_group, class_in}
use Rattle.qu_plan.specs.Copying.{is_joined, joint_part, joint_of, plan_of}
use Rattle.qu_plan.specs.Linking.{Linking}
use Rattle.qu_plan.proofs.Copying.{IsPlan, is_plan}
use Rattle.qu_kept.specs.Remedy.{chosen_member}
use Rattle.qu_rows.specs.Rows.{objects_of}

-- from a lower number on
members_from_lower : (least other : ℕ) → least ≤ other → (members : List (ObjectId × ℕ))
    → are_members_from other members ≡ true → are_members_from least members ≡ true
unfolding are_members_from
members_from_lower least other low [] rise = refl
members_from_lower least other low (member ∷ later) rise =
    let both = and_parts (is_member_from other member) (are_members_from ((member.0).0 + 1) later) rise in
    let parts = and_parts (nat_le other (member.0).0) _ both.0 in
    let from : other ≤ (member.0).0 = leb-true other (member.0).0 parts.0 in
    and_from _ _ (and_from _ _ (le-leb least (member.0).0 (omega (arith, low, from))) parts.1) both.1

module _ (bounds : ℕ) (sets : List SetOf) (link : Linking) where
  abbrev parts_of : Candidate → List (ObjectId × ℕ) → List (ObjectId × Candidate)
  parts_of candidate members = filter_map (joint_part bounds sets link candidate) members

  -- what joins has the time that the group lists
  joined_time : (candidate : Candidate) (member : ObjectId × ℕ) → is_joined bounds sets link candidate member ≡ true
      → chosen_member (member.0, chosen_on bounds sets link member.0) ≡ member
  unfolding is_joined
  joined_time candidate member joins =
      let base : Candidate = chosen_on bounds sets link member.0 in
      let both = and_parts (is_copy (class_in bounds sets member.0))
      (is_of_group base (listed_stamp candidate member) candidate.group) joins in
      let alike = and_parts (same_stamp base.stamp (listed_stamp candidate member))
      (same_group base.group candidate.group) both.1 in
      ap (λ (it : Stamp). (member.0, it.time))
      (equal_by_same_stamp base.stamp (listed_stamp candidate member) alike.0)

  joined_rise : (candidate : Candidate) (least : ℕ) (members : List (ObjectId × ℕ))
      → are_members_from least members ≡ true
      → are_members_from least (map chosen_member (parts_of candidate members)) ≡ true
  unfolding are_members_from
  joined_rise candidate least [] rise = refl
  joined_rise candidate least (member ∷ later) rise =
      let both = and_parts (is_member_from least member) (are_members_from ((member.0).0 + 1) later) rise in
      let from : least ≤ (member.0).0 =
      leb-true least (member.0).0 (and_parts (nat_le least (member.0).0) _ both.0).0 in
      by (is_joined bounds sets link candidate member) refl both.0
      (joined_rise candidate ((member.0).0 + 1) later both.1)
      (members_from_lower least ((member.0).0 + 1) (omega (arith, from)) _
      (joined_rise candidate ((member.0).0 + 1) later both.1))
    where
      by : (test : Bool) → is_joined bounds sets link candidate member ≡ test → is_member_from least member ≡ true
          → are_members_from ((member.0).0 + 1) (map chosen_member (parts_of candidate later)) ≡ true
          → are_members_from least (map chosen_member (parts_of candidate later)) ≡ true
          → are_members_from least (map chosen_member (cons_option
          (cond test (Some (member.0, chosen_on bounds sets link member.0)) None) (parts_of candidate later))) ≡ true
      by true joins is rest lower =
          and_from _ _ (ap (is_member_from least) (joined_time candidate member joins) ∙ is) rest
      by false apart is rest lower = lower

  joined_few : (candidate : Candidate) (members : List (ObjectId × ℕ))
      → length (map chosen_member (parts_of candidate members)) ≤ length members
  joined_few candidate [] = omega arith
  joined_few candidate (member ∷ later) =
      by (joint_part bounds sets link candidate member) (joined_few candidate later)
    where
      by : (found : Option (ObjectId × Candidate))
          → length (map chosen_member (parts_of candidate later)) ≤ length later
          → length (map chosen_member (cons_option found (parts_of candidate later))) ≤ length (member ∷ later)
      by None few = omega (arith, few)
      by (Some part) few = omega (arith, few)

  size_within : (count few : ℕ) → is_group_size few ≡ true → suc (suc count) ≤ few
      → is_group_size (suc (suc count)) ≡ true
  size_within count few is within = grind (arith, nat_tests, is, within)

  -- more than one are a group
  joint_group_by : (target : ObjectId) (candidate : Candidate) (members : List (ObjectId × ℕ)) → is_group members ≡ true
      → (first second : ObjectId × Candidate) (later : List (ObjectId × Candidate))
      → joint_of bounds sets link target candidate members ≡ first ∷ second ∷ later
      → is_group (map chosen_member (first ∷ second ∷ later)) ≡ true
  unfolding joint_of is_group
  joint_group_by target candidate [] is first second later joint =
      absurd (omega (arith, ap length joint))
  joint_group_by target candidate (member ∷ more) is first second later joint =
      let both = and_parts (is_group_size (length (member ∷ more))) (are_members_from 0 (member ∷ more)) is in
      let few : length (map chosen_member (first ∷ second ∷ later)) ≤ length (member ∷ more) =
      subst (λ (it : List (ObjectId × Candidate)). length (map chosen_member it) ≤ length (member ∷ more)) joint
      (joined_few candidate (member ∷ more)) in
      and_from _ _
      (size_within (length (map chosen_member later)) (length (member ∷ more)) both.0 few)
      (subst (λ (it : List (ObjectId × Candidate)). are_members_from 0 (map chosen_member it) ≡ true) joint
      (joined_rise candidate 0 (member ∷ more) both.1))

  pub plan_group : (target : ObjectId) (plan : CopyPlan) → plan_of bounds sets link target ≡ Ok plan
      → is_group (chosen_on bounds sets link target).group ≡ true
      → (first second : ObjectId × Candidate) (later : List (ObjectId × Candidate))
      → plan.joint ≡ first ∷ second ∷ later → is_group (map chosen_member plan.joint) ≡ true
  plan_group target plan is whole first second later joint =
      let it : IsPlan bounds sets link target plan = is_plan bounds sets link target plan is in
      subst (λ (parts : List (ObjectId × Candidate)). is_group (map chosen_member parts) ≡ true) (sym joint)
      (joint_group_by target (chosen_on bounds sets link target) (chosen_on bounds sets link target).group whole
      first second later (ap (λ (one : CopyPlan). one.joint) it.joint ∙ joint))

pub members_objects : (joint : List (ObjectId × Candidate))
    → objects_of (map chosen_member joint) ≡ objects_of joint
members_objects [] = refl
members_objects (part ∷ later) = ap (λ (rest : List ObjectId). part.0 ∷ rest) (members_objects later)
