-- What a replica accepts on all objects of a plan: a copy on each, with the version of its prior.
use Rattle.std.proofs.Common.{◌≡◌, ℕ, Bool, true, false, ◌≤◌, cond, List, [], ◌∷◌, map, length, Option, None, Some, inl, inr, refl, sym, ap, subst, ◌∙◌}
use Rattle.std.specs.Prelude.{option_map}
use Rattle.std.specs.List.{AllByRecursion, list_all}
use Rattle.std.proofs.lemmas.Bool.{and_from, lt-ltb}
use Rattle.qu_base.specs.Bounds.{quorum}
use Rattle.qu_base.specs.declared.party.ObjectId.{ObjectId}
use Rattle.qu_stamp.specs.declared.candidate.Candidate.{Candidate}
use Rattle.qu_stamp.specs.Group.{is_group, listed_time}
use Rattle.qu_stamp.specs.Stamp.{is_below}
use Rattle.qu_history.specs.Sets.{latest_of}
use Rattle.qu_objects.specs.declared.state.ObjState.{ObjState}
use Rattle.qu_kept.specs.Performing.{copied_state}
use Rattle.qu_class.specs.declared.class.Class.{Class}
use Rattle.qu_class.specs.declared.class.Class.TheVariants.{Copy}
use Rattle.qu_plan.specs.declared.plan.CopyPlan.{CopyPlan}
use Rattle.qu_plan.specs.Chosen.{chosen_on}
use Rattle.qu_class.specs.Class.{class_in}
use Rattle.qu_plan.specs.Copying.{Names}
use Rattle.qu_plan.specs.Linking.{Linking}
use Rattle.qu_class.specs.Rows.{AreWellFormed, IsClassOf}
use Rattle.qu_class.proofs.ClassRows.{copy_has_quorum}
use Rattle.qu_plan.proofs.Copying.{IsCopied, plan_copies}
use Rattle.qu_class.proofs.GroupRule.{OwnTells, copy_is_own, own_tells}
use Rattle.qu_mends.specs.declared.accepted.Accepted.{Accepted}
use Rattle.qu_mends.specs.declared.mend.Mend.{Mend}
use Rattle.qu_kept.specs.declared.remedy.Remedy.TheVariants.{Fresh}
use Rattle.qu_kept.specs.Remedy.{chosen_member, copied_member}
use Rattle.qu_mends.specs.Remedy.{has_time, fresh_member, made_group, fresh_repair}
use Rattle.qu_mends.specs.Causes.{IsPartAdded, ArePartsAdded}
use Rattle.qu_rows.specs.State.{ReplicaState, own_latest}
use Rattle.qu_rows.specs.Rows.{Asked, shown_of, linking_of, mend_asked, part_of, wanted_version, fresh_stamp, fresh_group}
use Rattle.qu_rows.proofs.FreshGroups.{made_listed, made_fresh}
use Rattle.qu_claims.specs.Grounds.{IsPlanned}
use Rattle.qu_grounds.proofs.GroupAcceptance.{all_joined, joined, each_member, IsJoinedAt, AddsGroup}
use Rattle.qu_grounds.proofs.Planned.{members_objects}
use Rattle.qu_grounds.proofs.Remedies.{copied}
use Rattle.qu_grounds.proofs.Together.{member_is}

-- ---- the group of what is made names the same objects

fresh_named : (asked : Asked) (group : List (ObjectId × ℕ)) (object : ObjectId)
    → Names (map (fresh_member asked.sets) group) object → Names group object
fresh_named asked [] object never = never
fresh_named asked (member ∷ later) object (inl same) = inl same
fresh_named asked (member ∷ later) object (inr there) = inr (fresh_named asked later object there)

fresh_joined : (asked : Asked) (candidates : ObjectId → Candidate) (versions : ObjectId → Option ObjState)
    (group : List (ObjectId × ℕ))
    → all_joined candidates versions group ≡ all_joined candidates versions (map (fresh_member asked.sets) group)
fresh_joined asked candidates versions [] = refl
fresh_joined asked candidates versions (member ∷ later) =
    ap (λ (rest : List Accepted). joined candidates versions member.0 ∷ rest)
    (fresh_joined asked candidates versions later)

-- the objects of a plan
chosen_named : (joint : List (ObjectId × Candidate)) (object : ObjectId) → Names (map chosen_member joint) object
    → Names joint object
chosen_named [] object never = never
chosen_named (part ∷ later) object (inl same) = inl same
chosen_named (part ∷ later) object (inr there) = inr (chosen_named later object there)

-- ---- what is copied together

module _ (state : ReplicaState) (asked : Asked) (target : ObjectId) (no_act : asked.act ≡ None)
    (formed : (object : ObjectId) → AreWellFormed state.keys.bounds (shown_of asked object)) where
  abbrev copy_mend : Mend
  copy_mend = mend_asked state asked target

  abbrev copy_bounds : ℕ
  copy_bounds = state.keys.bounds

  abbrev copy_link : Linking
  copy_link = linking_of state

  abbrev chosen_of : ObjectId → Candidate
  chosen_of object = chosen_on copy_bounds asked.sets copy_link object

  abbrev pub copy_on : ObjectId → Candidate
  copy_on object = fresh_repair copy_mend (latest_of (shown_of asked object)) false (chosen_of object).stamp

  abbrev before_on : ObjectId → Option ObjState
  before_on object = wanted_version state object (Fresh false (chosen_of object).stamp)

  abbrev pub version_on : ObjectId → Option ObjState
  version_on object = option_map (copied_state object (copy_on object)) (before_on object)

  record IsCopyPart (object : ObjectId) : Type 0 where
    current : is_below (latest_of (shown_of asked object)) (own_latest state object) ≡ false
    above : is_below (own_latest state object) (copy_on object).stamp ≡ true
    before : ObjState
    found : before_on object ≡ Some before

  pub record AreCopies (joint : List (ObjectId × Candidate)) (accepted : List Accepted) : Type 0 where
    all : accepted ≡ all_joined copy_on version_on (map chosen_member joint)
    timed : list_all (has_time asked.sets) (map chosen_member joint) ≡ true
    parts : AllByRecursion (λ part. IsCopyPart part.0) joint

  are_copies : (joint : List (ObjectId × Candidate))
      → AllByRecursion (IsCopied copy_bounds asked.sets copy_link) joint → (accepted : List Accepted)
      → ArePartsAdded copy_mend (map (part_of state asked) (map copied_member joint)) accepted
      → AreCopies joint accepted
  are_copies [] copied [] added = record { all = refl; timed = refl; parts = tt }
  are_copies [] copied (one ∷ more) added = absurd added
  are_copies (part ∷ later) copied [] added = absurd added
  are_copies (part ∷ later) copied (one ∷ more) added =
      let rest : AreCopies later more = are_copies later copied.1 more added.1 in
      let here : IsPartAdded copy_mend (part_of state asked (part.0, Fresh false (chosen_of part.0).stamp)) one =
      subst (λ (it : Candidate). IsPartAdded copy_mend (part_of state asked (part.0, Fresh false it.stamp)) one)
      (sym (copied.0).is_chosen) added.0 in
      let object : one.object ≡ part.0 = here.object in
      let candidate : one.candidate ≡ copy_on part.0 = (here.makes).0 in
      let before : ObjState = (here.version).0 in
      let found : before_on part.0 ≡ Some before = (here.version).1 in
      let stored : one.state ≡ version_on part.0 =
      (here.version).2 ∙ ap (λ (it : Candidate). Some (copied_state part.0 it before)) candidate
      ∙ sym (ap (option_map (copied_state part.0 (copy_on part.0))) found) in
      let is_joined : one ≡ joined copy_on version_on part.0 =
      λ i. record { object = object i; candidate = candidate i; state = stored i } in
      record {
        all = ap (λ (it : Accepted). it ∷ more) is_joined
            ∙ ap (λ (it : List Accepted). joined copy_on version_on part.0 ∷ it) rest.all;
        timed = and_from _ _ (lt-ltb _ _ (here.makes).1) rest.timed;
        parts = (
          record {
            current = (here.may).current;
            above = subst (λ (it : Candidate). is_below (own_latest state part.0) it.stamp ≡ true) candidate
                (here.may).above;
            before = before;
            found = found;
          },
          rest.parts,
        );
      }

  module _ (plan : CopyPlan) (planned : IsPlanned state asked target plan)
      (whole : is_group (map chosen_member plan.joint) ≡ true)
      (made : copy_mend.made ≡ made_group asked.sets (map chosen_member plan.joint)) (accepted : List Accepted)
      (are : AreCopies plan.joint accepted) where
    abbrev group : List (ObjectId × ℕ)
    group = map chosen_member plan.joint

    abbrev fresh : List (ObjectId × ℕ)
    fresh = map (fresh_member asked.sets) group

    made_is : copy_mend.made ≡ fresh
    made_is = made ∙ ap (λ (test : Bool). cond test fresh []) are.timed

    abbrev IsOfCopy : ObjectId → Type 0
    IsOfCopy object = class_in copy_bounds asked.sets object ≡ Copy

    of_copy : (joint : List (ObjectId × Candidate))
        → AllByRecursion (IsCopied copy_bounds asked.sets copy_link) joint
        → AllByRecursion (λ part. IsOfCopy part.0) joint
    of_copy [] copied = tt
    of_copy (part ∷ later) copied = ((copied.0).copy, of_copy later copied.1)

    joined_at : (object : ObjectId) → Names plan.joint object
        → IsJoinedAt state asked target fresh copy_on version_on object
    joined_at object names =
        let copy : IsOfCopy object =
        each_member IsOfCopy plan.joint
        (of_copy plan.joint (plan_copies copy_bounds asked.sets copy_link target plan planned.copy planned.is)) object
        names in
        let part : IsCopyPart object = each_member IsCopyPart plan.joint are.parts object names in
        let enough : quorum copy_bounds ≤ length (shown_of asked object) =
        copy_has_quorum copy_bounds (shown_of asked object) (copy_is_own copy_bounds asked.sets object copy) in
        let tells : IsClassOf copy_bounds (shown_of asked object) Copy =
        subst (λ (class : Class). OwnTells copy_bounds asked.sets object class) copy
        (own_tells copy_bounds asked.sets object (formed object) enough) in
        record {
          enough = enough;
          current = part.current;
          above = part.above;
          whole = made_is;
          remedy = copied state asked target object no_act plan planned names (copy_on object) tells.0 part.before
              (version_on object) refl
              (made_is ∙ made_fresh asked group whole ∙ ap (fresh_group asked) (members_objects plan.joint))
              tells.1 tells.2 part.found
              (ap (option_map (copied_state object (copy_on object))) part.found);
        }

    pub adds_copies : AddsGroup state asked target fresh accepted
    adds_copies = record {
      candidates = copy_on;
      versions = version_on;
      all = are.all ∙ fresh_joined asked copy_on version_on group;
      each = λ object names. joined_at object (chosen_named plan.joint object (fresh_named asked group object names));
      listed = λ object other names besides.
          member_is (copy_on object) (copy_on object).stamp fresh other (fresh_stamp asked other).time refl made_is
          (each_member (λ it. listed_time it fresh ≡ Some (fresh_stamp asked it).time) group
          (made_listed asked group) other (fresh_named asked group other besides));
    }

  -- what is added where the target is copied, with others
  pub copies_added : (plan : CopyPlan) → IsPlanned state asked target plan
      → is_group (map chosen_member plan.joint) ≡ true
      → copy_mend.made ≡ made_group asked.sets (map chosen_member plan.joint) → (accepted : List Accepted)
      → ArePartsAdded copy_mend (map (part_of state asked) (map copied_member plan.joint)) accepted
      → AddsGroup state asked target (map (fresh_member asked.sets) (map chosen_member plan.joint)) accepted
  copies_added plan planned whole made accepted added =
      adds_copies plan planned whole made accepted
      (are_copies plan.joint (plan_copies copy_bounds asked.sets copy_link target plan planned.copy planned.is) accepted
      added)
