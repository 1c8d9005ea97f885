-- The objects that are mended with the target: they differ, and the sets show them.
use Rattle.std.proofs.Common.{◌≡◌, ℕ, ◌+◌, ◌<◌, ◌≤◌, Bool, true, false, cond, List, [], ◌∷◌, map, None, Result, Ok, Err, refl, sym, ap, subst, ◌∙◌, arith, length}
use Rattle.std.specs.List.{AllByRecursion, list_all}
use Rattle.std.proofs.lemmas.Bool.{and_parts}
use Rattle.qu_base.specs.declared.party.ObjectId.{ObjectId}
use Rattle.qu_base.proofs.Items.{no_item}
use Rattle.qu_stamp.specs.declared.candidate.Candidate.{Candidate}
use Rattle.qu_stamp.specs.Stamp.{same_stamp}
use Rattle.qu_stamp.specs.Group.{is_group_size, is_member_from, are_members_from, is_group, same_group}
use Rattle.qu_stamp.proofs.Groups.{decides_group, member_from}
use Rattle.qu_stamp.proofs.Order.{equal_by_same_stamp}
use Rattle.qu_history.specs.declared.sets.SetOf.{SetOf}
use Rattle.qu_history.specs.Sets.{entries_of, latest_of}
use Rattle.qu_class.specs.declared.class.Class.{Class}
use Rattle.qu_class.specs.declared.class.Class.TheVariants.{Method, InlineMethod, Copy, InlineBarrier, Barrier, Needs}
use Rattle.qu_plan.specs.declared.plan.CopyPlan.{CopyPlan}
use Rattle.qu_plan.specs.declared.plan.PlanFail.{PlanFail}
use Rattle.qu_plan.specs.declared.plan.PlanFail.TheVariants as why
use Rattle.qu_class.specs.Class.{is_latest, listed_stamp, agrees, first_absent, all_agree, class_of, with_members, class_in}
use Rattle.qu_plan.specs.Copying.{plan_of}
use Rattle.qu_plan.specs.Linking.{Linking}
use Rattle.qu_class.specs.Repairable.{object_base}
use Rattle.qu_class.specs.Rows.{AllShown}
use Rattle.qu_class.proofs.GroupRule.{inline_by, copy_in_sets, all_shown}
use Rattle.qu_plan.proofs.Copying.{IsCopied, plan_copies}
use Rattle.qu_kept.specs.declared.course.Course.{Course}
use Rattle.qu_kept.specs.declared.remedy.Remedy.{Remedy}
use Rattle.qu_mends.specs.Causes.{AddsPlain}
use Rattle.qu_kept.specs.Remedy.{alone, whole_group, chosen_member, copied_member, remedies_by}
use Rattle.qu_mends.specs.Remedy.{shown_member, copy_course, course_by, course_of}

-- ---- they differ

abbrev pub AreOthers : ObjectId → List (ObjectId × Remedy) → Type 0
AreOthers object remedies = AllByRecursion (λ other. other.0 ≡ object → ⊥) remedies

abbrev pub DoDiffer : List (ObjectId × Remedy) → Type 0
DoDiffer [] = Unit {0}
DoDiffer (mended ∷ later) = AreOthers mended.0 later × DoDiffer later

-- the objects of the group, each with a remedy
abbrev pub AreOf : List (ObjectId × ℕ) → List (ObjectId × Remedy) → Type 0
AreOf [] [] = Unit {0}
AreOf [] (mended ∷ later) = ⊥
AreOf (member ∷ group) [] = ⊥
AreOf (member ∷ group) (mended ∷ later) = (mended.0 ≡ member.0) × AreOf group later

members_are_others : (least : ℕ) (group : List (ObjectId × ℕ)) → are_members_from least group ≡ true
    → (object : ObjectId) → object.0 < least → (members : List (ObjectId × Remedy)) → AreOf group members
    → AreOthers object members
unfolding are_members_from
members_are_others least [] rise object below [] of = tt
members_are_others least [] rise object below (mended ∷ more) of = absurd of
members_are_others least (member ∷ later) rise object below [] of = absurd of
members_are_others least (member ∷ later) rise object below (mended ∷ more) of =
    let both = and_parts (is_member_from least member) (are_members_from ((member.0).0 + 1) later) rise in
    let from : least ≤ (member.0).0 = member_from least member both.0 in (
      (λ same. let equal : (member.0).0 ≡ object.0 = ap (λ (it : ObjectId). it.0) (sym of.0 ∙ same)
          in omega (arith, equal, from, below)),
      members_are_others ((member.0).0 + 1) later both.1 object (omega (arith, from, below)) more of.1,
    )

members_differ : (least : ℕ) (group : List (ObjectId × ℕ)) → are_members_from least group ≡ true
    → (members : List (ObjectId × Remedy)) → AreOf group members → DoDiffer members
unfolding are_members_from
members_differ least [] rise [] of = tt
members_differ least [] rise (mended ∷ more) of = absurd of
members_differ least (member ∷ later) rise [] of = absurd of
members_differ least (member ∷ later) rise (mended ∷ more) of =
    let both = and_parts (is_member_from least member) (are_members_from ((member.0).0 + 1) later) rise in (
      members_are_others ((member.0).0 + 1) later both.1 mended.0
          (let equal : (mended.0).0 ≡ (member.0).0 = ap (λ (it : ObjectId). it.0) of.0 in omega (arith, equal)) more
          of.1,
      members_differ ((member.0).0 + 1) later both.1 more of.1,
    )

-- where there is a group, the members are its objects
abbrev pub Lists : List (ObjectId × ℕ) → List (ObjectId × Remedy) → Type 0
Lists [] members = Unit {0}
Lists (member ∷ later) members = AreOf (member ∷ later) members

pub remedies_differ : (target : ObjectId) (course : Course) (group : List (ObjectId × ℕ)) → is_group group ≡ true
    → Lists group course.members → DoDiffer (remedies_by target course group)
unfolding remedies_by is_group
remedies_differ target course [] is lists = (tt, tt)
remedies_differ target course (member ∷ later) is lists =
    members_differ 0 (member ∷ later)
    (and_parts (is_group_size (length (member ∷ later))) (are_members_from 0 (member ∷ later)) is).1
    course.members lists

-- each adds a candidate, and none a barrier
abbrev pub AllAddPlain : List (ObjectId × Remedy) → Type 0
AllAddPlain members = AllByRecursion (λ mended. AddsPlain mended.1) members

whole_by : (group : List (ObjectId × ℕ)) (test : Bool) → is_group group ≡ test → is_group (cond test group []) ≡ true
unfolding is_group are_members_from
whole_by group true is = is
whole_by group false is = refl

none_whole : is_group [] ≡ true
unfolding is_group are_members_from
none_whole = refl

lists_by : (group : List (ObjectId × ℕ)) (members : List (ObjectId × Remedy)) (test : Bool) → AreOf group members
    → Lists (cond test group []) members
lists_by group members false of = tt
lists_by [] members true of = tt
lists_by (member ∷ later) members true of = of

-- ---- the sets show them

module _ (bounds : ℕ) (sets : List SetOf) where
  -- a candidate that is added as it is: all members are shown, and agree
  abbrev pub IsJoined : Candidate → Type 0
  IsJoined candidate = (first_absent sets candidate.group ≡ None) × (all_agree bounds sets candidate ≡ true)

  joined_by : (class : Class) (candidate : Candidate) → with_members bounds sets class ≡ InlineMethod candidate
      → IsJoined candidate
  unfolding with_members
  joined_by (Method base) candidate is = absurd cc
  joined_by (InlineMethod base) candidate is =
      inline_by bounds sets (λ it. it ≡ InlineMethod candidate → IsJoined candidate) base
      (λ object first it. absurd cc)
      (λ none all it. let same : base ≡ candidate = cc in subst IsJoined same (none, all))
      (λ none some it. absurd cc) is
  joined_by Copy candidate is = absurd cc
  joined_by (InlineBarrier barrier) candidate is = absurd cc
  joined_by (Barrier prior) candidate is = absurd cc
  joined_by (Needs object) candidate is = absurd cc

  pub inline_joined : (object : ObjectId) (candidate : Candidate)
      → class_in bounds sets object ≡ InlineMethod candidate → IsJoined candidate
  unfolding class_in
  inline_joined object candidate is = joined_by (class_of bounds (entries_of object sets)) candidate is

  shown_by : (group : List (ObjectId × ℕ)) (test : Bool) → AllShown sets group → AllShown sets (cond test group [])
  shown_by group true shown = shown
  shown_by group false shown = tt

  -- ---- each course

  pub record IsCourse (course : Course) : Type 0 where
    pub whole : is_group course.group ≡ true
    pub lists : Lists course.group course.members
    pub plain : AllAddPlain course.members
    pub shown : AllShown sets course.group

  single : (remedy : Remedy) → IsCourse (alone remedy)
  single remedy = record { whole = none_whole; lists = tt; plain = tt; shown = tt }

  shown_of : (group : List (ObjectId × ℕ)) → AreOf group (map (shown_member bounds sets) group)
  shown_of [] = tt
  shown_of (member ∷ later) = (refl, shown_of later)

  shown_plain : (group : List (ObjectId × ℕ)) → AllAddPlain (map (shown_member bounds sets) group)
  shown_plain [] = tt
  shown_plain (member ∷ later) = (tt, shown_plain later)

  copied_of : (joint : List (ObjectId × Candidate)) → AreOf (map chosen_member joint) (map copied_member joint)
  copied_of [] = tt
  copied_of (part ∷ later) = (refl, copied_of later)

  copied_plain : (joint : List (ObjectId × Candidate)) → AllAddPlain (map copied_member joint)
  copied_plain [] = tt
  copied_plain (part ∷ later) = (refl, copied_plain later)

  -- what is copied is of class COPY, which the sets show
  copies_in_sets : (link : Linking) (joint : List (ObjectId × Candidate))
      → AllByRecursion (IsCopied bounds sets link) joint → AllShown sets (map chosen_member joint)
  copies_in_sets link [] copied = tt
  copies_in_sets link (part ∷ later) copied =
      (copy_in_sets bounds sets part.0 (copied.0).copy, copies_in_sets link later copied.1)

  copy_is : (link : Linking) (target : ObjectId) → class_in bounds sets target ≡ Copy
      → (plan : Result CopyPlan PlanFail) → plan_of bounds sets link target ≡ plan → IsCourse (copy_course target plan)
  unfolding copy_course
  copy_is link target copy (Ok plan) is =
      let group : List (ObjectId × ℕ) = map chosen_member plan.joint in
      record {
        whole = whole_by group (is_group group) refl;
        lists = lists_by group (map copied_member plan.joint) (is_group group) (copied_of plan.joint);
        plain = copied_plain plan.joint;
        shown = shown_by group (is_group group)
            (copies_in_sets link plan.joint (plan_copies bounds sets link target plan copy is));
      }
  copy_is link target copy (Err (why.Stale other)) is = single _
  copy_is link target copy (Err (why.Needs other)) is = single _
  copy_is link target copy (Err why.NoMemory) is = single _

  course_is : (link : Linking) (target : ObjectId) (class : Class) → class_in bounds sets target ≡ class
      → IsCourse (course_by bounds sets target (plan_of bounds sets link target) class)
  unfolding course_by
  course_is link target (Method candidate) is = single _
  course_is link target (InlineMethod candidate) is =
      record {
        whole = whole_by candidate.group (is_group candidate.group) refl;
        lists = lists_by candidate.group (map (shown_member bounds sets) candidate.group) (is_group candidate.group)
            (shown_of candidate.group);
        plain = shown_plain candidate.group;
        shown = shown_by candidate.group (is_group candidate.group)
            (all_shown sets candidate.group (inline_joined target candidate is).0);
      }
  course_is link target Copy is = copy_is link target is (plan_of bounds sets link target) refl
  course_is link target (InlineBarrier candidate) is = single _
  course_is link target (Barrier prior) is = single _
  course_is link target (Needs member) is = single _

  pub each_course : (link : Linking) (target : ObjectId) → IsCourse (course_of bounds sets link target)
  unfolding course_of
  each_course link target = course_is link target (class_in bounds sets target) refl

-- ---- what agrees

-- the object candidate is the latest that the sets show of the object, and has the whole group
abbrev pub IsShownWith : ℕ → List SetOf → List (ObjectId × ℕ) → ObjectId → Type 0
IsShownWith bounds sets group object =
    ((object_base bounds (entries_of object sets)).stamp ≡ latest_of (entries_of object sets))
    × ((object_base bounds (entries_of object sets)).group ≡ group)

module _ (bounds : ℕ) (sets : List SetOf) (candidate : Candidate) where
  abbrev member_agrees : ObjectId × ℕ → Bool
  member_agrees member =
      agrees bounds (entries_of member.0 sets) (listed_stamp candidate member) candidate.group

  shown_with : (member : ObjectId × ℕ) → member_agrees member ≡ true
      → IsShownWith bounds sets candidate.group member.0
  shown_with member test =
      let base : Candidate = object_base bounds (entries_of member.0 sets) in
      let both = and_parts (is_latest (entries_of member.0 sets) base) _ test in
      let rest = and_parts (same_stamp base.stamp (listed_stamp candidate member))
      (same_group base.group candidate.group) both.1 in (
        equal_by_same_stamp base.stamp (latest_of (entries_of member.0 sets)) both.0,
        (decides_group base.group candidate.group).0 rest.1,
      )

  pub all_shown_with : (members : List (ObjectId × ℕ)) → list_all member_agrees members ≡ true
      → AllByRecursion (λ member. IsShownWith bounds sets candidate.group member.0) members
  all_shown_with [] test = tt
  all_shown_with (member ∷ later) test =
      let both = and_parts (member_agrees member) (list_all member_agrees later) test in
      (shown_with member both.0, all_shown_with later both.1)

pub whole_is : (group : List (ObjectId × ℕ)) (test : Bool) (member : ObjectId × ℕ) (later : List (ObjectId × ℕ))
    → cond test group [] ≡ member ∷ later → group ≡ member ∷ later
whole_is group true member later is = is
whole_is group false member later is = absurd (no_item member later is)

module _ (bounds : ℕ) (sets : List SetOf) where
  -- the members of the group that is added as it is agree
  pub group_agrees : (object : ObjectId) (candidate : Candidate) (member : ObjectId × ℕ) (later : List (ObjectId × ℕ))
      → class_in bounds sets object ≡ InlineMethod candidate → whole_group candidate.group ≡ member ∷ later
      → AllByRecursion (λ it. IsShownWith bounds sets (member ∷ later) it.0) (member ∷ later)
  group_agrees object candidate member later is group =
      let whole : candidate.group ≡ member ∷ later =
      whole_is candidate.group (is_group candidate.group) member later group in
      subst (λ (it : List (ObjectId × ℕ)). AllByRecursion (λ one. IsShownWith bounds sets it one.0) it) whole
      (all_shown_with bounds sets candidate candidate.group (inline_joined bounds sets object candidate is).1)
