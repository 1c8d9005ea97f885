-- A plan rests on its evidence alone: where two linkings tell the same of it, the plans are the same.
use Rattle.std.proofs.Common.{◌≡◌, ◌&&◌, ◌||◌, ℕ, Bool, true, false, not, cond, List, [], ◌∷◌, ◌⊎◌, filter, find, Option, Some, None, Result, Ok, Err, IfOk, refl, sym, ap, subst, ◌∙◌, inl, inr}
use Rattle.std.specs.Prelude.{◌==◌, filter_map, unwrap_or}
use Rattle.std.specs.List.{AllByRecursion, cons_option, list_any}
use Rattle.std.specs.Option.{option_map}
use Rattle.std.proofs.lemmas.Bool.{false≢true, cases_Bool, and_from, or_cases, or_left, or_right, eqb-true, eq-eqb}
use Rattle.std.proofs.lemmas.Grind.{common_steps}
use Rattle.std.proofs.lemmas.List.Elements.{filter_map-append}
use Rattle.std.proofs.lemmas.Option.{none-some}
use Rattle.qu_base.specs.declared.party.ObjectId.{ObjectId}
use Rattle.qu_base.proofs.Numbered.{object_is}
use Rattle.qu_stamp.specs.declared.stamp.Stamp.{Stamp}
use Rattle.qu_stamp.specs.Stamp.{is_below}
use Rattle.qu_stamp.specs.declared.candidate.Candidate.{Candidate}
use Rattle.qu_stamp.specs.Candidate.{opening}
use Rattle.qu_history.specs.History.{ObjectHistory}
use Rattle.qu_history.specs.declared.sets.SetOf.{SetOf}
use Rattle.qu_history.specs.Sets.{entries_of, candidates_of, method_at, greatest}
use Rattle.qu_plan.specs.declared.plan.PlanFail.{PlanFail}
use Rattle.qu_plan.specs.declared.plan.PlanFail.TheVariants.{Needs, Stale}
use Rattle.qu_plan.specs.Linked.{is_passed}
use Rattle.qu_plan.specs.Beside.{is_repairable}
use Rattle.qu_plan.specs.Chosen.{passes_over, is_passed_at, is_skipped, may_be_chosen, greatest_chosen, chosen_on}
use Rattle.qu_class.specs.Class.{is_copy, is_in_sets, listed_stamp, is_of_group, class_in}
use Rattle.qu_plan.specs.Linked.{is_at, is_above}
use Rattle.qu_plan.specs.Copying.{is_joined, link_from, member_link, is_covered, is_outstanding, plan_fail_at, first_fail, joint_part, joint_of, plan_with, plan_by, plan_of}
use Rattle.qu_plan.specs.Beside.{has_member, is_beside, reads, is_seen}
use Rattle.qu_plan.specs.Evidence.{if_seen, seen_for, is_read, method_key, read_key, evidence_of, AreAlike}
use Rattle.qu_plan.specs.Linking.{Linking}
use Rattle.qu_plan.proofs.Chosen.{any_of_entries, chosen_reads}
use Rattle.qu_plan.proofs.Versions.{shown_in, no_method}

pub ruleset keeping_keys = (common_steps, filter_map-append)

-- ---- the members of a group

abbrev pub lists : List (ObjectId × ℕ) → ObjectId → Bool
lists members object = list_any (λ (member : ObjectId × ℕ). (member.0).0 == object.0) members

listed_first : (member : ObjectId × ℕ) (later : List (ObjectId × ℕ)) → lists (member ∷ later) member.0 ≡ true
listed_first member later =
    or_left ((member.0).0 == (member.0).0) (lists later member.0) (eq-eqb (member.0).0 (member.0).0 refl)

listed_later : (member : ObjectId × ℕ) (later : List (ObjectId × ℕ)) (object : ObjectId) → lists later object ≡ true
    → lists (member ∷ later) object ≡ true
listed_later member later object listed = or_right ((member.0).0 == object.0) (lists later object) listed

module _ (bounds : ℕ) (sets : List SetOf) where
  -- a test of an object of the sets that is seen
  pub any_seen : (target over : ObjectId) (test : ObjectId → Bool) (members : List SetOf)
      → is_in_sets members over ≡ true → is_seen bounds sets target over ≡ true → test over ≡ true
      → list_any test (filter_map (λ (set : SetOf). if_seen bounds sets target set.object) members) ≡ true
  any_seen target over test [] there seen passes = absurd (false≢true there)
  any_seen target over test (set ∷ later) there seen passes =
      by (is_seen bounds sets target set.object) refl
      (or_cases ((set.object).0 == over.0) (is_in_sets later over) there)
      (λ behind. any_seen target over test later behind seen passes)
    where
      rest_seen : List ObjectId
      rest_seen = filter_map (λ (set : SetOf). if_seen bounds sets target set.object) later

      same : ((set.object).0 == over.0) ≡ true → set.object ≡ over
      same here = object_is set.object over (eqb-true (set.object).0 over.0 here)

      by : (kept : Bool) → is_seen bounds sets target set.object ≡ kept
          → (((set.object).0 == over.0) ≡ true) ⊎ (is_in_sets later over ≡ true)
          → (is_in_sets later over ≡ true → list_any test rest_seen ≡ true)
          → list_any test (cons_option (cond kept (Some set.object) None) rest_seen) ≡ true
      by true is (inl here) rest = or_left (test set.object) (list_any test rest_seen) (ap test (same here) ∙ passes)
      by true is (inr behind) rest = or_right (test set.object) (list_any test rest_seen) (rest behind)
      by false is (inl here) rest =
          absurd (false≢true (sym is ∙ ap (is_seen bounds sets target) (same here) ∙ seen))
      by false is (inr behind) rest = rest behind

module _ (bounds : ℕ) (sets : List SetOf) (first second : Linking) where
  abbrev pub version_on : ObjectId → Option Candidate
  version_on object = method_at bounds (entries_of object sets)

  -- what is read to choose on an object tells the same of it
  abbrev pub AgreeOn : ObjectId → Type 0
  AgreeOn over =
      (other : ObjectId) (version : Candidate) → reads bounds sets over other ≡ true
      → version_on other ≡ Some version → first other version.stamp over ≡ second other version.stamp over

  -- so all members are read
  abbrev AllRead : ObjectId → List (ObjectId × ℕ) → Type 0
  AllRead over members = (object : ObjectId) → lists members object ≡ true → reads bounds sets over object ≡ true

  rest_read : (over : ObjectId) (member : ObjectId × ℕ) (later : List (ObjectId × ℕ)) → AllRead over (member ∷ later)
      → AllRead over later
  rest_read over member later read object listed = read object (listed_later member later object listed)

  -- ---- what is chosen

  passes_same : (object other : ObjectId) (stamp : Stamp) (found : Option Candidate)
      → ((version : Candidate) → found ≡ Some version
      → first other version.stamp object ≡ second other version.stamp object)
      → passes_over first object other stamp found ≡ passes_over second object other stamp found
  unfolding passes_over
  passes_same object other stamp None same = refl
  passes_same object other stamp (Some version) same =
      ap (λ (it : Option Stamp). is_below stamp version.stamp && is_passed stamp it) (same version refl)

  passed_same : (over : ObjectId) (candidate : Candidate) → AgreeOn over → (members : List (ObjectId × ℕ))
      → AllRead over members
      → list_any (is_passed_at bounds sets first over candidate) members
      ≡ list_any (is_passed_at bounds sets second over candidate) members
  passed_same over candidate agree [] read = refl
  passed_same over candidate agree (member ∷ later) read =
      ap (λ (it : Bool). (not ((member.0).0 == over.0) && it)
      || list_any (is_passed_at bounds sets first over candidate) later)
      (passes_same over member.0 (listed_stamp candidate member) (version_on member.0)
      (λ version is. agree member.0 version (read member.0 (listed_first member later)) is))
      ∙ ap (λ (rest : Bool). is_passed_at bounds sets second over candidate member || rest)
      (passed_same over candidate agree later (rest_read over member later read))

  may_same : (over : ObjectId) → AgreeOn over → (candidate : Candidate)
      → ((other : ObjectId) → is_beside bounds sets over other candidate ≡ true → reads bounds sets over other ≡ true)
      → may_be_chosen bounds sets first over candidate ≡ may_be_chosen bounds sets second over candidate
  unfolding is_skipped
  may_same over agree candidate read =
      elim (cases_Bool (is_repairable bounds sets over candidate)) [
        | inl shown ↦ ap (λ (it : Bool). is_repairable bounds sets over candidate && not it)
            (passed_same over candidate agree candidate.group (λ object listed. read object
            (and_from (has_member object candidate) (is_repairable bounds sets over candidate) listed shown)))
        | inr not_shown ↦
            ap (λ (it : Bool). it && not (is_skipped bounds sets first over candidate)) not_shown
            ∙ sym (ap (λ (it : Bool). it && not (is_skipped bounds sets second over candidate)) not_shown)
      ]

  kept_same : (over : ObjectId) → AgreeOn over → (candidates : List Candidate)
      → ((other : ObjectId) → list_any (is_beside bounds sets over other) candidates ≡ true
      → reads bounds sets over other ≡ true)
      → filter (may_be_chosen bounds sets first over) candidates
      ≡ filter (may_be_chosen bounds sets second over) candidates
  kept_same over agree [] read = refl
  kept_same over agree (candidate ∷ later) read =
      ap (λ (test : Bool). cond test (candidate ∷ filter (may_be_chosen bounds sets first over) later)
      (filter (may_be_chosen bounds sets first over) later))
      (may_same over agree candidate (λ other beside. read other
      (or_left (is_beside bounds sets over other candidate) (list_any (is_beside bounds sets over other) later)
      beside)))
      ∙ ap (λ (rest : List Candidate). cond (may_be_chosen bounds sets second over candidate) (candidate ∷ rest) rest)
      (kept_same over agree later (λ other beside. read other
      (or_right (is_beside bounds sets over other candidate) (list_any (is_beside bounds sets over other) later)
      beside)))

  pub chosen_same : (over : ObjectId) → AgreeOn over
      → chosen_on bounds sets first over ≡ chosen_on bounds sets second over
  unfolding chosen_on greatest_chosen reads
  chosen_same over agree =
      ap (λ (it : List Candidate). unwrap_or (greatest it) opening)
      (kept_same over agree (candidates_of (entries_of over sets)) (λ other beside.
      sym (any_of_entries (is_beside bounds sets over other) (entries_of over sets)) ∙ beside))

  -- ---- what becomes of the members

  module _ (target : ObjectId) (agree : (over : ObjectId) → is_seen bounds sets target over ≡ true → AgreeOn over)
      (candidate : Candidate) where
    on_target : AgreeOn target
    on_target =
        agree target (or_left (target.0 == target.0) (is_copy (class_in bounds sets target)
        && reads bounds sets target target) (eq-eqb target.0 target.0 refl))

    joined_same : (member : ObjectId × ℕ) → reads bounds sets target member.0 ≡ true
        → is_joined bounds sets first candidate member ≡ is_joined bounds sets second candidate member
    unfolding is_joined
    joined_same member read =
        elim (cases_Bool (is_copy (class_in bounds sets member.0))) [
          | inl copy ↦ ap (λ (it : Candidate). is_copy (class_in bounds sets member.0)
              && is_of_group it (listed_stamp candidate member) candidate.group)
              (chosen_same member.0 (agree member.0
              (or_right (target.0 == (member.0).0) (is_copy (class_in bounds sets member.0)
              && reads bounds sets target member.0)
              (and_from (is_copy (class_in bounds sets member.0)) (reads bounds sets target member.0) copy read))))
          | inr other ↦
              ap (λ (it : Bool). it && is_of_group (chosen_on bounds sets first member.0)
              (listed_stamp candidate member) candidate.group) other
              ∙ sym (ap (λ (it : Bool). it && is_of_group (chosen_on bounds sets second member.0)
              (listed_stamp candidate member) candidate.group) other)
        ]

    link_same : (object : ObjectId) (found : Option Candidate)
        → ((version : Candidate) → found ≡ Some version
        → first object version.stamp target ≡ second object version.stamp target)
        → link_from first target object found ≡ link_from second target object found
    unfolding link_from
    link_same object None same = refl
    link_same object (Some version) same = same version refl

    member_same : (member : ObjectId × ℕ) → reads bounds sets target member.0 ≡ true
        → member_link bounds sets first target member ≡ member_link bounds sets second target member
    member_same member read =
        link_same member.0 (version_on member.0) (λ version is. on_target member.0 version read is)

    left_same : (member : ObjectId × ℕ) → reads bounds sets target member.0 ≡ true
        → is_outstanding bounds sets first target candidate member
        ≡ is_outstanding bounds sets second target candidate member
    left_same member read =
        ap (λ (it : Bool). not (it || is_covered bounds sets first target candidate member)) (joined_same member read)
        ∙ ap (λ (it : Option Stamp). not (is_joined bounds sets second candidate member
        || is_at (listed_stamp candidate member) it)) (member_same member read)

    fail_same : (member : ObjectId × ℕ) → reads bounds sets target member.0 ≡ true
        → plan_fail_at bounds sets first target candidate member
        ≡ plan_fail_at bounds sets second target candidate member
    unfolding plan_fail_at
    fail_same member read =
        ap (λ (it : Option Stamp). cond (is_above (listed_stamp candidate member) it) (Stale member.0) (Needs member.0))
        (member_same member read)

    abbrev fails : Linking → ObjectId × ℕ → List (ObjectId × ℕ) → Bool → Option PlanFail
    fails link member later test =
        option_map (plan_fail_at bounds sets link target candidate)
        (cond test (Some member) (find (is_outstanding bounds sets link target candidate) later))

    fails_more : (member : ObjectId × ℕ) (later : List (ObjectId × ℕ)) → reads bounds sets target member.0 ≡ true
        → fails first member later false ≡ fails second member later false → (test : Bool)
        → is_outstanding bounds sets first target candidate member ≡ test
        → fails first member later (is_outstanding bounds sets first target candidate member)
        ≡ fails second member later (is_outstanding bounds sets second target candidate member)
    fails_more member later read rest true is =
        ap (fails first member later) is ∙ ap (λ (why : PlanFail). Some why) (fail_same member read)
        ∙ sym (ap (fails second member later) (sym (left_same member read) ∙ is))
    fails_more member later read rest false is =
        ap (fails first member later) is ∙ rest
        ∙ sym (ap (fails second member later) (sym (left_same member read) ∙ is))

    fails_same : (members : List (ObjectId × ℕ)) → AllRead target members
        → option_map (plan_fail_at bounds sets first target candidate)
        (find (is_outstanding bounds sets first target candidate) members)
        ≡ option_map (plan_fail_at bounds sets second target candidate)
        (find (is_outstanding bounds sets second target candidate) members)
    fails_same [] read = refl
    fails_same (member ∷ later) read =
        fails_more member later (read member.0 (listed_first member later))
        (fails_same later (rest_read target member later read))
        (is_outstanding bounds sets first target candidate member) refl

    abbrev part : Linking → ObjectId × ℕ → Bool → Option (ObjectId × Candidate)
    part link member test = cond test (Some (member.0, chosen_on bounds sets link member.0)) None

    part_same : (member : ObjectId × ℕ) → reads bounds sets target member.0 ≡ true
        → joint_part bounds sets first candidate member ≡ joint_part bounds sets second candidate member
    unfolding is_joined
    part_same member read =
        elim (cases_Bool (is_copy (class_in bounds sets member.0))) [
          | inl copy ↦
              ap (λ (it : Candidate). cond (is_copy (class_in bounds sets member.0)
              && is_of_group it (listed_stamp candidate member) candidate.group) (Some (member.0, it)) None)
              (chosen_same member.0 (agree member.0
              (or_right (target.0 == (member.0).0) (is_copy (class_in bounds sets member.0)
              && reads bounds sets target member.0)
              (and_from (is_copy (class_in bounds sets member.0)) (reads bounds sets target member.0) copy read))))
          | inr other ↦
              ap (λ (it : Bool). part first member (it && is_of_group (chosen_on bounds sets first member.0)
              (listed_stamp candidate member) candidate.group)) other
              ∙ sym (ap (λ (it : Bool). part second member (it && is_of_group (chosen_on bounds sets second member.0)
              (listed_stamp candidate member) candidate.group)) other)
        ]

    parts_same : (members : List (ObjectId × ℕ)) → AllRead target members
        → filter_map (joint_part bounds sets first candidate) members
        ≡ filter_map (joint_part bounds sets second candidate) members
    parts_same [] read = refl
    parts_same (member ∷ later) read =
        ap (λ (it : Option (ObjectId × Candidate)). cons_option it
        (filter_map (joint_part bounds sets first candidate) later))
        (part_same member (read member.0 (listed_first member later)))
        ∙ ap (λ (rest : List (ObjectId × Candidate)). cons_option (joint_part bounds sets second candidate member) rest)
        (parts_same later (rest_read target member later read))

    joint_same : (members : List (ObjectId × ℕ)) → AllRead target members
        → joint_of bounds sets first target candidate members ≡ joint_of bounds sets second target candidate members
    unfolding joint_of
    joint_same [] read = refl
    joint_same (member ∷ later) read = parts_same (member ∷ later) read

    planned_same : AllRead target candidate.group → (why : Option PlanFail)
        → plan_with bounds sets first target candidate why ≡ plan_with bounds sets second target candidate why
    unfolding plan_with
    planned_same read (Some why) = refl
    planned_same read None =
        ap (λ (joint : List (ObjectId × Candidate)). Ok (record { joint = joint })) (joint_same candidate.group read)

    plan_by_same : AllRead target candidate.group
        → plan_by bounds sets first target candidate ≡ plan_by bounds sets second target candidate
    plan_by_same read =
        ap (plan_with bounds sets first target candidate) (fails_same candidate.group read)
        ∙ planned_same read (first_fail bounds sets second target candidate)

  pub plan_same : (target : ObjectId) → ((over : ObjectId) → is_seen bounds sets target over ≡ true → AgreeOn over)
      → plan_of bounds sets first target ≡ plan_of bounds sets second target
  unfolding plan_of
  plan_same target agree =
      plan_by_same target agree (chosen_on bounds sets first target)
      (λ object listed. chosen_reads bounds sets first target object listed)
      ∙ ap (plan_by bounds sets second target) (chosen_same target (on_target target agree opening))

  -- ---- what the evidence has

  -- what an object adds is kept, if it is in the sets
  kept_key : (Holds : ObjectId × Stamp → Type 0) (key : ObjectId → Option (ObjectId × Stamp)) (members : List SetOf)
      → AllByRecursion Holds (filter_map (λ (set : SetOf). key set.object) members)
      → (object : ObjectId) (is : ObjectId × Stamp) → is_in_sets members object ≡ true → key object ≡ Some is → Holds is
  kept_key Holds key [] all object is there added = absurd (false≢true there)
  kept_key Holds key (set ∷ later) all object is there added =
      elim (or_cases ((set.object).0 == object.0) (is_in_sets later object) there) [
        | inl here ↦
            let same : set.object ≡ object = object_is set.object object (eqb-true (set.object).0 object.0 here) in
            (subst (λ (it : Option (ObjectId × Stamp)). AllByRecursion Holds
            (cons_option it (filter_map (λ (set : SetOf). key set.object) later))) (ap key same ∙ added) all).0
        | inr behind ↦ kept_key Holds key later (behind_first (key set.object) all) object is behind added
      ]
    where
      behind_first : (it : Option (ObjectId × Stamp))
          → AllByRecursion Holds (cons_option it (filter_map (λ (set : SetOf). key set.object) later))
          → AllByRecursion Holds (filter_map (λ (set : SetOf). key set.object) later)
      behind_first None all = all
      behind_first (Some key) all = all.1

  method_in : (object : ObjectId) (version : Candidate) → version_on object ≡ Some version
      → is_in_sets sets object ≡ true
  method_in object version is =
      elim (shown_in sets object) [
        | inl there ↦ there
        | inr none ↦ absurd (none-some version (sym (no_method bounds) ∙ ap (method_at bounds) (sym none) ∙ is))
      ]

  reads_in : (over object : ObjectId) → reads bounds sets over object ≡ true → is_in_sets sets over ≡ true
  unfolding reads
  reads_in over object read =
      elim (shown_in sets over) [
        | inl there ↦ there
        | inr none ↦ absurd (false≢true (ap (λ (it : List ObjectHistory). list_any
            (λ (entry : ObjectHistory). list_any (is_beside bounds sets over object) entry.candidates) it) (sym none)
            ∙ read))
      ]

  read_key_is : (target over other : ObjectId) (version : Candidate) → is_seen bounds sets target over ≡ true
      → reads bounds sets over other ≡ true → version_on other ≡ Some version
      → read_key bounds sets target other ≡ Some (other, version.stamp)
  unfolding is_read seen_for
  read_key_is target over other version seen read is =
      ap (λ (it : Bool). cond it (method_key bounds sets other) None)
      (any_seen bounds sets target over (λ (it : ObjectId). reads bounds sets it other) sets
      (reads_in over other read) seen read)
      ∙ ap (option_map (λ (it : Candidate). (other, it.stamp))) is

  evidence_has : (target : ObjectId) → AreAlike first second (evidence_of bounds sets target) → (over : ObjectId)
      → is_seen bounds sets target over ≡ true → AgreeOn over
  unfolding evidence_of
  evidence_has target alike over seen other version read is =
      kept_key (λ (key : ObjectId × Stamp). (it : ObjectId) → first key.0 key.1 it ≡ second key.0 key.1 it)
      (read_key bounds sets target) sets alike other (other, version.stamp) (method_in other version is)
      (read_key_is target over other version seen read is) over

  -- what is told of the evidence is enough
  pub evidence_enough : (target : ObjectId) → AreAlike first second (evidence_of bounds sets target)
      → plan_of bounds sets first target ≡ plan_of bounds sets second target
  evidence_enough target alike = plan_same target (evidence_has target alike)

pub ok_enough : {E : Type 0} (bounds : ℕ) (sets : List SetOf) (target : ObjectId)
    (result : Result (List (ObjectId × Stamp)) E) → IfOk result (λ keys. keys ≡ evidence_of bounds sets target)
    → IfOk result (λ keys. (first second : Linking) → AreAlike first second keys
    → plan_of bounds sets first target ≡ plan_of bounds sets second target)
ok_enough bounds sets target (Ok keys) is =
    λ first second alike. evidence_enough bounds sets first second target (subst (AreAlike first second) is alike)
ok_enough bounds sets target (Err error) is = is
