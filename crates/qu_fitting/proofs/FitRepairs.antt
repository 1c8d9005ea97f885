-- What mends an object fits, where all fits that the entries show of it.
use Rattle.std.proofs.Common.{◌≡◌, ℕ, ◌+◌, ◌-◌, ◌<◌, ◌≤◌, Bool, true, false, not, ◌&&◌, cond, Option, None, Some, Result, Ok, Err, List, [], ◌∷◌, find, map, length, ◌⊎◌, inl, inr, refl, sym, ap, subst, ◌∙◌, arith}
use Rattle.std.specs.Prelude.{◌==◌, IfSome, unwrap_or, option_map}
use Rattle.std.specs.List.{AllByRecursion}
use Rattle.std.proofs.lemmas.Bool.{cases_lt, false≢true, and_parts, not-true}
use Rattle.std.proofs.lemmas.Option.{none-some, same_Some}
use Rattle.qu_base.specs.declared.limits.TheConstants.{LAST_CLIENT, OBJECT_IDS}
use Rattle.qu_base.specs.Format.{FitsFrom}
use Rattle.qu_stamp.specs.declared.stamp.Stamp.{Stamp}
use Rattle.qu_stamp.specs.declared.limits.TheConstants.{LAST_TIME}
use Rattle.qu_stamp.specs.declared.candidate.Candidate.{Candidate}
use Rattle.qu_stamp.specs.Stamp.{is_below}
use Rattle.qu_stamp.specs.Candidate.{opening}
use Rattle.qu_base.specs.declared.party.ObjectId.{ObjectId}
use Rattle.qu_base.proofs.Numbered.{tested_object}
use Rattle.qu_stamp.specs.Formats.{stamp_form, member_form, after_member, members_form, group_form}
use Rattle.qu_stamp.proofs.Order.{is_below_by_time}
use Rattle.qu_history.specs.History.{ObjectHistory, holds}
use Rattle.qu_history.specs.declared.sets.SetOf.{SetOf}
use Rattle.qu_history.specs.Sets.{entries_of, candidates_of, latest_of, object_candidate}
use Rattle.qu_history.proofs.Stamps.{not_below_latest}
use Rattle.qu_objects.specs.declared.state.ObjState.{ObjState}
use Rattle.qu_class.specs.declared.class.Class.{Class}
use Rattle.qu_class.specs.declared.class.Class.TheVariants.{Method, InlineMethod, Copy, InlineBarrier, Barrier, Needs}
use Rattle.qu_class.specs.Repairable.{barrier_candidate, object_base}
use Rattle.qu_class.specs.Class.{is_latest, is_full, barrier_class, class_of, is_in_sets, with_members, class_in}
use Rattle.qu_plan.specs.declared.plan.CopyPlan.{CopyPlan}
use Rattle.qu_plan.specs.declared.plan.PlanFail.{PlanFail}
use Rattle.qu_plan.specs.declared.plan.PlanFail.TheVariants as fail
use Rattle.qu_plan.specs.Beside.{is_repairable}
use Rattle.qu_plan.specs.Chosen.{chosen_on}
use Rattle.qu_plan.specs.Copying.{is_outstanding, plan_of}
use Rattle.qu_plan.specs.Linking.{Linking}
use Rattle.qu_class.proofs.GroupRule.{inline_by}
use Rattle.qu_plan.proofs.Chosen.{chosen_cases}
use Rattle.qu_plan.proofs.Copying.{IsCopied, plan_copies, IsFailed, failed_tells}
use Rattle.qu_kept.specs.Performing.{links_to_others, copied_state}
use Rattle.qu_kept.proofs.EachObject.{objects_named}
use Rattle.qu_kept.proofs.RisingObjects.{IsNumbered}
use Rattle.qu_kept.proofs.FitLinks.{links-read, links-fit, others_fit, links_with}
use Rattle.qu_kept.specs.declared.remedy.Remedy.{Remedy}
use Rattle.qu_kept.specs.declared.remedy.Remedy.TheVariants.{Nothing, Shown, Fresh, Unshown, Unplanned, Outdated}
use Rattle.qu_mends.specs.declared.mend.Mend.{Mend}
use Rattle.qu_kept.specs.declared.course.Course.{Course}
use Rattle.qu_kept.specs.Remedy.{copied_at, copy_of, copied_member}
use Rattle.qu_mends.specs.Remedy.{shown_member, copy_course, course_by, course_of, fresh_repair}
use Rattle.qu_mends.specs.Causes.{MakesCandidate, AddsVersion}
use Rattle.qu_fitting.specs.Fits.{VersionFits}
use Rattle.qu_fitting.proofs.FitStamps.{CandidateFits, CandidatesFit, opening_candidate_fits, object_candidate_shown, barrier_candidate_shown, actless_stamp_fits, prior_fits, not_opening, later_time}

-- ---- upon what a barrier or a copy rests

-- upon a stamp that fits, of no barrier, with a time up to that of the latest
pub record RestsWell (latest prior : Stamp) : Type 0 where
  pub fits : stamp_form.Fits prior
  pub plain : prior.barrier ≡ false
  pub in_time : prior.time ≤ latest.time

abbrev pub RemedyFits : ObjectId → Stamp → Remedy → Type 0
RemedyFits object latest Nothing = Unit {0}
RemedyFits object latest (Shown candidate) = CandidateFits object candidate
RemedyFits object latest (Fresh barrier prior) = RestsWell latest prior
RemedyFits object latest (Unshown member) = member.0 ≤ OBJECT_IDS - 1
RemedyFits object latest (Unplanned other) = other.0 ≤ OBJECT_IDS - 1
RemedyFits object latest (Outdated other) = other.0 ≤ OBJECT_IDS - 1

-- the group of what is made together fits a candidate that is made on the object
abbrev pub GroupFits : List (ObjectId × ℕ) → ObjectId → Stamp → Remedy → Type 0
GroupFits made object latest (Fresh barrier prior) =
    (stamp : Stamp) → stamp.time ≡ latest.time + 1 → stamp.barrier ≡ barrier → (group_form object stamp).Fits made
GroupFits made object latest _ = Unit {0}

-- a candidate fits, and a candidate may rest upon it
pub record BaseFits (object : ObjectId) (latest : Stamp) (base : Candidate) : Type 0 where
  pub candidate : CandidateFits object base
  pub rests : RestsWell latest base.stamp

-- ---- the members of a group have numbers

member_numbered : (least : ℕ) (member : ObjectId × ℕ) → (member_form least).Fits member
    → (member.0).0 ≤ OBJECT_IDS - 1
unfolding member_form
member_numbered least member fits = ((fits.0).0).1

found_numbered : (test : ObjectId × ℕ → Bool) (least : ℕ) (group : List (ObjectId × ℕ))
    → FitsFrom member_form after_member least group → (object : ObjectId)
    → option_map (λ (member : ObjectId × ℕ). member.0) (find test group) ≡ Some object → object.0 ≤ OBJECT_IDS - 1
found_numbered test least [] fits object found = absurd (none-some object found)
found_numbered test least (member ∷ later) fits object found =
    by_test (test member) found (found_numbered test (after_member member) later fits.1 object)
  where
    by_test : (here : Bool) → option_map (λ (it : ObjectId × ℕ). it.0) (cond here (Some member) (find test later))
        ≡ Some object
        → (option_map (λ (it : ObjectId × ℕ). it.0) (find test later) ≡ Some object → object.0 ≤ OBJECT_IDS - 1)
        → object.0 ≤ OBJECT_IDS - 1
    by_test true is so_far =
        subst (λ (it : ObjectId). it.0 ≤ OBJECT_IDS - 1) (same_Some member.0 object is)
        (member_numbered least member fits.0)
    by_test false is so_far = so_far is

numbered : (on : ObjectId) (candidate : Candidate) → CandidateFits on candidate → (test : ObjectId × ℕ → Bool)
    (object : ObjectId)
    → option_map (λ (member : ObjectId × ℕ). member.0) (find test candidate.group) ≡ Some object
    → object.0 ≤ OBJECT_IDS - 1
unfolding group_form members_form
numbered on candidate fits test object found =
    found_numbered test 0 candidate.group ((((fits.group).0).1).1) object found

group_numbered : (least : ℕ) (group : List (ObjectId × ℕ)) → FitsFrom member_form after_member least group
    → AllByRecursion IsNumbered (objects_named group)
group_numbered least [] fits = tt
group_numbered least (member ∷ later) fits =
    (member_numbered least member fits.0, group_numbered (after_member member) later fits.1)

all_numbered : (on : ObjectId) (candidate : Candidate) → CandidateFits on candidate
    → AllByRecursion IsNumbered (objects_named candidate.group)
unfolding group_form members_form
all_numbered on candidate fits = group_numbered 0 candidate.group ((((fits.group).0).1).1)

-- ---- what is told by a class

module _ (bounds : ℕ) (object : ObjectId) (entries : List ObjectHistory)
    (fits : CandidatesFit object (candidates_of entries)) where
  -- what an entry holds is not after the latest
  held_in_time : (held : Candidate) → holds held (candidates_of entries) ≡ true
      → held.stamp.time ≤ (latest_of entries).time
  unfolding latest_of
  held_in_time held holding =
      elim (cases_lt (latest_of entries).time held.stamp.time) [
        | inl above ↦ absurd (false≢true (sym (not_below_latest (candidates_of entries) held holding)
            ∙ is_below_by_time (latest_of entries) held.stamp above))
        | inr within ↦ within
      ]

  pub held_fits : (held : Candidate) → holds held (candidates_of entries) ≡ true → held.stamp.barrier ≡ false
      → BaseFits object (latest_of entries) held
  held_fits held holding plain = record {
    candidate = fits held holding;
    rests = record { fits = (fits held holding).stamp; plain = plain; in_time = held_in_time held holding };
  }

  pub first_fits : BaseFits object (latest_of entries) opening
  first_fits = record {
    candidate = opening_candidate_fits object;
    rests = record { fits = (opening_candidate_fits object).stamp; plain = refl; in_time = omega arith };
  }

  pub base_fits : BaseFits object (latest_of entries) (object_base bounds entries)
  unfolding object_base
  base_fits = by_found (object_candidate bounds entries) refl
    where
      by_found : (found : Option Candidate) → object_candidate bounds entries ≡ found
          → BaseFits object (latest_of entries) (unwrap_or found opening)
      by_found None is = first_fits
      by_found (Some base) is =
          let shown = object_candidate_shown bounds entries base is in held_fits base shown.0 shown.1

  abbrev base : Candidate
  base = object_base bounds entries

  -- of the class, where nothing shown is wrong
  abbrev ClassFits : Class → Type 0
  ClassFits (Method candidate) = Unit {0}
  ClassFits (InlineMethod candidate) = BaseFits object (latest_of entries) candidate
  ClassFits Copy = Unit {0}
  ClassFits (InlineBarrier candidate) = CandidateFits object candidate
  ClassFits (Barrier prior) = RestsWell (latest_of entries) prior
  ClassFits (Needs member) = member.0 ≤ OBJECT_IDS - 1

  barrier_fits : (found : Option Candidate) → barrier_candidate bounds entries ≡ found
      → ClassFits (barrier_class bounds entries base.stamp found)
  unfolding barrier_class
  barrier_fits None is = base_fits.rests
  barrier_fits (Some barrier) is = by_tests (is_latest entries barrier) (is_full bounds entries barrier)
    where
      by_tests : (latest full : Bool)
          → ClassFits (cond (latest && full) Copy (cond latest (InlineBarrier barrier) (Barrier base.stamp)))
      by_tests true true = tt
      by_tests true false = fits barrier (barrier_candidate_shown bounds entries barrier is)
      by_tests false full = base_fits.rests

  class_fits : ClassFits (class_of bounds entries)
  unfolding class_of
  class_fits = by_tests (is_latest entries base) (is_full bounds entries base)
    where
      by_tests : (latest full : Bool) → ClassFits (cond (latest && full) (Method base)
          (cond latest (InlineMethod base)
          (barrier_class bounds entries base.stamp (barrier_candidate bounds entries))))
      by_tests true true = tt
      by_tests true false = base_fits
      by_tests false full = barrier_fits (barrier_candidate bounds entries) refl

  members_fit : (sets : List SetOf) (class : Class) → ClassFits class → ClassFits (with_members bounds sets class)
  unfolding with_members
  members_fit sets (Method candidate) fit = tt
  members_fit sets (InlineMethod candidate) fit =
      inline_by bounds sets ClassFits candidate
      (λ member first. numbered object candidate fit.candidate (λ it. not (is_in_sets sets it.0)) member first)
      (λ none all. fit) (λ none differ. fit.rests)
  members_fit sets Copy fit = tt
  members_fit sets (InlineBarrier candidate) fit = fit
  members_fit sets (Barrier prior) fit = fit
  members_fit sets (Needs member) fit = fit

-- what is chosen on an object fits
chosen_fits : (bounds : ℕ) (sets : List SetOf) (link : Linking) (object : ObjectId)
    → CandidatesFit object (candidates_of (entries_of object sets))
    → BaseFits object (latest_of (entries_of object sets)) (chosen_on bounds sets link object)
chosen_fits bounds sets link object fits =
    let entries : List ObjectHistory = entries_of object sets in
    elim (chosen_cases bounds sets link object) [
      | inl first ↦ subst (BaseFits object (latest_of entries)) (sym first.0) (first_fits bounds object entries fits)
      | inr found ↦
          let chosen : Candidate = chosen_on bounds sets link object in
          let shown = (and_parts (is_repairable bounds sets object chosen) _ found.may).0 in
          held_fits bounds object entries fits chosen found.held
          (not-true chosen.stamp.barrier (and_parts (not chosen.stamp.barrier) _ shown).0)
    ]

-- ---- how an object is mended

same_left : (why : PlanFail) (member other : ObjectId) → (why ≡ fail.Needs member) ⊎ (why ≡ fail.Stale member)
    → (why ≡ fail.Needs other) ⊎ (why ≡ fail.Stale other) → member ≡ other
same_left why member other (inl one) (inl two) =
    let both : fail.Needs member ≡ fail.Needs other = sym one ∙ two in cc
same_left why member other (inl one) (inr two) =
    let both : fail.Needs member ≡ fail.Stale other = sym one ∙ two in absurd cc
same_left why member other (inr one) (inl two) =
    let both : fail.Stale member ≡ fail.Needs other = sym one ∙ two in absurd cc
same_left why member other (inr one) (inr two) =
    let both : fail.Stale member ≡ fail.Stale other = sym one ∙ two in cc

module _ (bounds : ℕ) (sets : List SetOf) (link : Linking)
    (fits : (object : ObjectId) → CandidatesFit object (candidates_of (entries_of object sets))) where
  abbrev pub MendFits : ObjectId × Remedy → Type 0
  MendFits mended = RemedyFits mended.0 (latest_of (entries_of mended.0 sets)) mended.1

  pub record CourseFits (target : ObjectId) (course : Course) : Type 0 where
    pub remedy : MendFits (target, course.remedy)
    pub members : AllByRecursion MendFits course.members

  shown_members_fit : (group : List (ObjectId × ℕ))
      → AllByRecursion MendFits (map (shown_member bounds sets) group)
  shown_members_fit [] = tt
  shown_members_fit (member ∷ later) =
      ((base_fits bounds member.0 (entries_of member.0 sets) (fits member.0)).candidate, shown_members_fit later)

  part_fits : (part : ObjectId × Candidate) → IsCopied bounds sets link part → MendFits (copied_member part)
  part_fits part is =
      subst (λ (it : Candidate). RestsWell (latest_of (entries_of part.0 sets)) it.stamp) is.is_chosen
      (chosen_fits bounds sets link part.0 (fits part.0)).rests

  parts_fit : (joint : List (ObjectId × Candidate)) → AllByRecursion (IsCopied bounds sets link) joint
      → AllByRecursion MendFits (map copied_member joint)
  parts_fit [] copied = tt
  parts_fit (part ∷ later) copied = (part_fits part copied.0, parts_fit later copied.1)

  module _ (target : ObjectId) (within : target.0 ≤ OBJECT_IDS - 1) where
    target_fits : (joint : List (ObjectId × Candidate)) → AllByRecursion (IsCopied bounds sets link) joint
        → MendFits (target, copy_of target (copied_at target joint))
    target_fits [] copied = within
    target_fits (part ∷ later) copied = by ((part.0).0 == target.0) refl (target_fits later copied.1)
      where
        by : (test : Bool) → ((part.0).0 == target.0) ≡ test
            → MendFits (target, copy_of target (copied_at target later))
            → MendFits (
              target,
              copy_of target (option_map (λ (it : ObjectId × Candidate). it.1)
                  (cond test (Some part) (find (λ (it : ObjectId × Candidate). (it.0).0 == target.0) later))),
            )
        by true here rest =
            subst (λ (it : ObjectId). MendFits (it, Fresh false part.1.stamp)) (tested_object part.0 target here)
            (part_fits part copied.0)
        by false elsewhere rest = rest

    -- a member that is left has a number
    left_numbered : (why : PlanFail) → plan_of bounds sets link target ≡ Err why → (other : ObjectId)
        → (why ≡ fail.Needs other) ⊎ (why ≡ fail.Stale other) → other.0 ≤ OBJECT_IDS - 1
    left_numbered why is other given =
        let failed : IsFailed bounds sets link target why = failed_tells bounds sets link target why is in
        let chosen : Candidate = chosen_on bounds sets link target in
        subst (λ (it : ObjectId). it.0 ≤ OBJECT_IDS - 1) (same_left why (failed.member).0 other failed.is given)
        (numbered target chosen (chosen_fits bounds sets link target (fits target)).candidate
        (is_outstanding bounds sets link target chosen) (failed.member).0
        (ap (option_map (λ (member : ObjectId × ℕ). member.0)) failed.left))

    copy_fits : class_in bounds sets target ≡ Copy → (plan : Result CopyPlan PlanFail)
        → plan_of bounds sets link target ≡ plan → CourseFits target (copy_course target plan)
    unfolding copy_course
    copy_fits copy (Ok plan) is =
        let copied = plan_copies bounds sets link target plan copy is in
        record { remedy = target_fits plan.joint copied; members = parts_fit plan.joint copied }
    copy_fits copy (Err (fail.Stale other)) is =
        record { remedy = left_numbered (fail.Stale other) is other (inr refl); members = tt }
    copy_fits copy (Err (fail.Needs other)) is =
        record { remedy = left_numbered (fail.Needs other) is other (inl refl); members = tt }
    copy_fits copy (Err fail.NoMemory) is = record { remedy = within; members = tt }

    by_class : (class : Class) → class_in bounds sets target ≡ class
        → ClassFits bounds target (entries_of target sets) (fits target) class
        → CourseFits target (course_by bounds sets target (plan_of bounds sets link target) class)
    unfolding course_by
    by_class (Method candidate) is fit = record { remedy = tt; members = tt }
    by_class (InlineMethod candidate) is fit =
        record { remedy = fit.candidate; members = shown_members_fit candidate.group }
    by_class Copy is fit = copy_fits is (plan_of bounds sets link target) refl
    by_class (InlineBarrier candidate) is fit = record { remedy = fit; members = tt }
    by_class (Barrier prior) is fit = record { remedy = fit; members = tt }
    by_class (Needs member) is fit = record { remedy = fit; members = tt }

    pub course_fits : CourseFits target (course_of bounds sets link target)
    unfolding course_of class_in
    course_fits =
        by_class (class_in bounds sets target) refl
        (members_fit bounds target (entries_of target sets) (fits target) sets
        (class_of bounds (entries_of target sets))
        (class_fits bounds target (entries_of target sets) (fits target)))

-- ---- what is added

module _ (mend : Mend) (object : ObjectId) (low : 1 ≤ (mend.client).0) (high : (mend.client).0 ≤ LAST_CLIENT)
    (sized : length (mend.set).0 ≡ 32) where
  fresh_stamp_fits : (latest : Stamp) (barrier : Bool) (prior : Stamp) → latest.time < LAST_TIME
      → stamp_form.Fits (fresh_repair mend latest barrier prior).stamp
  fresh_stamp_fits latest barrier prior in_time =
      actless_stamp_fits (latest.time + 1) barrier mend.client mend.set (later_time latest.time)
      (omega (arith, in_time)) low high sized

  fresh_fits : (latest : Stamp) (barrier : Bool) (prior : Stamp) → RestsWell latest prior
      → GroupFits mend.made object latest (Fresh barrier prior) → latest.time < LAST_TIME
      → CandidateFits object (fresh_repair mend latest barrier prior)
  fresh_fits latest barrier prior rests grouped in_time =
      let fresh : Stamp = (fresh_repair mend latest barrier prior).stamp in
      let above : (fresh.time == 0) ≡ false = later_time latest.time in
      let below : is_below prior fresh ≡ true = is_below_by_time prior fresh (omega (arith, rests.in_time)) in
      record {
        stamp = fresh_stamp_fits latest barrier prior in_time;
        prior = prior_fits fresh prior (not_opening fresh above) rests.fits below rests.plain;
        group = grouped fresh refl refl;
      }

  pub made_fits : (latest : Stamp) (remedy : Remedy) (candidate : Candidate) → RemedyFits object latest remedy
      → GroupFits mend.made object latest remedy → MakesCandidate mend latest remedy candidate
      → CandidateFits object candidate
  made_fits latest Nothing candidate fits grouped made = absurd made
  made_fits latest (Unshown member) candidate fits grouped made = absurd made
  made_fits latest (Unplanned other) candidate fits grouped made = absurd made
  made_fits latest (Outdated other) candidate fits grouped made = absurd made
  made_fits latest (Shown shown) candidate fits grouped made = subst (CandidateFits object) (sym made.0) fits
  made_fits latest (Fresh barrier prior) candidate fits grouped made =
      subst (CandidateFits object) (sym made.0) (fresh_fits latest barrier prior fits grouped made.1)

  -- whatever its group
  pub made_stamp_fits : (latest : Stamp) (remedy : Remedy) (candidate : Candidate) → RemedyFits object latest remedy
      → MakesCandidate mend latest remedy candidate → stamp_form.Fits candidate.stamp
  made_stamp_fits latest Nothing candidate fits made = absurd made
  made_stamp_fits latest (Unshown member) candidate fits made = absurd made
  made_stamp_fits latest (Unplanned other) candidate fits made = absurd made
  made_stamp_fits latest (Outdated other) candidate fits made = absurd made
  made_stamp_fits latest (Shown shown) candidate fits made =
      subst (λ (it : Candidate). stamp_form.Fits it.stamp) (sym made.0) fits.stamp
  made_stamp_fits latest (Fresh barrier prior) candidate fits made =
      subst (λ (it : Candidate). stamp_form.Fits it.stamp) (sym made.0) (fresh_stamp_fits latest barrier prior made.1)

-- a copy's version fits as that which is copied
copied_fits : (object : ObjectId) (candidate : Candidate) → CandidateFits object candidate → (before : ObjState)
    → VersionFits before → VersionFits (copied_state object candidate before)
copied_fits object candidate made before fits =
    record {
      value = fits.value;
      kept = fits.kept;
      rising = fits.rising;
      links = links-fit _ (links_with (links_to_others object candidate.stamp candidate.group) before.links
          (others_fit object candidate.stamp made.stamp candidate.group (all_numbered object candidate made))
          (links-read before.links fits.links));
    }

-- the version that is stored is a copy's, if any
pub stored_version_fits : (object : ObjectId) (candidate : Candidate) → CandidateFits object candidate
    → (remedy : Remedy) (version stored : Option ObjState) → IfSome version VersionFits
    → AddsVersion object candidate remedy version stored → IfSome stored VersionFits
stored_version_fits object candidate made Nothing version stored fits has = absurd has
stored_version_fits object candidate made (Unshown member) version stored fits has = absurd has
stored_version_fits object candidate made (Unplanned other) version stored fits has = absurd has
stored_version_fits object candidate made (Outdated other) version stored fits has = absurd has
stored_version_fits object candidate made (Shown shown) version stored fits has =
    subst (λ (it : Option ObjState). IfSome it VersionFits) (sym has.1) tt
stored_version_fits object candidate made (Fresh true prior) version stored fits has =
    subst (λ (it : Option ObjState). IfSome it VersionFits) (sym has) tt
stored_version_fits object candidate made (Fresh false prior) version stored fits has =
    subst (λ (it : Option ObjState). IfSome it VersionFits) (sym has.2)
    (copied_fits object candidate made has.0 (subst (λ (it : Option ObjState). IfSome it VersionFits) has.1 fits))
