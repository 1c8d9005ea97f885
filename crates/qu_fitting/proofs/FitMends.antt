-- What a replica decides upon a request to mend an object that fits, fits.
use Rattle.std.proofs.Common.{◌≡◌, ℕ, ◌+◌, ◌-◌, ◌<◌, ◌≤◌, Bool, true, false, cond, List, [], ◌∷◌, map, length, Option, None, Some, inl, inr, refl, sym, subst, arith}
use Rattle.std.specs.Prelude.{IfSome, is_none, nat_le, nat_lt, option_and_then, option_map}
use Rattle.std.specs.List.{AllByRecursion, cons_option}
use Rattle.std.proofs.lemmas.Bool.{and_parts, ltb-true}
use Rattle.std.proofs.lemmas.Option.{none-some, same_Some}
use Rattle.qu_base.specs.declared.limits.TheConstants.{OBJECT_IDS}
use Rattle.qu_base.specs.declared.party.ObjectId.{ObjectId}
use Rattle.qu_base.proofs.EachItem.{each_kept}
use Rattle.qu_stamp.specs.declared.stamp.Stamp.{Stamp}
use Rattle.qu_stamp.specs.Group.{is_group_size, is_member_from, are_members_from, is_group}
use Rattle.qu_stamp.specs.Formats.{stamp_form, plain_stamp_form, group_form}
use Rattle.qu_history.specs.History.{latest}
use Rattle.qu_history.specs.Sets.{latest_of}
use Rattle.qu_objects.specs.declared.state.ObjState.{ObjState}
use Rattle.qu_verdicts.specs.declared.verdict.Refusal.{Refusal}
use Rattle.qu_verdicts.specs.declared.verdict.Refusal.TheVariants.{UnknownObject, Thin, Needs, Stale, NotCurrent, NotMethod, TimeSpent, HistoryFull, Sound}
use Rattle.qu_verdicts.specs.declared.verdict.Refusal.TheVariants as refusal
use Rattle.qu_verdicts.specs.declared.verdict.Verdict.TheVariants.{Refused}
use Rattle.qu_verdicts.specs.Formats.{verdict_form}
use Rattle.qu_stamp.specs.declared.candidate.Candidate.{Candidate}
use Rattle.qu_history.specs.declared.sets.SetOf.{SetOf}
use Rattle.qu_class.specs.Class.{is_copy, class_in}
use Rattle.qu_plan.specs.Evidence.{is_read, read_key, evidence_of}
use Rattle.qu_kept.specs.declared.course.Course.{Course}
use Rattle.qu_mends.specs.declared.accepted.Accepted.{Accepted}
use Rattle.qu_kept.specs.declared.remedy.Remedy.{Remedy}
use Rattle.qu_kept.specs.declared.remedy.Remedy.TheVariants.{Nothing, Shown, Fresh, Unshown, Unplanned, Outdated}
use Rattle.qu_mends.specs.declared.mend.Mend.{Mend}
use Rattle.qu_mends.specs.declared.mending.Mending.{Mending}
use Rattle.qu_mends.specs.declared.mending.Mending.TheVariants.{Mends, Holds, Refuses}
use Rattle.qu_mends.specs.declared.mending.Mending.TheVariants as mending
use Rattle.qu_kept.specs.Remedy.{wanted_by, unless_barrier, remedies_by}
use Rattle.qu_mends.specs.Remedy.{MendPart, course_of, made_group}
use Rattle.qu_mends.specs.Mending.{missing_in}
use Rattle.qu_mends.specs.Causes.{RefusesFor, IsPartAdded, ArePartsAdded, IsToldOf, HasCause}
use Rattle.qu_mends.proofs.Members.{AreOf, Lists, AllAddPlain, IsCourse, each_course}
use Rattle.qu_rows.specs.State.{ReplicaState}
use Rattle.qu_rows.specs.declared.decision.Decision.TheVariants.{Waits}
use Rattle.qu_rows.specs.Rows.{Asked, refuse, shown_of, method_base, row_few, linking_of, missing_of, evidence_for, waits_for, row_evidence, mend_asked, part_of, mending_on, decision_by, decide_repair}
use Rattle.qu_rows.proofs.MendedObjects.{mending_has_cause}
use Rattle.qu_versions.specs.Versions.{version_at}
use Rattle.qu_fitting.specs.Fits.{VersionFits, StateFits}
use Rattle.qu_fitting.proofs.FitStamps.{CandidateFits, shown_fit, plain_fits}
use Rattle.qu_fitting.proofs.FitVerdicts.{thin_fits, needs_fits, stale_fits, time_fits, full_fits, current_fits, sound_fits, mended_fits}
use Rattle.qu_kept.proofs.RisingObjects.{IsNumbered}
use Rattle.qu_fitting.proofs.FitOperations.{found_each, base_key_fits}
use Rattle.qu_fitting.proofs.FitRepairs.{CourseFits, course_fits, made_fits, made_stamp_fits, stored_version_fits, RemedyFits, GroupFits}
use Rattle.qu_fitting.proofs.FitCopies.{MadeFits, alone_made_fits, made_groups_fit}
use Rattle.qu_fitting.proofs.FitAccepted.{version_fits, AcceptFits, AcceptAllFit}
use Rattle.qu_fitting.proofs.FitDecisions.{AskedFits, DecisionFits, Gives, past, no_row, found_has, own_fits, sets_numbered, unknown, thin, KeyFits}

-- the version that a remedy wants can be fetched
unless : (barrier : Bool) (stamp : Stamp) → stamp.barrier ≡ barrier → stamp_form.Fits stamp
    → IfSome (unless_barrier barrier stamp) (λ it. plain_stamp_form.Fits it)
unless true stamp is fits = tt
unless false stamp is fits = plain_fits stamp is fits

wanted_fits : (object : ObjectId) (latest : Stamp) (remedy : Remedy) → RemedyFits object latest remedy
    → IfSome (wanted_by remedy) (λ stamp. plain_stamp_form.Fits stamp)
unfolding wanted_by
wanted_fits object latest Nothing fits = tt
wanted_fits object latest (Unshown member) fits = tt
wanted_fits object latest (Unplanned other) fits = tt
wanted_fits object latest (Outdated other) fits = tt
wanted_fits object latest (Shown candidate) fits = unless (candidate.stamp.barrier) candidate.stamp refl fits.stamp
wanted_fits object latest (Fresh true prior) fits = tt
wanted_fits object latest (Fresh false prior) fits = plain_fits prior fits.plain fits.fits

numbered_member : (least : ℕ) (member : ObjectId × ℕ) → is_member_from least member ≡ true
    → (member.0).0 ≤ OBJECT_IDS - 1
numbered_member least member is =
    let rest = (and_parts (nat_le least (member.0).0) _ is).1 in
    let below : (member.0).0 < OBJECT_IDS =
    ltb-true (member.0).0 OBJECT_IDS (and_parts (nat_lt (member.0).0 OBJECT_IDS) _ rest).0 in
    omega (arith, below)

module _ (state : ReplicaState) (asked : Asked) (fits : StateFits state) (asks : AskedFits asked) where
  abbrev RemedyFitsOf : ObjectId × Remedy → Type 0
  RemedyFitsOf mended = RemedyFits mended.0 (latest_of (shown_of asked mended.0)) mended.1

  -- an object has a number, and what mends it fits, also with this group of what is made
  module _ (made : List (ObjectId × ℕ)) where
    abbrev MendedFits : ObjectId × Remedy → Type 0
    MendedFits mended =
        ((mended.0).0 ≤ OBJECT_IDS - 1) × RemedyFitsOf mended
        × GroupFits made mended.0 (latest_of (shown_of asked mended.0)) mended.1

    abbrev AllMendedFit : List (ObjectId × Remedy) → Type 0
    AllMendedFit remedies = AllByRecursion MendedFits remedies

    members_fit_from : (least : ℕ) (group : List (ObjectId × ℕ)) → are_members_from least group ≡ true
        → (members : List (ObjectId × Remedy)) → AreOf group members → AllByRecursion RemedyFitsOf members
        → AllByRecursion (MadeFits asked made) members → AllMendedFit members
    unfolding are_members_from
    members_fit_from least [] rise [] of fit grouped = tt
    members_fit_from least [] rise (mended ∷ more) of fit grouped = absurd of
    members_fit_from least (member ∷ later) rise [] of fit grouped = absurd of
    members_fit_from least (member ∷ later) rise (mended ∷ more) of fit grouped =
        let both = and_parts (is_member_from least member) (are_members_from ((member.0).0 + 1) later) rise in (
          (
            subst (λ (it : ObjectId). it.0 ≤ OBJECT_IDS - 1) (sym of.0) (numbered_member least member both.0),
            fit.0,
            grouped.0,
          ),
          members_fit_from ((member.0).0 + 1) later both.1 more of.1 fit.1 grouped.1,
        )

  remedies_fit : (target : ObjectId) → target.0 ≤ OBJECT_IDS - 1 → (course : Course)
      → RemedyFitsOf (target, course.remedy) → AllByRecursion RemedyFitsOf course.members
      → AllAddPlain course.members → (group : List (ObjectId × ℕ)) → is_group group ≡ true → Lists group course.members
      → AllMendedFit (made_group asked.sets group) (remedies_by target course group)
  unfolding remedies_by is_group
  remedies_fit target within course fit fits plain [] is lists =
      ((within, fit, alone_made_fits target (latest_of (shown_of asked target)) course.remedy), tt)
  remedies_fit target within course fit fits plain (member ∷ later) is lists =
      members_fit_from (made_group asked.sets (member ∷ later)) 0 (member ∷ later)
      (and_parts (is_group_size (length (member ∷ later))) (are_members_from 0 (member ∷ later)) is).1
      course.members lists fits (made_groups_fit asked (member ∷ later) is course.members lists plain)

  -- ---- what the replica has of each

  abbrev parts_by : List (ObjectId × Remedy) → List MendPart
  parts_by remedies = map (part_of state asked) remedies

  abbrev HasFit : MendPart → Type 0
  HasFit part = ((part.object).0 ≤ OBJECT_IDS - 1) × stamp_form.Fits (latest part.own)

  parts_fit : (made : List (ObjectId × ℕ)) (remedies : List (ObjectId × Remedy)) → AllMendedFit made remedies
      → AllByRecursion HasFit (parts_by remedies)
  parts_fit made [] all = tt
  parts_fit made (mended ∷ later) all =
      (((all.0).0, own_fits state asked fits asks mended.0), parts_fit made later all.1)

  found_fits : (object : ObjectId) (wanted : Option Stamp)
      → IfSome (option_and_then (λ (stamp : Stamp). version_at object stamp state.versions) wanted) VersionFits
  found_fits object None = tt
  found_fits object (Some stamp) = by_found (version_at object stamp state.versions) refl
    where
      by_found : (found : Option ObjState) → version_at object stamp state.versions ≡ found
          → IfSome found VersionFits
      by_found None is = tt
      by_found (Some version) is = version_fits object stamp state.versions version fits.versions is

  by_key : (object : ObjectId) → object.0 ≤ OBJECT_IDS - 1 → (found : Option ObjState) (wanted : Option Stamp)
      → IfSome wanted (λ stamp. plain_stamp_form.Fits stamp) → (rest : List (ObjectId × Stamp))
      → AllByRecursion KeyFits rest
      → AllByRecursion KeyFits
      (cons_option (cond (is_none found) (option_map (λ (it : Stamp). (object, it)) wanted) None) rest)
  by_key object within (Some version) wanted fit rest so_far = so_far
  by_key object within None None fit rest so_far = so_far
  by_key object within None (Some stamp) fit rest so_far = (record { object = within; stamp = fit }, so_far)

  missing_fit : (made : List (ObjectId × ℕ)) (remedies : List (ObjectId × Remedy)) → AllMendedFit made remedies
      → AllByRecursion KeyFits (missing_in (parts_by remedies))
  missing_fit made [] all = tt
  missing_fit made (mended ∷ later) all =
      by_key mended.0 (all.0).0 (part_of state asked mended).version (wanted_by mended.1)
      (wanted_fits mended.0 (part_of state asked mended).latest mended.1 (all.0).1)
      (missing_in (parts_by later)) (missing_fit made later all.1)

  -- ---- what is decided

  module _ (object : ObjectId) (within : object.0 ≤ OBJECT_IDS - 1) where
    refused_if : (why : Refusal) (test : Bool) → verdict_form.Fits (Refused why)
        → Gives (cond test (Some (refuse why)) None)
    refused_if why false fit decision given = absurd (none-some decision given)
    refused_if why true fit decision given =
        subst DecisionFits (same_Some (refuse why) decision given) (fit, tt)

    few : Gives (row_few state asked object)
    unfolding row_few
    few = refused_if (Thin object) _ (thin_fits object within)

    key_read : (set : SetOf) → IsNumbered set.object → (test : Bool) (found : Option Candidate)
        → method_base state asked set.object ≡ found → (key : ObjectId × Stamp)
        → cond test (option_map (λ (version : Candidate). (set.object, version.stamp)) found) None ≡ Some key
        → KeyFits key
    key_read set numbered false found is key given = absurd (none-some key given)
    key_read set numbered true None is key given = absurd (none-some key given)
    key_read set numbered true (Some version) is key given =
        subst KeyFits (same_Some (set.object, version.stamp) key given)
        (base_key_fits state asked fits asks set.object numbered version is)

    evidence_fits : (copied : Bool)
        → AllByRecursion KeyFits (cond copied (evidence_of state.keys.bounds asked.sets object) [])
    unfolding evidence_of
    evidence_fits false = tt
    evidence_fits true =
        found_each (λ (set : SetOf). IsNumbered set.object) KeyFits
        (λ (set : SetOf). read_key state.keys.bounds asked.sets object set.object)
        (λ set numbered key given. key_read set numbered (is_read state.keys.bounds asked.sets object set.object)
        (method_base state asked set.object) refl key given) asked.sets (sets_numbered asked.sets asks.sets)

    waits-fit : (missing : List (ObjectId × Stamp)) → AllByRecursion KeyFits missing → Gives (waits_for missing)
    waits-fit [] fit decision given = absurd (none-some decision given)
    waits-fit (key ∷ more) fit decision given =
        subst DecisionFits (same_Some (Waits (key ∷ more)) decision given) fit

    evidence : Gives (row_evidence state asked object)
    unfolding row_evidence
    evidence = waits-fit (missing_of state (evidence_for state asked object))
        (each_kept KeyFits _ (evidence_for state asked object)
        (evidence_fits (is_copy (class_in state.keys.bounds asked.sets object))))

    abbrev mend : Mend
    mend = mend_asked state asked object

    abbrev course : Course
    course = course_of state.keys.bounds asked.sets (linking_of state) object

    fits_of_course : CourseFits state.keys.bounds asked.sets (linking_of state) (shown_fit asked.sets asks.sets) object
        course
    fits_of_course =
        course_fits state.keys.bounds asked.sets (linking_of state) (shown_fit asked.sets asks.sets) object within

    mend_fits : RemedyFits object mend.latest mend.remedy
    mend_fits = fits_of_course.remedy

    abbrev remedies : List (ObjectId × Remedy)
    remedies = mend.remedies

    all_fit : AllMendedFit mend.made remedies
    all_fit =
        let is : IsCourse state.keys.bounds asked.sets course =
        each_course state.keys.bounds asked.sets (linking_of state) object in
        remedies_fit object within course fits_of_course.remedy fits_of_course.members is.plain course.group is.whole
        is.lists

    why_fits : (why : Refusal) → RefusesFor mend (parts_by remedies) why → verdict_form.Fits (Refused why)
    why_fits (NotCurrent on stamp) cause =
        let fit : HasFit cause.0 =
        found_has HasFit _ (parts_by remedies) (parts_fit mend.made remedies all_fit) cause.0 cause.1 in
        subst (λ (it : ObjectId). verdict_form.Fits (Refused (NotCurrent it stamp))) (sym cause.2)
        (current_fits (cause.0).object fit.0 stamp (subst (λ (it : Stamp). stamp_form.Fits it) (sym cause.3) fit.1))
    why_fits (Sound on) cause =
        subst (λ (it : ObjectId). verdict_form.Fits (Refused (Sound it))) (sym cause.0) (sound_fits object within)
    why_fits (TimeSpent on) (inl cause) =
        let fit : HasFit cause.0 =
        found_has HasFit _ (parts_by remedies) (parts_fit mend.made remedies all_fit) cause.0 cause.1 in
        subst (λ (it : ObjectId). verdict_form.Fits (Refused (TimeSpent it))) (sym cause.2)
        (time_fits (cause.0).object fit.0)
    why_fits (TimeSpent on) (inr cause) =
        subst (λ (it : ObjectId). verdict_form.Fits (Refused (TimeSpent it))) (sym cause.0) (time_fits object within)
    why_fits (HistoryFull on) cause =
        let fit : HasFit cause.0 =
        found_has HasFit _ (parts_by remedies) (parts_fit mend.made remedies all_fit) cause.0 cause.1 in
        subst (λ (it : ObjectId). verdict_form.Fits (Refused (HistoryFull it))) (sym cause.2)
        (full_fits (cause.0).object fit.0)
    why_fits (Thin on) cause = absurd cause
    why_fits (Needs on) cause = elim cause [
      | inl unshown ↦ needs_fits on (subst (RemedyFits object mend.latest) unshown mend_fits)
      | inr unplanned ↦ needs_fits on (subst (RemedyFits object mend.latest) unplanned mend_fits)
    ]
    why_fits (Stale on) cause = stale_fits on (subst (RemedyFits object mend.latest) cause mend_fits)
    why_fits (NotMethod on class) cause = absurd cause
    why_fits (refusal.Spent on number) cause = absurd cause
    why_fits (UnknownObject on) cause = absurd cause

    told_fits : (stamp : Stamp) → IsToldOf mend stamp → stamp_form.Fits stamp
    told_fits stamp told =
        subst (λ (it : Stamp). stamp_form.Fits it) told.2
        (made_stamp_fits mend object asks.low asks.high asks.set mend.latest mend.remedy told.0 mend_fits told.1)

    added_fits : (mended : ObjectId × Remedy) (one : Accepted) → MendedFits mend.made mended
        → IsPartAdded mend (part_of state asked mended) one → AcceptFits one
    added_fits mended one fit added =
        let part : MendPart = part_of state asked mended in
        let made : CandidateFits mended.0 one.candidate =
        made_fits mend mended.0 asks.low asks.high asks.set part.latest mended.1 one.candidate fit.1 fit.2
        added.makes in
        record {
          stamp = made.stamp;
          prior = made.prior;
          group = subst (λ (it : ObjectId). (group_form it one.candidate.stamp).Fits one.candidate.group)
              (sym added.object) made.group;
          version = stored_version_fits mended.0 one.candidate made mended.1 part.version one.state
              (found_fits mended.0 (wanted_by mended.1)) added.version;
        }

    all_added_fit : (some : List (ObjectId × Remedy)) (accepted : List Accepted) → AllMendedFit mend.made some
        → ArePartsAdded mend (parts_by some) accepted → AcceptAllFit accepted
    all_added_fit [] [] all added = tt
    all_added_fit [] (one ∷ more) all added = absurd added
    all_added_fit (mended ∷ later) [] all added = absurd added
    all_added_fit (mended ∷ later) (one ∷ more) all added =
        (added_fits mended one all.0 added.0, all_added_fit later more all.1 added.1)

    caused_fits : (made : Mending) → HasCause mend (parts_by remedies) made → DecisionFits (decision_by object made)
    caused_fits (Mends stamp accepted) cause =
        (mended_fits object within stamp (told_fits stamp cause.0), all_added_fit remedies accepted all_fit cause.1)
    caused_fits (Holds stamp) cause = (mended_fits object within stamp (told_fits stamp cause.0), tt)
    caused_fits (Refuses why) cause = (why_fits why cause, tt)
    caused_fits (mending.Waits missing) cause =
        subst (AllByRecursion KeyFits) (sym cause.0) (missing_fit mend.made remedies all_fit)

    mended : Gives (Some (decision_by object (mending_on state asked object)))
    mended decision given =
        subst DecisionFits (same_Some (decision_by object (mending_on state asked object)) decision given)
        (caused_fits (mending_on state asked object) (mending_has_cause state asked object))

    pub mend_decision-fits : DecisionFits (decide_repair state asked object)
    unfolding decide_repair
    mend_decision-fits =
        past _ _ (unknown state asked fits asks) (λ _.
        past _ _ (thin state asked fits asks) (λ _.
        past _ _ few (λ _. past _ _ evidence (λ _. past _ _ mended (λ _. no_row)))))
