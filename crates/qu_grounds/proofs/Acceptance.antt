-- What a replica accepts upon a frame, and why: nothing, or one candidate on each object of an act.
use Rattle.std.proofs.Common.{◌≡◌, ◌⊎◌, ℕ, Bool, true, false, cond, List, [], ◌∷◌, ◌++◌, map, length, Option, None, Some, Result, Ok, Err, inl, inr, refl, sym, subst, ap, ◌∙◌, ltb, ◌≤◌}
use Rattle.std.specs.Prelude.{find, nat_lt}
use Rattle.std.specs.List.{AllByRecursion}
use Rattle.std.proofs.lemmas.Option.{none-some, same_Some}
use Rattle.qu_base.specs.declared.party.ClientId.{ClientId}
use Rattle.qu_base.specs.declared.party.ObjectId.{ObjectId}
use Rattle.qu_stamp.specs.declared.candidate.Candidate.{Candidate}
use Rattle.qu_stamp.specs.Stamp.{is_below}
use Rattle.qu_class.specs.Repairable.{object_base as object_base}
use Rattle.qu_history.specs.declared.sets.SetOf.{SetOf}
use Rattle.qu_history.specs.Culling.{culled}
use Rattle.qu_history.specs.Sets.{latest_of, entries_of}
use Rattle.qu_objects.specs.declared.state.ObjState.{ObjState}
use Rattle.qu_frames.specs.declared.frame.Body.TheVariants as body
use Rattle.qu_frames.specs.declared.frame.Frame.{Frame}
use Rattle.qu_frames.specs.declared.frame.Frame.TheVariants as frame
use Rattle.qu_verdicts.specs.declared.verdict.Refusal.{Refusal}
use Rattle.qu_verdicts.specs.declared.verdict.Refusal.TheVariants as refusal
use Rattle.qu_mends.specs.declared.accepted.Accepted.{Accepted}
use Rattle.qu_rows.specs.declared.decision.Decision.{Decision}
use Rattle.qu_rows.specs.declared.decision.Decision.TheVariants.{Waits}
use Rattle.qu_rows.specs.State.{ReplicaState, own_candidates, own_latest}
use Rattle.qu_mends.specs.Table.{candidates_in}
use Rattle.qu_fitting.specs.Holding.{stored_with, accept, accept_all}
use Rattle.qu_rows.specs.Rows.{Asked, asked_at, refuse, shown_of, decision_on, row_few, decide_repair, mend_asked, wanted_version, linking_of, missing_of, evidence_for, waits_for, row_evidence, row_thin, part_of, parts_of, decision_by, mending_on}
use Rattle.qu_mends.specs.Table.{first_given}
use Rattle.qu_replica.specs.Step.{carried_out, replica_on_frame}
use Rattle.qu_rows.specs.Allowed.{HasParts, MayAccept, MayAcceptAll}
use Rattle.qu_fitting.proofs.Accepting.{other_history}
use Rattle.qu_rows.proofs.Allowed.{decision_on-may, unmapped, enough_shown}
use Rattle.qu_claims.specs.Grounds.{Accepts, IsRemedy}
use Rattle.qu_mends.specs.declared.mending.Mending.{Mending}
use Rattle.qu_mends.specs.declared.mending.Mending.TheVariants as mending
use Rattle.qu_mends.specs.declared.mend.Mend.{Mend}
use Rattle.qu_kept.specs.declared.remedy.Remedy.TheVariants.{Shown}
use Rattle.qu_kept.specs.declared.course.Course.{Course}
use Rattle.qu_kept.specs.Remedy.{whole_group, chosen_member, remedies_by}
use Rattle.qu_mends.specs.Remedy.{shown_member, copy_course, course_by, course_of, fresh_member, made_group}
use Rattle.qu_mends.specs.Causes.{IsPartAdded, ArePartsAdded, HasCause}
use Rattle.qu_class.specs.Rows.{AreWellFormed, IsGreatestOfKind, AllShown}
use Rattle.qu_class.proofs.OfKind.{base_is_greatest, held_if_repairable}
use Rattle.qu_stamp.specs.Group.{is_group}
use Rattle.qu_grounds.proofs.Formed.{AreGrouped}
use Rattle.qu_base.specs.Bounds.{quorum}
use Rattle.qu_base.proofs.Items.{no_item}
use Rattle.qu_class.specs.Class.{class_in}
use Rattle.qu_plan.specs.declared.plan.CopyPlan.{CopyPlan}
use Rattle.qu_plan.specs.declared.plan.PlanFail.{PlanFail}
use Rattle.qu_plan.specs.declared.plan.PlanFail.TheVariants as why
use Rattle.qu_plan.specs.Chosen.{chosen_on}
use Rattle.qu_plan.specs.Copying.{plan_of}
use Rattle.qu_plan.specs.Linking.{Linking}
use Rattle.qu_plan.proofs.Chosen.{chosen_sound}
use Rattle.qu_stamp.specs.declared.stamp.Stamp.{Stamp}
use Rattle.qu_class.specs.declared.class.Class.{Class}
use Rattle.qu_class.specs.declared.class.Class.TheVariants as class
use Rattle.qu_class.proofs.GroupRule.{own_tells}
use Rattle.qu_mends.proofs.Members.{IsShownWith, each_course, group_agrees}
use Rattle.qu_rows.proofs.MendedObjects.{mending_has_cause, enough_in_sets}
use Rattle.qu_grounds.proofs.Remedies.{inlined, wanted_plain, planned_of, remedy_is, adds_alone}
use Rattle.qu_grounds.proofs.GroupAcceptance.{each_member, members_listed, IsJoinedAt, AddsGroup, joined, all_joined, adds_group, group_stamps}
use Rattle.qu_grounds.proofs.CopyAcceptance.{copies_added}
use Rattle.qu_claims.specs.Parts.{Names}
use Rattle.qu_versions.specs.declared.stored.Stored.{Stored}
use Rattle.std.proofs.lemmas.List.{append-nil}
use Rattle.qu_grounds.proofs.ActAcceptance.{accepted_in, AcceptsNothing, unknown, thin, past, ask_accepts, carried, may_accept, candidates_after, stays, act_moves, alike_candidates}
use Rattle.qu_replica.specs.Growth.{HoldsAlike}
use Rattle.qu_waiting.specs.Waiting.{TakenRequest, request_frame_of}
use Rattle.qu_frames.specs.declared.frame.Body.{Body}

-- ---- a repair

-- what a replica adds to mend an object
record AddsOne (state : ReplicaState) (asked : Asked) (target : ObjectId) (accepted : List Accepted) : Type 0 where
  candidate : Candidate
  version : Option ObjState
  current : is_below (latest_of (shown_of asked target)) (own_latest state target) ≡ false
  above : is_below (own_latest state target) candidate.stamp ≡ true
  whole : candidate.group ≡ []
  remedy : IsRemedy state asked target target candidate version
  alone : accepted ≡ record { object = target; candidate = candidate; state = version } ∷ []

-- on the target alone, or on all objects of a group
abbrev AddsSome : ReplicaState → Asked → ObjectId → List Accepted → Type 0
AddsSome state asked target accepted =
    AddsOne state asked target accepted
    ⊎ ((member : ObjectId × ℕ) × (later : List (ObjectId × ℕ)) × AddsGroup state asked target (member ∷ later) accepted)

abbrev AddsSomeOrNone : ReplicaState → Asked → ObjectId → List Accepted → Type 0
AddsSomeOrNone state asked target accepted =
    (accepted ≡ [])
    ⊎ ((quorum state.keys.bounds ≤ length (shown_of asked target)) × AddsSome state asked target accepted)

module _ (state : ReplicaState) (asked : Asked) (no_act : asked.act ≡ None)
    (formed : (object : ObjectId) → AreWellFormed state.keys.bounds (shown_of asked object))
    (grouped : (object : ObjectId) → AreGrouped (shown_of asked object))
    (fat : find (λ (set : SetOf). nat_lt (length set.entries) (quorum state.keys.bounds)) asked.sets ≡ None)
    (target : ObjectId) (enough : quorum state.keys.bounds ≤ length (shown_of asked target))
    (ready : missing_of state (evidence_for state asked target) ≡ []) where
  abbrev asked_mend : Mend
  asked_mend = mend_asked state asked target

  abbrev own_bounds : ℕ
  own_bounds = state.keys.bounds

  abbrev base_on : ObjectId → Candidate
  base_on object = object_base own_bounds (shown_of asked object)

  abbrev own_link : Linking
  own_link = linking_of state

  -- what is chosen on the target has a group, or stands alone
  chosen_grouped : is_group (chosen_on own_bounds asked.sets own_link target).group ≡ true
  chosen_grouped =
      (grouped target (chosen_on own_bounds asked.sets own_link target)
      (held_if_repairable own_bounds (shown_of asked target) (formed target)
      (chosen_on own_bounds asked.sets own_link target)
      (chosen_sound own_bounds asked.sets own_link target (formed target) enough).order)).whole

  abbrev course : Course
  course = course_of own_bounds asked.sets own_link target

  one_added : (one : Accepted) → course.group ≡ []
      → IsPartAdded asked_mend (part_of state asked (target, asked_mend.remedy)) one
      → AddsOne state asked target (one ∷ [])
  unfolding course_of
  one_added one none added = record {
    candidate = one.candidate;
    version = one.state;
    current = (added.may).current;
    above = (added.may).above;
    whole = adds_alone state asked target no_act (class_in own_bounds asked.sets target)
        (own_tells own_bounds asked.sets target (formed target) enough) (formed target) (grouped target)
        (ap (made_group asked.sets) none) none one.candidate added.makes;
    remedy = remedy_is state asked target no_act ready (class_in own_bounds asked.sets target) refl
        (own_tells own_bounds asked.sets target (formed target) enough) chosen_grouped
        (ap (made_group asked.sets) none) none one.candidate one.state added.makes added.version;
    alone = ap (λ (it : ObjectId). record { object = it; candidate = one.candidate; state = one.state } ∷ [])
        added.object;
  }

  -- what is added as it is has its version already
  abbrev no_version : ObjectId → Option ObjState
  no_version object = None

  joined_at : (group : List (ObjectId × ℕ)) (object : ObjectId) (one : Accepted)
      → quorum own_bounds ≤ length (shown_of asked object) → IsShownWith own_bounds asked.sets group object
      → IsPartAdded asked_mend (part_of state asked (object, Shown (base_on object))) one
      → IsJoinedAt state asked target group base_on no_version object
  joined_at group object one shown agrees added =
      let greatest : IsGreatestOfKind own_bounds (shown_of asked object) false (base_on object) =
      base_is_greatest own_bounds (shown_of asked object) (formed object) shown in
      let plain : (base_on object).stamp.barrier ≡ false = (greatest.repairable).kind in
      record {
        enough = shown;
        current = (added.may).current;
        above = subst (λ (it : Candidate). is_below (own_latest state object) it.stamp ≡ true) (added.makes).0
            (added.may).above;
        whole = agrees.1;
        remedy = inlined state asked target object no_act (base_on object) (base_on object)
            (wanted_version state object (Shown (base_on object))) None refl
            (record { greatest = greatest; latest = agrees.0 })
            (sym (wanted_plain state asked target object no_act (base_on object) plain)) ((added.version).0 plain) refl;
      }

  -- each member is joined
  all_joined_at : (group members : List (ObjectId × ℕ)) (accepted : List Accepted)
      → AllShown asked.sets members
      → AllByRecursion (λ member. IsShownWith own_bounds asked.sets group member.0) members
      → ArePartsAdded asked_mend
      (map (part_of state asked) (map (shown_member own_bounds asked.sets) members)) accepted
      → (accepted ≡ all_joined base_on no_version members)
      × AllByRecursion (λ member. IsJoinedAt state asked target group base_on no_version member.0) members
  all_joined_at group [] [] in_sets agree added = (refl, tt)
  all_joined_at group [] (one ∷ more) in_sets agree added = absurd added
  all_joined_at group (member ∷ later) [] in_sets agree added = absurd added
  all_joined_at group (member ∷ later) (one ∷ more) in_sets agree added =
      let rest = all_joined_at group later more in_sets.1 agree.1 added.1 in
      let object : one.object ≡ member.0 = (added.0).object in
      let candidate : one.candidate ≡ base_on member.0 = ((added.0).makes).0 in
      let stored : one.state ≡ None = ((added.0).version).1 in
      let here : one ≡ joined base_on no_version member.0 =
      λ i. record { object = object i; candidate = candidate i; state = stored i } in (
        ap (λ (it : Accepted). it ∷ more) here
            ∙ ap (λ (it : List Accepted). joined base_on no_version member.0 ∷ it) rest.0,
        (
          joined_at group member.0 one (enough_in_sets (quorum own_bounds) asked.sets member.0 fat in_sets.0) agree.0
              added.0,
          rest.1,
        ),
      )

  abbrev AddsSomeGroup : List Accepted → Type 0
  AddsSomeGroup accepted =
      (member : ObjectId × ℕ) × (later : List (ObjectId × ℕ)) × AddsGroup state asked target (member ∷ later) accepted

  -- the candidates of a group are added as they are
  inline_group : (shown : Candidate) (member : ObjectId × ℕ) (later : List (ObjectId × ℕ))
      → class_in own_bounds asked.sets target ≡ class.InlineMethod shown
      → whole_group shown.group ≡ member ∷ later → AllShown asked.sets (member ∷ later) → (accepted : List Accepted)
      → ArePartsAdded asked_mend
      (map (part_of state asked) (map (shown_member own_bounds asked.sets) (member ∷ later))) accepted
      → AddsSomeGroup accepted
  inline_group shown member later is whole in_sets accepted added =
      let group : List (ObjectId × ℕ) = member ∷ later in
      let both = all_joined_at group group accepted in_sets
      (group_agrees own_bounds asked.sets target shown member later is whole) added in
      let each : (object : ObjectId) → Names group object
      → IsJoinedAt state asked target group base_on no_version object =
      each_member (IsJoinedAt state asked target group base_on no_version) group both.1 in (
        member,
        later,
        record {
          candidates = base_on;
          versions = no_version;
          all = both.0;
          each = each;
          listed = λ object other names besides.
              members_listed shown base_on group (group_stamps own_bounds asked.sets target shown member later is whole)
              object other (each object names).whole names besides;
        },
      )

  whole_is : (group : List (ObjectId × ℕ)) (test : Bool) (member : ObjectId × ℕ) (later : List (ObjectId × ℕ))
      → is_group group ≡ test → cond test group [] ≡ member ∷ later
      → (is_group group ≡ true) × (group ≡ member ∷ later)
  whole_is group true member later is given = (is, given)
  whole_is group false member later is given = absurd (no_item member later given)

  -- or copied
  copied_group_added : class_in own_bounds asked.sets target ≡ class.Copy → (plan : Result CopyPlan PlanFail)
      → plan_of own_bounds asked.sets own_link target ≡ plan → (member : ObjectId × ℕ) (later : List (ObjectId × ℕ))
      → asked_mend.made ≡ made_group asked.sets (member ∷ later) → (copy_course target plan).group ≡ member ∷ later
      → (accepted : List Accepted)
      → ArePartsAdded asked_mend (map (part_of state asked) (copy_course target plan).members) accepted
      → AddsSomeGroup accepted
  unfolding copy_course
  copied_group_added copy (Ok plan) is member later made group accepted added =
      let members : List (ObjectId × ℕ) = map chosen_member plan.joint in
      let whole = whole_is members (is_group members) member later refl group in (
        fresh_member asked.sets member,
        map (fresh_member asked.sets) later,
        subst (λ (it : List (ObjectId × ℕ)). AddsGroup state asked target (map (fresh_member asked.sets) it) accepted)
            whole.1
            (copies_added state asked target no_act formed plan (planned_of state asked target ready plan copy is)
            whole.0
            (made ∙ ap (made_group asked.sets) (sym whole.1)) accepted added),
      )
  copied_group_added copy (Err (why.Stale other)) is member later made none accepted added =
      absurd (no_item member later none)
  copied_group_added copy (Err (why.Needs other)) is member later made none accepted added =
      absurd (no_item member later none)
  copied_group_added copy (Err why.NoMemory) is member later made none accepted added =
      absurd (no_item member later none)

  abbrev course_by_class : Class → Course
  course_by_class class = course_by own_bounds asked.sets target (plan_of own_bounds asked.sets own_link target) class

  by_class : (class : Class) → class_in own_bounds asked.sets target ≡ class → (member : ObjectId × ℕ)
      (later : List (ObjectId × ℕ)) → asked_mend.made ≡ made_group asked.sets (member ∷ later)
      → AllShown asked.sets (member ∷ later) → (course_by_class class).group ≡ member ∷ later
      → (accepted : List Accepted)
      → ArePartsAdded asked_mend (map (part_of state asked) (course_by_class class).members) accepted
      → AddsSomeGroup accepted
  unfolding course_by
  by_class (class.Method base) is member later made shown none accepted added = absurd (no_item member later none)
  by_class (class.InlineMethod base) is member later made shown group accepted added =
      let whole = whole_is base.group (is_group base.group) member later refl group in
      inline_group base member later is group shown accepted
      (subst (λ (it : List (ObjectId × ℕ)). ArePartsAdded asked_mend
      (map (part_of state asked) (map (shown_member own_bounds asked.sets) it)) accepted) whole.1 added)
  by_class class.Copy is member later made shown group accepted added =
      copied_group_added is (plan_of own_bounds asked.sets own_link target) refl member later made group accepted added
  by_class (class.InlineBarrier base) is member later made shown none accepted added =
      absurd (no_item member later none)
  by_class (class.Barrier prior) is member later made shown none accepted added =
      absurd (no_item member later none)
  by_class (class.Needs object) is member later made shown none accepted added =
      absurd (no_item member later none)

  by_group : (group : List (ObjectId × ℕ)) → course.group ≡ group → (accepted : List Accepted)
      → ArePartsAdded asked_mend (map (part_of state asked) (remedies_by target course group)) accepted
      → AddsSome state asked target accepted
  unfolding remedies_by course_of
  by_group [] is [] added = absurd added
  by_group [] is (one ∷ []) added = inl (one_added one is added.0)
  by_group [] is (one ∷ second ∷ more) added = absurd added.1
  by_group (member ∷ later) is accepted added =
      inr (by_class (class_in own_bounds asked.sets target) refl member later (ap (made_group asked.sets) is)
      (subst (AllShown asked.sets) is (each_course own_bounds asked.sets own_link target).shown) is accepted added)

  mended : (made : Mending) → HasCause asked_mend (parts_of state asked target) made
      → AddsSomeOrNone state asked target (accepted_in (decision_by target made))
  mended (mending.Mends stamp accepted) cause = inr (enough, by_group course.group refl accepted cause.1)
  mended (mending.Holds stamp) cause = inl refl
  mended (mending.Refuses why) cause = inl refl
  mended (mending.Waits missing) cause = inl refl

few : (state : ReplicaState) (asked : Asked) (target : ObjectId) → AcceptsNothing (row_few state asked target)
unfolding row_few
few state asked target =
    refused_if (ltb (length (shown_of asked target)) (quorum state.keys.bounds)) (refusal.Thin target)
  where
    refused_if : (test : Bool) (why : Refusal) → AcceptsNothing (cond test (Some (refuse why)) None)
    refused_if false why decision given = absurd (none-some decision given)
    refused_if true why decision given = ap accepted_in (sym (same_Some (refuse why) decision given))

-- what waits accepts nothing
waits_for_some : (missing : List (ObjectId × Stamp)) → AcceptsNothing (waits_for missing)
waits_for_some [] decision given = absurd (none-some decision given)
waits_for_some (key ∷ more) decision given = ap accepted_in (sym (same_Some (Waits (key ∷ more)) decision given))

evidence : (state : ReplicaState) (asked : Asked) (target : ObjectId)
    → AcceptsNothing (row_evidence state asked target)
unfolding row_evidence
evidence state asked target = waits_for_some (missing_of state (evidence_for state asked target))

none_awaited : (missing : List (ObjectId × Stamp)) → waits_for missing ≡ None → missing ≡ []
none_awaited [] none = refl
none_awaited (key ∷ more) none = absurd (none-some (Waits (key ∷ more)) (sym none))

all_known : (state : ReplicaState) (asked : Asked) (target : ObjectId) → row_evidence state asked target ≡ None
    → missing_of state (evidence_for state asked target) ≡ []
unfolding row_evidence
all_known state asked target none = none_awaited (missing_of state (evidence_for state asked target)) none

at_last : (P : List Accepted → Type 0) (decision : Decision) → P (accepted_in decision)
    → P (accepted_in (first_given (Waits []) (Some decision ∷ [])))
unfolding first_given
at_last P decision holds_so = holds_so

-- no object of the sets is thin
not_thin : (state : ReplicaState) (asked : Asked) → row_thin state asked ≡ None
    → find (λ (set : SetOf). nat_lt (length set.entries) (quorum state.keys.bounds)) asked.sets ≡ None
unfolding row_thin
not_thin state asked none = unmapped (λ (set : SetOf). refuse (refusal.Thin set.object)) _ none

repair_accepts : (state : ReplicaState) (asked : Asked) (target : ObjectId) → asked.act ≡ None
    → ((object : ObjectId) → AreWellFormed state.keys.bounds (shown_of asked object))
    → ((object : ObjectId) → AreGrouped (shown_of asked object))
    → AddsSomeOrNone state asked target (accepted_in (decide_repair state asked target))
unfolding decide_repair
repair_accepts state asked target no_act formed grouped =
    let most : List Accepted → Type 0 = λ accepted. AddsSomeOrNone state asked target accepted in
    past most _ _ (inl refl) (unknown state asked) (λ _.
    past most _ _ (inl refl) (thin state asked) (λ fat.
    past most _ _ (inl refl) (few state asked target) (λ enough.
    past most _ _ (inl refl) (evidence state asked target) (λ ready.
    at_last most (decision_by target (mending_on state asked target))
    (mended state asked no_act formed grouped (not_thin state asked fat) target (enough_shown state asked target enough)
    (all_known state asked target ready)
    (mending_on state asked target) (mending_has_cause state asked target))))))

adds : (state new : ReplicaState) (client : ClientId) (number round : ℕ) (sent : List SetOf) (mac : List ℕ)
    (target : ObjectId) (accepted : List Accepted) → MayAcceptAll state accepted
    → quorum state.keys.bounds ≤ length (shown_of (asked_at state client number sent (body.Mend target)) target)
    → AddsOne state (asked_at state client number sent (body.Mend target)) target accepted
    → HoldsAlike new (accept_all state accepted)
    → Accepts state new (frame.Request client number round sent (body.Mend target) mac)
unfolding accept_all
adds state new client number round sent mac target accepted may enough made is_new =
    let one : Accepted = record { object = target; candidate = made.candidate; state = made.version } in
    let is_one : HoldsAlike new (accept state one) =
    subst (λ (it : List Accepted). HoldsAlike new (accept_all state it)) made.alone is_new in
    let may_one : MayAccept state one = (subst (MayAcceptAll state) made.alone may).0 in
    record {
      client = client;
      number = number;
      round = round;
      sent = sent;
      sets = culled state.keys state.me sent;
      culls = refl;
      asks = body.Mend target;
      mac = mac;
      is_request = refl;
      group = [];
      candidates = λ object. made.candidate;
      added = λ object is. subst
          (λ (it : ObjectId). own_candidates new it ≡ own_candidates state it ++ made.candidate ∷ []) is
          (alike_candidates new (accept state one) is_one target
          ∙ candidates_after target.0 made.candidate state.histories may_one.known);
      others = λ other apart.
          alike_candidates new (accept state one) is_one other ∙
          ap candidates_in (other_history target.0 other.0 made.candidate state.histories
          (λ same. apart (ap (λ (it : ℕ). record { 0 = it }) (sym same))));
      reasons = record {
        enough = λ object is. subst
            (λ (it : ObjectId). quorum state.keys.bounds ≤ length (entries_of it (culled state.keys state.me sent)))
            is enough;
        current = λ object is. subst
            (λ (it : ObjectId). is_below (latest_of (entries_of it (culled state.keys state.me sent)))
            (own_latest state it) ≡ false) is made.current;
        above = λ object is. subst
            (λ (it : ObjectId). is_below (own_latest state it) made.candidate.stamp ≡ true) is made.above;
        whole = λ object is. made.whole;
        listed = λ object other never besides. absurd never;
        versions = λ object. made.version;
        remedy = λ object is. subst
            (λ (it : ObjectId). IsRemedy state (asked_at state client number sent (body.Mend target)) target it
            made.candidate made.version) is made.remedy;
        stored = is_one.versions
            ∙ ap (λ (it : List Stored). state.versions ++ it) (sym (append-nil (stored_with one)));
      };
    }

mend_moves : (state : ReplicaState) (client : ClientId) (number round : ℕ) (sets : List SetOf) (mac : List ℕ)
    (target : ObjectId)
    → ((object : ObjectId) → AreWellFormed state.keys.bounds (entries_of object (culled state.keys state.me sets)))
    → ((object : ObjectId) → AreGrouped (entries_of object (culled state.keys state.me sets)))
    → HoldsAlike (replica_on_frame state (frame.Request client number round sets (body.Mend target) mac)).0 state
    ⊎ Accepts state (replica_on_frame state (frame.Request client number round sets (body.Mend target) mac)).0
    (frame.Request client number round sets (body.Mend target) mac)
mend_moves state client number round sets mac target formed grouped =
    let asked : Asked = asked_at state client number sets (body.Mend target) in
    let decision : Decision = decide_repair state asked target in
    let request : TakenRequest = record {
      client = client;
      number = number;
      round = round;
      sets = sets;
      body = body.Mend target;
      mac = mac;
    } in
    let new : ReplicaState = (carried_out state request decision).0 in
    let is_new : HoldsAlike new (accept_all state (accepted_in decision)) = carried state request decision in
    elim (repair_accepts state asked target refl formed grouped) [
      | inl none ↦ inl (stays state new (accepted_in decision) is_new none)
      | inr made ↦
          let may : MayAcceptAll state (accepted_in decision) =
          may_accept state decision (decision_on-may state asked (body.Mend target) refl) in
          inr (elim (made.1) [
            | inl one ↦ adds state new client number round sets mac target (accepted_in decision) may made.0 one is_new
            | inr group ↦
                adds_group state new client number round sets mac target (accepted_in decision) may is_new group.0
                group.1 group.2
          ])
    ]

-- ---- any request

-- a replica can tell the classes of what the frame shows it, and the candidates have groups
abbrev pub IsFormed : ReplicaState → Frame → Type 0
IsFormed state (frame.Request client number round sets asks mac) = (object : ObjectId)
    → AreWellFormed state.keys.bounds (entries_of object (culled state.keys state.me sets))
    × AreGrouped (entries_of object (culled state.keys state.me sets))
IsFormed state _ = Unit {0}

-- a request leaves a replica with what it holds, or adds candidates for which there are grounds
fields_move : (state : ReplicaState) (client : ClientId) (number round : ℕ) (sets : List SetOf) (asks : Body)
    (mac : List ℕ) → HasParts (frame.Request client number round sets asks mac)
    → IsFormed state (frame.Request client number round sets asks mac)
    → HoldsAlike (replica_on_frame state (frame.Request client number round sets asks mac)).0 state
    ⊎ Accepts state (replica_on_frame state (frame.Request client number round sets asks mac)).0
    (frame.Request client number round sets asks mac)
fields_move state client number round sets (body.Act parts) mac in_order formed =
    act_moves state client number round sets mac parts in_order
fields_move state client number round sets (body.Ask asks) mac parts formed =
    let asked : Asked = asked_at state client number sets (body.Ask asks) in
    let decision : Decision = decision_on state asked (body.Ask asks) in
    let request : TakenRequest = record {
      client = client;
      number = number;
      round = round;
      sets = sets;
      body = body.Ask asks;
      mac = mac;
    } in
    inl (stays state (carried_out state request decision).0 (accepted_in decision) (carried state request decision)
    (ask_accepts state asked asks _))
fields_move state client number round sets (body.Mend target) mac parts formed =
    mend_moves state client number round sets mac target (λ object. (formed object).0) (λ object. (formed object).1)

pub step_moves : (state : ReplicaState) (request : TakenRequest) → HasParts (request_frame_of request)
    → IsFormed state (request_frame_of request)
    → HoldsAlike (replica_on_frame state (request_frame_of request)).0 state
    ⊎ Accepts state (replica_on_frame state (request_frame_of request)).0 (request_frame_of request)
step_moves state request parts formed =
    fields_move state request.client request.number request.round request.sets request.body request.mac parts formed
