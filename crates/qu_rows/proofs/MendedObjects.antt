-- What a replica makes of a request to mend an object, it may accept on all objects that are mended.
use Rattle.std.proofs.Common.{◌≡◌, ℕ, ◌+◌, ◌<◌, ◌≤◌, ◌||◌, Bool, true, false, cond, List, [], ◌∷◌, map, length, None, Some, inl, inr, refl, sym, ap, subst, ◌∙◌, arith}
use Rattle.std.specs.Prelude.{◌==◌, find, nat_le, nat_lt}
use Rattle.std.specs.List.{AllByRecursion}
use Rattle.std.proofs.lemmas.Bool.{false≢true, or_cases, leb-false, ltb-false, eqb-true}
use Rattle.std.proofs.lemmas.List.{length-map}
use Rattle.std.proofs.lemmas.Option.{none-some}
use Rattle.qu_base.specs.declared.party.ObjectId.{ObjectId}
use Rattle.qu_stamp.specs.declared.limits.TheConstants.{LAST_TIME}
use Rattle.qu_stamp.specs.declared.stamp.Stamp.{Stamp}
use Rattle.qu_stamp.specs.declared.candidate.Candidate.{Candidate}
use Rattle.qu_stamp.specs.Stamp.{is_below}
use Rattle.qu_history.specs.declared.limits.TheConstants.{HISTORY_LIMIT}
use Rattle.qu_history.specs.declared.sets.SetOf.{SetOf}
use Rattle.qu_history.specs.Sets.{entries_of, histories}
use Rattle.qu_class.specs.Class.{is_in_sets}
use Rattle.qu_class.specs.Rows.{AllShown}
use Rattle.qu_mends.specs.declared.accepted.Accepted.{Accepted}
use Rattle.qu_kept.specs.declared.remedy.Remedy.{Remedy}
use Rattle.qu_kept.specs.declared.remedy.Remedy.TheVariants.{Nothing, Shown, Fresh, Unshown, Unplanned, Outdated}
use Rattle.qu_mends.specs.declared.mend.Mend.{Mend}
use Rattle.qu_mends.specs.declared.mending.Mending.{Mending}
use Rattle.qu_mends.specs.declared.mending.Mending.TheVariants.{Mends, Holds, Refuses, Waits}
use Rattle.qu_kept.specs.declared.course.Course.{Course}
use Rattle.qu_kept.specs.Remedy.{remedies_by}
use Rattle.qu_mends.specs.Remedy.{course_of}
use Rattle.qu_mends.specs.Causes.{MakesCandidate, ArePartsOf, ArePartsAdded, HasCause}
use Rattle.qu_mends.proofs.Members.{AreOthers, DoDiffer, AreOf, Lists, AllAddPlain, IsCourse, each_course, remedies_differ}
use Rattle.qu_mends.proofs.Decided.{decided_has_cause}
use Rattle.qu_rows.specs.State.{ReplicaState, own_candidates, own_latest}
use Rattle.qu_rows.specs.Rows.{Asked, linking_of, mend_asked, part_of, parts_of, mending_on, decision_by}
use Rattle.qu_rows.specs.Allowed.{MayAcceptAll, MayDecide}

-- what mends an object has no time after the last
made_in_time : (mend : Mend) (latest : Stamp) (remedy : Remedy) (candidate : Candidate)
    → MakesCandidate mend latest remedy candidate → candidate.stamp.time ≤ LAST_TIME
made_in_time mend latest Nothing candidate made = absurd made
made_in_time mend latest (Unshown member) candidate made = absurd made
made_in_time mend latest (Unplanned other) candidate made = absurd made
made_in_time mend latest (Outdated other) candidate made = absurd made
made_in_time mend latest (Shown shown) candidate made =
    subst (λ (it : Candidate). it.stamp.time ≤ LAST_TIME) (sym made.0) made.1
made_in_time mend latest (Fresh barrier prior) candidate made =
    let time : candidate.stamp.time ≡ latest.time + 1 = ap (λ (it : Candidate). it.stamp.time) made.0 in
    omega (arith, time, made.1)

-- ---- the objects are known

abbrev pub AreKnown : ReplicaState → List (ObjectId × Remedy) → Type 0
AreKnown state remedies = AllByRecursion (λ mended. (mended.0).0 < length state.histories) remedies

-- no object of the sets is unknown, so one that they show is known
known_in_sets : (number : ℕ) (sets : List SetOf) (object : ObjectId)
    → find (λ (set : SetOf). nat_le number (set.object).0) sets ≡ None → is_in_sets sets object ≡ true
    → object.0 < number
known_in_sets number [] object none shown = absurd (false≢true shown)
known_in_sets number (set ∷ later) object none shown =
    by_test (nat_le number (set.object).0) refl none (known_in_sets number later object)
  where
    by_test : (bad : Bool) → nat_le number (set.object).0 ≡ bad
        → cond bad (Some set) (find (λ (it : SetOf). nat_le number (it.object).0) later) ≡ None
        → (find (λ (it : SetOf). nat_le number (it.object).0) later ≡ None → is_in_sets later object ≡ true
        → object.0 < number) → object.0 < number
    by_test true is found so_far = absurd (none-some set (sym found))
    by_test false is found so_far =
        elim (or_cases ((set.object).0 == object.0) (is_in_sets later object) shown) [
          | inl here ↦
              let equal : (set.object).0 ≡ object.0 = eqb-true _ _ here in
              subst (λ (it : ℕ). it < number) equal (leb-false _ _ is)
          | inr there ↦ so_far found there
        ]

module _ (state : ReplicaState) (sets : List SetOf)
    (none : find (λ (set : SetOf). nat_le (length state.histories) (set.object).0) sets ≡ None) where
  members_known : (group : List (ObjectId × ℕ)) (members : List (ObjectId × Remedy)) → AreOf group members
      → AllShown sets group → AreKnown state members
  members_known [] [] of shown = tt
  members_known [] (mended ∷ more) of shown = absurd of
  members_known (member ∷ later) [] of shown = absurd of
  members_known (member ∷ later) (mended ∷ more) of shown = (
    subst (λ (it : ObjectId). it.0 < length state.histories) (sym of.0)
        (known_in_sets (length state.histories) sets member.0 none shown.0),
    members_known later more of.1 shown.1,
  )

  pub remedies_known : (target : ObjectId) (course : Course) (group : List (ObjectId × ℕ))
      → Lists group course.members → AllShown sets group → target.0 < length state.histories
      → AreKnown state (remedies_by target course group)
  unfolding remedies_by
  remedies_known target course [] lists shown known = (known, tt)
  remedies_known target course (member ∷ later) lists shown known =
      members_known (member ∷ later) course.members lists shown

-- ---- what is mended is mended as the target is

module _ (state : ReplicaState) (asked : Asked) (mend : Mend) where
  members_like : (members : List (ObjectId × Remedy)) → AllAddPlain members
      → ArePartsOf mend (map (part_of state asked) members)
  members_like [] plain = tt
  members_like (mended ∷ later) plain = (inr plain.0, members_like later plain.1)

  like_by : (target : ObjectId) (course : Course) (group : List (ObjectId × ℕ)) → course.remedy ≡ mend.remedy
      → AllAddPlain course.members → ArePartsOf mend (map (part_of state asked) (remedies_by target course group))
  unfolding remedies_by
  like_by target course [] same plain = (inl same, tt)
  like_by target course (member ∷ later) same plain = members_like course.members plain

  -- ---- each may be accepted

  accepted_others : (this object : ObjectId) → this ≡ object → (remedies : List (ObjectId × Remedy))
      (accepted : List Accepted) → AreOthers object remedies
      → ArePartsAdded mend (map (part_of state asked) remedies) accepted
      → AllByRecursion (λ other. other.object ≡ this → ⊥) accepted
  accepted_others this object is [] [] others added = tt
  accepted_others this object is [] (one ∷ more) others added = absurd added
  accepted_others this object is (mended ∷ later) [] others added = absurd added
  accepted_others this object is (mended ∷ later) (one ∷ more) others added = (
    (λ same. others.0 (sym (added.0).object ∙ same ∙ is)),
    accepted_others this object is later more others.1 added.1,
  )

  pub added_may : (remedies : List (ObjectId × Remedy)) (accepted : List Accepted) → DoDiffer remedies
      → AreKnown state remedies → ArePartsAdded mend (map (part_of state asked) remedies) accepted
      → MayAcceptAll state accepted
  added_may [] [] differ known added = tt
  added_may [] (one ∷ more) differ known added = absurd added
  added_may (mended ∷ later) [] differ known added = absurd added
  added_may (mended ∷ later) (one ∷ more) differ known added =
      let here : one.object ≡ mended.0 = (added.0).object in (
        record {
          known = subst (λ (it : ObjectId). it.0 < length state.histories) (sym here) known.0;
          later = subst (λ (it : ObjectId). is_below (own_latest state it) one.candidate.stamp ≡ true) (sym here)
              ((added.0).may).above;
          room = subst (λ (it : ObjectId). length (own_candidates state it) < HISTORY_LIMIT) (sym here)
              ((added.0).may).room;
          in_time = made_in_time mend (part_of state asked mended).latest mended.1 one.candidate (added.0).makes;
        },
        accepted_others one.object mended.0 here later more differ.0 added.1,
        added_may later more differ.1 known.1 added.1,
      )

  caused_may : (target : ObjectId) (remedies : List (ObjectId × Remedy)) → DoDiffer remedies
      → AreKnown state remedies → (made : Mending) → HasCause mend (map (part_of state asked) remedies) made
      → MayDecide state (decision_by target made)
  caused_may target remedies differ known (Mends stamp accepted) cause =
      added_may remedies accepted differ known cause.1
  caused_may target remedies differ known (Holds stamp) cause = tt
  caused_may target remedies differ known (Refuses why) cause = tt
  caused_may target remedies differ known (Waits missing) cause = tt

module _ (state : ReplicaState) (asked : Asked) (target : ObjectId) where
  abbrev mend : Mend
  mend = mend_asked state asked target

  abbrev course : Course
  course = course_of state.keys.bounds asked.sets (linking_of state) target

  is_course : IsCourse state.keys.bounds asked.sets course
  is_course = each_course state.keys.bounds asked.sets (linking_of state) target

  pub parts_like : ArePartsOf mend (parts_of state asked target)
  parts_like = like_by state asked mend target course course.group refl is_course.plain

  pub mending_has_cause : HasCause mend (parts_of state asked target) (mending_on state asked target)
  mending_has_cause = decided_has_cause mend (parts_of state asked target) parts_like

  -- what is made of a request to mend a known object
  pub mending_may : find (λ (set : SetOf). nat_le (length state.histories) (set.object).0) asked.sets ≡ None
      → target.0 < length state.histories → MayDecide state (decision_by target (mending_on state asked target))
  mending_may none known =
      caused_may state asked mend target mend.remedies
      (remedies_differ target course course.group is_course.whole is_course.lists)
      (remedies_known state asked.sets none target course course.group is_course.lists is_course.shown known)
      (mending_on state asked target) mending_has_cause

-- ---- what the sets show of each

-- where no object is thin, one that the sets show has a quorum of entries
pub enough_in_sets : (least : ℕ) (sets : List SetOf) (object : ObjectId)
    → find (λ (set : SetOf). nat_lt (length set.entries) least) sets ≡ None → is_in_sets sets object ≡ true
    → least ≤ length (entries_of object sets)
unfolding entries_of
enough_in_sets least [] object none shown = absurd (false≢true shown)
enough_in_sets least (set ∷ later) object none shown =
    by_tests (nat_lt (length set.entries) least) refl ((set.object).0 == object.0) none shown
    (enough_in_sets least later object)
  where
    by_tests : (few : Bool) → nat_lt (length set.entries) least ≡ few → (here : Bool)
        → cond few (Some set) (find (λ (it : SetOf). nat_lt (length it.entries) least) later) ≡ None
        → (here || is_in_sets later object) ≡ true
        → (find (λ (it : SetOf). nat_lt (length it.entries) least) later ≡ None → is_in_sets later object ≡ true
        → least ≤ length (entries_of object later))
        → least ≤ length (cond here (histories set.entries) (entries_of object later))
    by_tests true is here found shown so_far = absurd (none-some set (sym found))
    by_tests false is true found shown so_far =
        let count : length (histories set.entries) ≡ length set.entries = length-map set.entries (λ it. it.history) in
        let enough : least ≤ length set.entries = ltb-false (length set.entries) least is in
        omega (arith, count, enough)
    by_tests false is false found shown so_far = so_far found shown
