-- Each answer of the table has its cause.
use Rattle.std.proofs.Common.{◌≡◌, Bool, true, false, leb, ltb, cond, List, [], ◌∷◌, Option, Some, None, length, IsSome, IfOk, Result, Ok, Err, refl, sym, ap, subst, ◌∙◌, ◌⊎◌, inl, inr, arith}
use Rattle.std.specs.Prelude.{find, is_some, is_none, option_map}
use Rattle.std.specs.List.{AllByRecursion, list_all, list_any, cons_option}
use Rattle.std.proofs.lemmas.Bool.{false≢true, and_parts, or_cases, not-true, not-false, or_parts, leb-true, leb-false, ltb-true, ltb-false}
use Rattle.std.proofs.lemmas.Option.{none-some, same_Some}
use Rattle.qu_base.specs.declared.party.ObjectId.{ObjectId}
use Rattle.qu_stamp.specs.declared.limits.TheConstants.{LAST_TIME}
use Rattle.qu_stamp.specs.declared.stamp.Stamp.{Stamp}
use Rattle.qu_stamp.specs.declared.candidate.Candidate.{Candidate}
use Rattle.qu_stamp.specs.Stamp.{is_below}
use Rattle.qu_history.specs.declared.limits.TheConstants.{HISTORY_LIMIT}
use Rattle.qu_history.specs.History.{latest}
use Rattle.qu_objects.specs.declared.state.ObjState.{ObjState}
use Rattle.qu_kept.specs.Performing.{copied_state}
use Rattle.qu_verdicts.specs.declared.verdict.Refusal.{Refusal}
use Rattle.qu_verdicts.specs.declared.verdict.Refusal.TheVariants.{Needs, Stale, Sound, NotCurrent, TimeSpent, HistoryFull}
use Rattle.qu_mends.specs.declared.accepted.Accepted.{Accepted}
use Rattle.qu_kept.specs.declared.remedy.Remedy.{Remedy}
use Rattle.qu_kept.specs.declared.remedy.Remedy.TheVariants.{Nothing, Shown, Fresh, Unshown, Unplanned, Outdated}
use Rattle.qu_mends.specs.declared.mend.Mend.{Mend}
use Rattle.qu_mends.specs.declared.mending.Mending.{Mending}
use Rattle.qu_mends.specs.declared.mending.Mending.TheVariants.{Mends, Holds, Refuses, Waits}
use Rattle.qu_kept.specs.Remedy.{added_for, wanted_by, stored_by}
use Rattle.qu_mends.specs.Remedy.{MendPart, fresh_repair, addition_by, addition_of, part_addition, missing_key}
use Rattle.qu_mends.specs.Table.{first_given, has_no_room}
use Rattle.qu_mends.specs.Mending.{unplanned_by, is_held_in, is_held_part, is_overtaken, is_late, is_spent, missing_in, accepted_parts, sound_by, unshown_by, mend_row_plan, mend_row_held, mend_row_current, mend_row_sound, mend_row_members, mend_row_version, mend_row_time, mend_row_full, mend_row_mended, decide_mend}
use Rattle.qu_mends.specs.Causes.{MakesCandidate, AddsVersion, IsBehind, IsSpent, ArePartsOf, AddsPlain, RefusesFor, IsPartAdded, ArePartsAdded, IsPartHeld, HasCause}

-- ---- the first row that fits

row_by_test : (Fact : Mending → Type 0) (last : Mending) (test : Bool) (mending : Mending)
    (later : List (Option Mending)) → (test ≡ true → Fact mending) → (test ≡ false → Fact (first_given last later))
    → Fact (first_given last (cond test (Some mending) None ∷ later))
unfolding first_given
row_by_test Fact last true mending later here after = here refl
row_by_test Fact last false mending later here after = after refl

row_by_given : {X : Type 0} (Fact : Mending → Type 0) (last : Mending) (why : X → Refusal) (given : Option X)
    (later : List (Option Mending)) → ((it : X) → given ≡ Some it → Fact (Refuses (why it)))
    → (given ≡ None → Fact (first_given last later))
    → Fact (first_given last (option_map (λ (it : X). Refuses (why it)) given ∷ later))
unfolding first_given
row_by_given Fact last why None later here after = after refl
row_by_given Fact last why (Some it) later here after = here it refl

row_if_held : (Fact : Mending → Type 0) (last : Mending) (test : Bool) (addition : Option Candidate)
    (later : List (Option Mending))
    → ((candidate : Candidate) → addition ≡ Some candidate → test ≡ true → Fact (Holds candidate.stamp))
    → Fact (first_given last later)
    → Fact (first_given last (cond test (option_map (λ (candidate : Candidate). Holds candidate.stamp) addition) None
    ∷ later))
unfolding first_given
row_if_held Fact last false addition later here after = after
row_if_held Fact last true None later here after = after
row_if_held Fact last true (Some candidate) later here after = here candidate refl refl

row_if_added : (Fact : Mending → Type 0) (last : Mending) (accepted : List Accepted) (addition : Option Candidate)
    → ((candidate : Candidate) → addition ≡ Some candidate → Fact (Mends candidate.stamp accepted))
    → (addition ≡ None → Fact last)
    → Fact (first_given last (option_map (λ (it : Candidate). Mends it.stamp accepted) addition ∷ []))
unfolding first_given
row_if_added Fact last accepted None here after = after refl
row_if_added Fact last accepted (Some candidate) here after = here candidate refl

-- ---- of lists

found_part : (bad : MendPart → Bool) (P : MendPart → Type 0) (parts : List MendPart) (part : MendPart)
    → AllByRecursion P parts → find bad parts ≡ Some part → (bad part ≡ true) × P part
found_part bad P [] part all found = absurd (none-some part found)
found_part bad P (first ∷ later) part all found =
    by_test (bad first) refl found (found_part bad P later part all.1)
  where
    by_test : (here : Bool) → bad first ≡ here → cond here (Some first) (find bad later) ≡ Some part
        → (find bad later ≡ Some part → (bad part ≡ true) × P part) → (bad part ≡ true) × P part
    by_test true is given so_far =
        let same : first ≡ part = same_Some first part given in
        (subst (λ (it : MendPart). bad it ≡ true) same is, subst P same all.0)
    by_test false is given so_far = so_far given

none_found : (bad : MendPart → Bool) (parts : List MendPart) → find bad parts ≡ None
    → AllByRecursion (λ part. bad part ≡ false) parts
none_found bad [] none = tt
none_found bad (first ∷ later) none = by_test (bad first) refl none (none_found bad later)
  where
    by_test : (here : Bool) → bad first ≡ here → cond here (Some first) (find bad later) ≡ None
        → (find bad later ≡ None → AllByRecursion (λ part. bad part ≡ false) later)
        → (bad first ≡ false) × AllByRecursion (λ part. bad part ≡ false) later
    by_test true is given so_far = absurd (none-some first (sym given))
    by_test false is given so_far = (is, so_far given)

none_any : (test : MendPart → Bool) (parts : List MendPart) → list_any test parts ≡ false
    → AllByRecursion (λ part. test part ≡ false) parts
none_any test [] none = tt
none_any test (first ∷ later) none =
    let both = or_parts (test first) (list_any test later) none in (both.0, none_any test later both.1)

-- ---- what the remedy makes

module _ (mend : Mend) where
  by_test : (test : Bool) (it candidate : Candidate) → cond test (Some it) None ≡ Some candidate
      → (candidate ≡ it) × (test ≡ true)
  by_test true it candidate is = (cc, refl)
  by_test false it candidate is = absurd cc

  made : (latest : Stamp) (remedy : Remedy) (candidate : Candidate) → addition_by mend latest remedy ≡ Some candidate
      → MakesCandidate mend latest remedy candidate
  unfolding added_for
  made latest Nothing candidate is = absurd cc
  made latest (Unshown member) candidate is = absurd cc
  made latest (Unplanned other) candidate is = absurd cc
  made latest (Outdated other) candidate is = absurd cc
  made latest (Shown shown) candidate is =
      let both = by_test (leb shown.stamp.time LAST_TIME) shown candidate is in
      (both.0, leb-true shown.stamp.time LAST_TIME both.1)
  made latest (Fresh barrier prior) candidate is =
      let both = by_test (ltb latest.time LAST_TIME) (fresh_repair mend latest barrier prior) candidate is in
      (both.0, ltb-true latest.time LAST_TIME both.1)

  not_added : (test : Bool) (it : Candidate) → is_none (cond test (Some it) None) ≡ true → test ≡ false
  not_added true it none = absurd (false≢true none)
  not_added false it none = refl

  -- neither row refuses what mends so: there is a plan, something to mend, and each member
  abbrev MayAdd : Remedy → Type 0
  MayAdd remedy = (unplanned_by remedy ≡ None) × (sound_by mend.target remedy ≡ None) × (unshown_by remedy ≡ None)

  -- what is not refused, and has nothing to add, has no time for it
  spent : (latest : Stamp) (remedy : Remedy) → MayAdd remedy → is_none (addition_by mend latest remedy) ≡ true
      → IsSpent latest remedy
  unfolding added_for
  spent latest Nothing may none = absurd (none-some _ (sym may.1))
  spent latest (Unshown member) may none = absurd (none-some _ (sym may.2))
  spent latest (Unplanned other) may none = absurd (none-some _ (sym may.0))
  spent latest (Outdated other) may none = absurd (none-some _ (sym may.0))
  spent latest (Shown shown) may none =
      leb-false shown.stamp.time LAST_TIME (not_added (leb shown.stamp.time LAST_TIME) shown none)
  spent latest (Fresh barrier prior) may none =
      ltb-false latest.time LAST_TIME
      (not_added (ltb latest.time LAST_TIME) (fresh_repair mend latest barrier prior) none)

  plain_may : (remedy : Remedy) → AddsPlain remedy → MayAdd remedy
  plain_may Nothing never = absurd never
  plain_may (Shown candidate) plain = (refl, refl, refl)
  plain_may (Fresh barrier prior) plain = (refl, refl, refl)
  plain_may (Unshown member) never = absurd never
  plain_may (Unplanned other) never = absurd never
  plain_may (Outdated other) never = absurd never

  abbrev IsLike : MendPart → Type 0
  IsLike part = (part.remedy ≡ mend.remedy) ⊎ AddsPlain part.remedy

  part_spent : (part : MendPart) → IsLike part → MayAdd mend.remedy → is_spent mend part ≡ true
      → IsSpent part.latest part.remedy
  part_spent part (inl same) may none = spent part.latest part.remedy (subst MayAdd (sym same) may) none
  part_spent part (inr plain) may none = spent part.latest part.remedy (plain_may part.remedy plain) none

-- there is no plan, and this is why
unplanned_cause : (mend : Mend) (parts : List MendPart) (remedy : Remedy) (why : Refusal) → mend.remedy ≡ remedy
    → unplanned_by remedy ≡ Some why → RefusesFor mend parts why
unplanned_cause mend parts Nothing why is given = absurd cc
unplanned_cause mend parts (Shown candidate) why is given = absurd cc
unplanned_cause mend parts (Fresh barrier prior) why is given = absurd cc
unplanned_cause mend parts (Unshown member) why is given = absurd cc
unplanned_cause mend parts (Unplanned other) why is given =
    subst (RefusesFor mend parts) (same_Some (Needs other) why given) (inr is)
unplanned_cause mend parts (Outdated other) why is given =
    subst (RefusesFor mend parts) (same_Some (Stale other) why given) is

-- there is nothing to mend
sound_cause : (mend : Mend) (parts : List MendPart) (remedy : Remedy) (why : Refusal) → mend.remedy ≡ remedy
    → sound_by mend.target remedy ≡ Some why → RefusesFor mend parts why
sound_cause mend parts Nothing why is given =
    subst (RefusesFor mend parts) (same_Some (Sound mend.target) why given) (refl, is)
sound_cause mend parts (Shown candidate) why is given = absurd cc
sound_cause mend parts (Fresh barrier prior) why is given = absurd cc
sound_cause mend parts (Unshown member) why is given = absurd cc
sound_cause mend parts (Unplanned other) why is given = absurd cc
sound_cause mend parts (Outdated other) why is given = absurd cc

-- a member is not shown
unshown_cause : (mend : Mend) (parts : List MendPart) (remedy : Remedy) (why : Refusal) → mend.remedy ≡ remedy
    → unshown_by remedy ≡ Some why → RefusesFor mend parts why
unshown_cause mend parts Nothing why is given = absurd cc
unshown_cause mend parts (Shown candidate) why is given = absurd cc
unshown_cause mend parts (Fresh barrier prior) why is given = absurd cc
unshown_cause mend parts (Unshown member) why is given =
    subst (RefusesFor mend parts) (same_Some (Needs member) why given) (inl is)
unshown_cause mend parts (Unplanned other) why is given = absurd cc
unshown_cause mend parts (Outdated other) why is given = absurd cc

value_if : {X : Type 0} (found : Option X) → is_none found ≡ false → (value : X) × (found ≡ Some value)
value_if None test = absurd (false≢true (sym test))
value_if (Some value) test = (value, refl)

-- ---- the version

-- what is not missing was found
plain_found : (object : ObjectId) (version : Option ObjState) (barrier : Bool) (stamp : Stamp) → barrier ≡ false
    → is_some {T = ObjectId × Stamp}
    (cond (is_none version) (option_map (λ (it : Stamp). (object, it)) (cond barrier None (Some stamp))) None)
    ≡ false → IsSome version
plain_found object (Some version) barrier stamp plain test = grind arith
plain_found object None false stamp plain test = absurd (false≢true (sym test))
plain_found object None true stamp plain test = absurd (false≢true (sym plain))

copy_found : (object : ObjectId) (candidate : Candidate) (version : Option ObjState) (prior : Stamp)
    → is_some {T = ObjectId × Stamp}
    (cond (is_none version) (option_map (λ (it : Stamp). (object, it)) (Some prior)) None) ≡ false
    → AddsVersion object candidate (Fresh false prior) version (option_map (copied_state object candidate) version)
copy_found object candidate (Some before) prior test = (before, refl, refl)
copy_found object candidate None prior test = absurd (false≢true (sym test))

version_found : (mend : Mend) (object : ObjectId) (shown_latest : Stamp) (remedy : Remedy) (candidate : Candidate)
    (version : Option ObjState) → MakesCandidate mend shown_latest remedy candidate
    → is_some {T = ObjectId × Stamp}
    (cond (is_none version) (option_map (λ (it : Stamp). (object, it)) (wanted_by remedy)) None) ≡ false
    → AddsVersion object candidate remedy version (stored_by object candidate remedy version)
unfolding wanted_by stored_by
version_found mend object shown_latest Nothing candidate version makes ready = absurd makes
version_found mend object shown_latest (Unshown member) candidate version makes ready = absurd makes
version_found mend object shown_latest (Unplanned other) candidate version makes ready = absurd makes
version_found mend object shown_latest (Outdated other) candidate version makes ready = absurd makes
version_found mend object shown_latest (Shown shown) candidate version makes ready =
    ((λ plain. plain_found object version shown.stamp.barrier shown.stamp plain ready), refl)
version_found mend object shown_latest (Fresh true prior) candidate version makes ready = refl
version_found mend object shown_latest (Fresh false prior) candidate version makes ready =
    copy_found object candidate version prior ready

-- ---- of each object

module _ (mend : Mend) where
  behind_by : (part : MendPart) (addition : Option Candidate) → part_addition mend part ≡ addition
      → is_overtaken part.own addition ≡ true → IsBehind mend part
  behind_by part None is passes = absurd (false≢true passes)
  behind_by part (Some candidate) is passes = inr (
    candidate,
    made mend part.latest part.remedy candidate is,
    not-true (is_below (latest part.own) candidate.stamp) passes,
  )

  behind : (part : MendPart) → is_late mend part ≡ true → IsBehind mend part
  behind part test =
      elim (or_cases (is_below part.latest (latest part.own)) (is_overtaken part.own (part_addition mend part)) test) [
        | inl later ↦ inl later
        | inr passes ↦ behind_by part (part_addition mend part) refl passes
      ]

  held_by : (part : MendPart) (addition : Option Candidate) → part_addition mend part ≡ addition
      → is_held_in part.own addition ≡ true → IsPartHeld mend part
  held_by part None is held = absurd (false≢true held)
  held_by part (Some candidate) is held = (candidate, made mend part.latest part.remedy candidate is, held)

  all_held : (parts : List MendPart) → list_all (is_held_part mend) parts ≡ true
      → AllByRecursion (IsPartHeld mend) parts
  all_held [] test = tt
  all_held (part ∷ later) test =
      let both = and_parts (is_held_part mend part) (list_all (is_held_part mend) later) test in
      (held_by part (part_addition mend part) refl both.0, all_held later both.1)

  abbrev accepted_as : MendPart → Candidate → Accepted
  accepted_as part candidate = record {
    object = part.object;
    candidate = candidate;
    state = stored_by part.object candidate part.remedy part.version;
  }

  added_part : (part : MendPart) (candidate : Candidate) → part_addition mend part ≡ Some candidate
      → is_late mend part ≡ false → is_some (missing_key part) ≡ false → has_no_room part.own ≡ false
      → IsPartAdded mend part (accepted_as part candidate)
  added_part part candidate is current ready room =
      let both =
      or_parts (is_below part.latest (latest part.own)) (is_overtaken part.own (part_addition mend part)) current in
      let makes : MakesCandidate mend part.latest part.remedy candidate =
      made mend part.latest part.remedy candidate is in
      record {
        object = refl;
        makes = makes;
        may = record {
          current = both.0;
          above = not-false (is_below (latest part.own) candidate.stamp) (ap (is_overtaken part.own) (sym is) ∙ both.1);
          room = leb-false HISTORY_LIMIT (length part.own) room;
        };
        version = version_found mend part.object part.latest part.remedy candidate part.version makes ready;
      }

  with_part : (part : MendPart) (later : List MendPart) (rest : List Accepted) (addition : Option Candidate)
      (candidate : Candidate) → addition ≡ Some candidate → IsPartAdded mend part (accepted_as part candidate)
      → ArePartsAdded mend later rest
      → ArePartsAdded mend (part ∷ later)
      (cons_option (option_map (λ (it : Candidate). accepted_as part it) addition) rest)
  with_part part later rest None candidate is one more = absurd (none-some candidate is)
  with_part part later rest (Some found) candidate is one more = (
    subst (λ (it : Candidate). IsPartAdded mend part (accepted_as part it)) (sym (same_Some found candidate is)) one,
    more,
  )

  all_added : (parts : List MendPart) → AllByRecursion (λ part. is_late mend part ≡ false) parts
      → AllByRecursion (λ part. is_some (missing_key part) ≡ false) parts
      → AllByRecursion (λ part. is_spent mend part ≡ false) parts
      → AllByRecursion (λ part. has_no_room part.own ≡ false) parts
      → ArePartsAdded mend parts (accepted_parts mend parts)
  all_added [] current ready in_time room = tt
  all_added (part ∷ later) current ready in_time room =
      let addition = value_if (part_addition mend part) in_time.0 in
      with_part part later (accepted_parts mend later) (part_addition mend part) addition.0 addition.1
      (added_part part addition.0 addition.1 current.0 ready.0 room.0)
      (all_added later current.1 ready.1 in_time.1 room.1)

-- ---- the table

module _ (mend : Mend) (parts : List MendPart) where
  abbrev Fact : Mending → Type 0
  Fact mending = HasCause mend parts mending

  abbrev last : Mending
  last = Refuses (TimeSpent mend.target)

  mended : MayAdd mend mend.remedy → find (is_late mend) parts ≡ None → list_any (λ part. is_some (missing_key part)) parts ≡ false
      → find (is_spent mend) parts ≡ None → find (λ part. has_no_room part.own) parts ≡ None
      → Fact (first_given last (mend_row_mended mend parts ∷ []))
  unfolding mend_row_mended
  mended may current ready in_time room =
      row_if_added Fact last (accepted_parts mend parts) (addition_of mend)
      (λ candidate is. (
        (candidate, made mend mend.latest mend.remedy candidate is, refl),
        all_added mend parts (none_found (is_late mend) parts current)
            (none_any (λ part. is_some (missing_key part)) parts ready)
            (none_found (is_spent mend) parts in_time)
            (none_found (λ part. has_no_room part.own) parts room),
      ))
      (λ none. inr (refl, spent mend mend.latest mend.remedy may (ap is_none none)))

  pub decided_has_cause : ArePartsOf mend parts → HasCause mend parts (decide_mend mend parts)
  unfolding decide_mend mend_row_plan mend_row_held mend_row_current mend_row_sound mend_row_members mend_row_version mend_row_time mend_row_full
  decided_has_cause are =
      row_by_given Fact last (λ why. why) (unplanned_by mend.remedy) _
      (λ why is. unplanned_cause mend parts mend.remedy why refl is)
      (λ planned. row_if_held Fact last (list_all (is_held_part mend) parts) (addition_of mend) _
      (λ candidate is test.
      ((candidate, made mend mend.latest mend.remedy candidate is, refl), all_held mend parts test))
      (row_by_given Fact last (λ part. NotCurrent part.object (latest part.own)) (find (is_late mend) parts) _
      (λ part found. (
        part,
        found,
        refl,
        refl,
        behind mend part (found_part (is_late mend) (IsLike mend) parts part are found).0,
      ))
      (λ current. row_by_given Fact last (λ why. why) (sound_by mend.target mend.remedy) _
      (λ why is. sound_cause mend parts mend.remedy why refl is)
      (λ unsound. row_by_given Fact last (λ why. why) (unshown_by mend.remedy) _
      (λ why is. unshown_cause mend parts mend.remedy why refl is)
      (λ shown. row_by_test Fact last _ (Waits (missing_in parts)) _ (λ test. (refl, test))
      (λ ready. row_by_given Fact last (λ part. TimeSpent part.object) (find (is_spent mend) parts) _
      (λ part found.
      let both = found_part (is_spent mend) (IsLike mend) parts part are found in
      inl (part, found, refl, part_spent mend part both.1 (planned, unsound, shown) both.0))
      (λ in_time. row_by_given Fact last (λ part. HistoryFull part.object) (find (λ part. has_no_room part.own) parts) _
      (λ part found. (
        part,
        found,
        refl,
        leb-true HISTORY_LIMIT (length part.own)
            (found_part (λ it. has_no_room it.own) (IsLike mend) parts part are found).0,
      ))
      (λ room. mended (planned, unsound, shown) current ready in_time room))))))))

pub ok_has_cause : {E : Type 0} (mend : Mend) (parts : List MendPart) → ArePartsOf mend parts
    → (result : Result Mending E) → IfOk result (λ mending. mending ≡ decide_mend mend parts)
    → IfOk result (λ mending. HasCause mend parts mending)
ok_has_cause mend parts are (Ok mending) is =
    subst (HasCause mend parts) (sym is) (decided_has_cause mend parts are)
ok_has_cause mend parts are (Err error) is = is
