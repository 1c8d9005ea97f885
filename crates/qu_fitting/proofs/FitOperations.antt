-- What a replica decides upon an act or a query that fits, fits: its verdict, and the candidates that it accepts.
use Rattle.std.proofs.Common.{◌≡◌, ℕ, ◌+◌, ◌<◌, ◌≤◌, Bool, true, false, cond, List, [], ◌∷◌, ◌∙◌, length, map, Option, None, Some, refl, sym, ap, subst, arith}
use Rattle.std.specs.Prelude.{◌==◌, find, option_map, option_and_then}
use Rattle.std.specs.List.{AllByRecursion, list_all, filter_map, cons_option}
use Rattle.std.proofs.lemmas.Bool.{and_parts, false≢true}
use Rattle.std.proofs.lemmas.Option.{none-some, same_Some}
use Rattle.std.proofs.lemmas.List.{length-map}
use Rattle.qu_base.specs.declared.party.ObjectId.{ObjectId}
use Rattle.qu_base.proofs.EachItem.{each_weaker, each_kept}
use Rattle.qu_stamp.specs.declared.stamp.Stamp.{Stamp}
use Rattle.qu_stamp.specs.declared.limits.TheConstants.{LAST_TIME}
use Rattle.qu_stamp.specs.declared.candidate.Candidate.{Candidate}
use Rattle.qu_stamp.specs.Stamp.{is_below}
use Rattle.qu_stamp.specs.Formats.{stamp_form, group_form}
use Rattle.qu_stamp.proofs.Order.{is_below_by_time}
use Rattle.qu_history.specs.History.{holds}
use Rattle.qu_history.specs.Sets.{latest_of}
use Rattle.qu_history.proofs.Method.{method_at_plain}
use Rattle.qu_objects.specs.declared.act.Method.{Method}
use Rattle.qu_objects.specs.declared.query.Ask.{Ask}
use Rattle.qu_objects.specs.declared.kind.Value.{Value}
use Rattle.qu_objects.specs.declared.state.ObjState.{ObjState}
use Rattle.qu_objects.specs.Digesting.{PartsFit}
use Rattle.qu_objects.specs.Formats.{answer_form}
use Rattle.qu_objects.specs.Performing.{performed_answer, told_answer}
use Rattle.qu_kept.specs.declared.repeats.Standing.{Standing}
use Rattle.qu_kept.specs.declared.repeats.Standing.TheVariants.{Fresh, Already, Spent}
use Rattle.qu_kept.specs.Performing.{values_of, row_by, links_to_others}
use Rattle.qu_kept.specs.Rows.{client_of}
use Rattle.qu_kept.proofs.EachObject.{objects_named, value_after, values_before, values_are}
use Rattle.qu_kept.proofs.KeyedLaws.{all_both, all_with, rising_with}
use Rattle.qu_verdicts.specs.declared.verdict.Refusal.{Refusal}
use Rattle.qu_verdicts.specs.declared.verdict.Refusal.TheVariants.{NotCurrent, NotMethod, TimeSpent, HistoryFull}
use Rattle.qu_verdicts.specs.declared.verdict.Verdict.TheVariants.{Refused}
use Rattle.qu_verdicts.specs.Formats.{stamps_form, verdict_form}
use Rattle.qu_versions.specs.Versions.{version_at}
use Rattle.qu_mends.specs.declared.seen.Seen.{Seen}
use Rattle.qu_mends.specs.Mending.{is_held_in}
use Rattle.qu_rows.specs.declared.decision.Decision.{Decision}
use Rattle.qu_rows.specs.declared.decision.Decision.TheVariants.{Waits}
use Rattle.qu_rows.specs.State.{ReplicaState, own_candidates, own_latest}
use Rattle.qu_rows.specs.Rows.{Asked, refuse_first, seen_of, seen_each, shown_of, method_base, version_seen, base_version, base_versions, base_key, base_keys, versions_under, fresh_stamp, fresh_keys, fresh_group, group_seen, fresh_candidate, is_held, standing_in, done_again, repeated, row_retry, row_current, row_method, row_version, row_kept, row_time, row_full, row_done, row_told, class_told, decide_act, decide_ask}
use Rattle.qu_rows.proofs.Allowed.{made_of}
use Rattle.qu_rows.proofs.Held.{own_in_time}
use Rattle.qu_fitting.specs.Fits.{ValueFits, RowFits, VersionFits, StateFits}
use Rattle.qu_fitting.proofs.CarriedEach.{fresh_upon, with_stamps, accepted_each, fresh_candidates, versions_made, AreBases, AreBefores, done_each, fresh_each, told_each}
use Rattle.qu_fitting.proofs.FitAccepted.{AcceptAllFit, version_fits}
use Rattle.qu_fitting.proofs.FitDecisions.{AskedFits, KeyFits, DecisionFits, Gives, past, no_row, refusing, found_has, own_fits, unknown, thin}
use Rattle.qu_fitting.proofs.FitGroups.{fresh_groups_fit}
use Rattle.qu_kept.proofs.FitLinks.{links-read, links-fit, others_fit, links_with}
use Rattle.qu_fitting.proofs.FitStamps.{CandidateFits, stamp_fits, later_time, not_opening, prior_fits, shown_fit, base_latest, base_shown, plain_fits}
use Rattle.qu_fitting.proofs.FitStandings.{StandingFits, standing_in-fits}
use Rattle.qu_fitting.proofs.FitVerdicts.{time_fits, full_fits, method_fits, current_fits, spent_fits, stamps_fit, done_fits, told_fits, already_fits, performed_fits, values_fitting, read_fits}
use Rattle.qu_fitting.proofs.FitVersions.{act_sized}
use Rattle.qu_fitting.proofs.PassedRows.{of_seen, base_of, before_of, passed_method, passed_version, passed_time}
use Rattle.qu_kept.proofs.RisingObjects.{IsNumbered, all_numbered, all_distinct}
use Rattle.qu_fitting.proofs.RisingParts.{PartsRise}

-- ---- what is found of each object

module _ {X Y : Type 0} (Q : X → Type 0) (P : Y → Type 0) (of : X → Option Y)
    (has : (item : X) → Q item → (found : Y) → of item ≡ Some found → P found) where
  -- what is found of one has the property
  one_found : (found : Option Y) (rest : List Y) → ((one : Y) → found ≡ Some one → P one) → AllByRecursion P rest
      → AllByRecursion P (cons_option found rest)
  one_found None rest here all = all
  one_found (Some one) rest here all = (here one refl, all)

  pub found_each : (items : List X) → AllByRecursion Q items → AllByRecursion P (filter_map of items)
  found_each [] all = tt
  found_each (item ∷ later) all =
      one_found (of item) (filter_map of later) (has item all.0) (found_each later all.1)

each_true : {X : Type 0} (test : X → Bool) (items : List X) → list_all test items ≡ true
    → AllByRecursion (λ item. test item ≡ true) items
each_true test [] all = tt
each_true test (item ∷ later) all =
    let both = and_parts (test item) (list_all test later) all in (both.0, each_true test later both.1)

if_given : (test : Bool) (row : Option Decision) → (test ≡ true → Gives row) → Gives (cond test row None)
if_given true row gives = gives refl
if_given false row gives = λ decision given. absurd (none-some decision given)

refusing_first : {X : Type 0} (bad : X → Bool) (why : X → Refusal) (items : List X)
    → AllByRecursion (λ item. verdict_form.Fits (Refused (why item))) items → Gives (refuse_first bad why items)
refusing_first bad why items all =
    refusing why (find bad items)
    (λ item found. found_has (λ it. verdict_form.Fits (Refused (why it))) bad items all item found)

waiting : (missing : List (ObjectId × Stamp)) → AllByRecursion KeyFits missing → (test : Bool)
    → Gives (cond test (Some (Waits missing)) None)
waiting missing keys false decision given = absurd (none-some decision given)
waiting missing keys true decision given = subst DecisionFits (same_Some (Waits missing) decision given) keys

again_fits : (stamps : List (ObjectId × Stamp)) → stamps_form.Fits stamps → (standing : Standing)
    → StandingFits standing → Gives (done_again stamps standing)
again_fits stamps fits Fresh stands decision given = absurd (none-some decision given)
again_fits stamps fits (Spent on number) stands decision given = absurd (none-some decision given)
again_fits stamps fits (Already answer) stands decision given =
    subst DecisionFits (same_Some _ decision given) (done_fits stamps answer fits stands, tt)

repeated_fits : (standing : Standing) → StandingFits standing → Gives (repeated standing)
repeated_fits Fresh stands decision given = absurd (none-some decision given)
repeated_fits (Already answer) stands decision given =
    subst DecisionFits (same_Some _ decision given) (already_fits answer stands, tt)
repeated_fits (Spent on number) stands decision given =
    subst DecisionFits (same_Some _ decision given) (spent_fits on stands.0 number stands.1, tt)

-- each object's fresh candidate fits, and the version after the act
accept_each : (candidates : ObjectId → Candidate) (versions : ObjectId → ObjState) (objects : List ObjectId)
    → AllByRecursion (λ object. CandidateFits object (candidates object)) objects
    → AllByRecursion (λ object. VersionFits (versions object)) objects
    → AcceptAllFit (accepted_each candidates versions objects)
accept_each candidates versions [] made after = tt
accept_each candidates versions (object ∷ later) made after = (
  record {
    stamp = (made.0).stamp;
    prior = (made.0).prior;
    group = (made.0).group;
    version = after.0;
  },
  accept_each candidates versions later made.1 after.1,
)

-- the values of the objects of parts
values_named : {X : Type 0} (before : ObjectId → ObjState) (parts : List (ObjectId × X))
    → AllByRecursion (λ object. VersionFits (before object)) (objects_named parts)
    → AllByRecursion ValueFits (values_of (map before (objects_named parts)))
values_named before [] fit = tt
values_named before (part ∷ later) fit = ((fit.0).value, values_named before later fit.1)

values_each : {X : Type 0} (before : ObjectId → ObjState) (parts : List (ObjectId × X))
    → AllByRecursion (λ object. VersionFits (before object)) (objects_named parts)
    → AllByRecursion ValueFits (map (λ (part : ObjectId × X). (before part.0).value) parts)
values_each before [] fit = tt
values_each before (part ∷ later) fit = ((fit.0).value, values_each before later fit.1)

many_named : {X : Type 0} (before : ObjectId → ObjState) (parts : List (ObjectId × X))
    → length (values_of (map before (objects_named parts))) ≡ length parts
many_named before parts =
    length-map (map before (objects_named parts)) (λ (state : ObjState). state.value)
    ∙ length-map (objects_named parts) before ∙ length-map parts (λ part. part.0)

-- what holds of the values of parts holds of those of their objects
of_objects : {X : Type 0} (P : Value → Type 0) (value : ObjectId → Value) (parts : List (ObjectId × X))
    → AllByRecursion P (map (λ (part : ObjectId × X). value part.0) parts)
    → AllByRecursion (λ object. P (value object)) (objects_named parts)
of_objects P value [] all = tt
of_objects P value (part ∷ later) all = (all.0, of_objects P value later all.1)

module _ (state : ReplicaState) (asked : Asked) (fits : StateFits state) (asks : AskedFits asked) where
  -- ---- of one object

  base_fits : (object : ObjectId) (base : Candidate) → method_base state asked object ≡ Some base
      → stamp_form.Fits base.stamp
  base_fits object base is =
      (shown_fit asked.sets asks.sets object base (base_shown state.keys.bounds (shown_of asked object) base is)).stamp

  -- its version can be fetched
  pub base_key_fits : (object : ObjectId) → IsNumbered object → (base : Candidate)
      → method_base state asked object ≡ Some base → KeyFits (object, base.stamp)
  base_key_fits object within base is = record {
    object = within;
    stamp = plain_fits base.stamp (method_at_plain state.keys.bounds (shown_of asked object) base is)
        (base_fits object base is);
  }

  fresh_fits : (object : ObjectId) → (latest_of (shown_of asked object)).time + 1 ≤ LAST_TIME
      → stamp_form.Fits (fresh_stamp asked object)
  fresh_fits object in_time =
      let fresh : Stamp = fresh_stamp asked object in
      stamp_fits fresh.time asked.client asked.act asked.set (later_time (latest_of (shown_of asked object)).time)
      in_time asks.low asks.high asks.act asks.set

  -- a candidate that is made upon a base
  upon_fits : (group : List (ObjectId × ℕ)) (object : ObjectId) (base : Candidate)
      → method_base state asked object ≡ Some base → (latest_of (shown_of asked object)).time + 1 ≤ LAST_TIME
      → (group_form object (fresh_stamp asked object)).Fits group
      → CandidateFits object (fresh_upon asked group object base)
  upon_fits group object base is in_time whole =
      let fresh : Stamp = fresh_stamp asked object in
      let above : (fresh.time == 0) ≡ false = later_time (latest_of (shown_of asked object)).time in
      let latest : base.stamp ≡ latest_of (shown_of asked object) =
      base_latest state.keys.bounds (shown_of asked object) base is in
      let time : base.stamp.time ≡ (latest_of (shown_of asked object)).time = ap (λ (it : Stamp). it.time) latest in
      let below : is_below base.stamp fresh ≡ true = is_below_by_time base.stamp fresh (omega (arith, time)) in
      record {
        stamp = fresh_fits object in_time;
        prior = prior_fits fresh base.stamp (not_opening fresh above) (base_fits object base is) below
            (method_at_plain state.keys.bounds (shown_of asked object) base is);
        group = whole;
      }

  found_fits : (object : ObjectId) (found : Option Candidate) (version : ObjState)
      → option_and_then (λ (it : Candidate). version_at object it.stamp state.versions) found ≡ Some version
      → VersionFits version
  found_fits object None version is = absurd (none-some version is)
  found_fits object (Some base) version is = version_fits object base.stamp state.versions version fits.versions is

  before_fits : (object : ObjectId) (version : ObjState) → base_version state asked object ≡ Some version
      → VersionFits version
  before_fits object version is = found_fits object (method_base state asked object) version is

  -- a fresh candidate that is held has a base, and a time up to the last
  held_from : (group : List (ObjectId × ℕ)) (one : Seen) (found : Option Candidate)
      → fresh_candidate asked group one ≡ found → is_held_in (own_candidates state one.object) found ≡ true
      → (fresh : Candidate) × (fresh_candidate asked group one ≡ Some fresh)
      × (holds fresh (own_candidates state one.object) ≡ true)
  held_from group one None is holding = absurd (false≢true holding)
  held_from group one (Some fresh) is holding = (fresh, is, holding)

  held_fits : (group : List (ObjectId × ℕ)) (object : ObjectId)
      → is_held state asked group (seen_of state asked object) ≡ true → stamp_form.Fits (fresh_stamp asked object)
  unfolding is_held
  held_fits group object holding =
      let one : Seen = seen_of state asked object in
      let held = held_from group one (fresh_candidate asked group one) refl holding in
      let last : ((held.0).stamp).time ≤ LAST_TIME = own_in_time state object held.0 fits.own held.2 in
      let time_is : ((held.0).stamp).time ≡ (latest_of (shown_of asked object)).time + 1 =
      ap (λ (it : Stamp). it.time) (made_of asked group one held.0 held.1).1 in
      fresh_fits object (omega (arith, time_is, last))

  -- ---- the rows, of objects that have numbers

  module _ (objects : List ObjectId) (numbered : AllByRecursion IsNumbered objects) where
    abbrev seen : List Seen
    seen = seen_each state asked objects

    -- what fits each object that has a number fits what was seen of it
    each_numbered : (P : Seen → Type 0) → ((object : ObjectId) → IsNumbered object → P (seen_of state asked object))
        → AllByRecursion P seen
    each_numbered P gives = by objects numbered
      where
        by : (some : List ObjectId) → AllByRecursion IsNumbered some → AllByRecursion P (seen_each state asked some)
        by [] within = tt
        by (object ∷ later) within = (gives object within.0, by later within.1)

    current : Gives (row_current state seen)
    unfolding row_current
    current = refusing_first _ (λ (it : Seen). NotCurrent it.object (own_latest state it.object)) seen
        (each_numbered (λ it. verdict_form.Fits (Refused (NotCurrent it.object (own_latest state it.object))))
        (λ it within. current_fits it within (own_latest state it) (own_fits state asked fits asks it)))

    method : Gives (row_method seen)
    unfolding row_method
    method = refusing_first _ (λ (it : Seen). NotMethod it.object (class_told it)) seen
        (each_numbered (λ it. verdict_form.Fits (Refused (NotMethod it.object (class_told it))))
        (λ it within. method_fits it within (class_told (seen_of state asked it))))

    time : Gives (row_time seen)
    unfolding row_time
    time = refusing_first _ (λ (it : Seen). TimeSpent it.object) seen
        (each_numbered (λ it. verdict_form.Fits (Refused (TimeSpent it.object))) (λ it within. time_fits it within))

    full : Gives (row_full state seen)
    unfolding row_full
    full = refusing_first _ (λ (it : Seen). HistoryFull it.object) seen
        (each_numbered (λ it. verdict_form.Fits (Refused (HistoryFull it.object))) (λ it within. full_fits it within))

    key_of : (object : ObjectId) → IsNumbered object → (found : Option Candidate)
        → method_base state asked object ≡ found → (key : ObjectId × Stamp)
        → option_map (λ (base : Candidate). (object, base.stamp)) found ≡ Some key → KeyFits key
    key_of object within None is key given = absurd (none-some key given)
    key_of object within (Some base) is key given =
        subst KeyFits (same_Some (object, base.stamp) key given) (base_key_fits object within base is)

    -- what is found by what was seen of each
    found_seen : {Y : Type 0} (P : Y → Type 0) (of : Seen → Option Y) → ((object : ObjectId) → IsNumbered object
        → (found : Y) → of (seen_of state asked object) ≡ Some found → P found)
        → AllByRecursion P (filter_map of seen)
    found_seen {Y = Y} P of has = found_each (λ one. (found : Y) → of one ≡ Some found → P found) P of
        (λ one here found is. here found is) seen
        (each_numbered (λ one. (found : Y) → of one ≡ Some found → P found) has)

    lacking : Gives (row_version state seen)
    unfolding row_version
    lacking = waiting _ (each_kept KeyFits _ (base_keys seen) (found_seen KeyFits base_key
        (λ object within key given. key_of object within (method_base state asked object) refl key given))) _

    base_all : AllByRecursion VersionFits (base_versions state seen)
    base_all = found_seen VersionFits (version_seen state) (λ object within version is. before_fits object version is)

  -- versions that a replica has fit
  under_all : (keys : List (ObjectId × Stamp)) → AllByRecursion VersionFits (versions_under state keys)
  under_all keys = found_each (λ key. Unit {0}) VersionFits (λ key. version_at key.0 key.1 state.versions)
      (λ key any version is. version_fits key.0 key.1 state.versions version fits.versions is) keys (any_each keys)
    where
      any_each : (keys : List (ObjectId × Stamp)) → AllByRecursion (λ key. Unit {0}) keys
      any_each [] = tt
      any_each (key ∷ later) = (tt, any_each later)

  -- ---- an act

  module _ (parts : List (ObjectId × Method)) (rise : PartsRise parts) (sized : PartsFit parts) where
    abbrev objects : List ObjectId
    objects = objects_named parts

    numbered : AllByRecursion IsNumbered (objects_named parts)
    numbered = all_numbered 0 (objects_named parts) rise.rise

    abbrev all_seen : List Seen
    all_seen = seen_each state asked objects

    retry : Gives (row_retry state asked parts all_seen)
    unfolding row_retry
    retry = if_given _ _ (λ all.
        let group : List (ObjectId × ℕ) = group_seen asked all_seen in
        let keys : List (ObjectId × Stamp) = fresh_keys asked all_seen in
        let stamps : AllByRecursion (λ object. stamp_form.Fits (fresh_stamp asked object)) objects =
        of_seen state asked (λ one. is_held state asked group one ≡ true)
        (λ object. stamp_form.Fits (fresh_stamp asked object)) objects (λ object is. held_fits group object is)
        (each_true (is_held state asked group) all_seen all) in
        again_fits keys (subst (λ (it : List (ObjectId × Stamp)). stamps_form.Fits it)
        (sym (fresh_each state asked objects)) (stamps_fit (fresh_stamp asked) parts rise stamps))
        (standing_in asked parts (versions_under state keys))
        (standing_in-fits asked parts (versions_under state keys) numbered (under_all keys)))

    repeats : Gives (row_kept asked parts (base_versions state all_seen))
    unfolding row_kept
    repeats = repeated_fits _
        (standing_in-fits asked parts (base_versions state all_seen) numbered (base_all objects numbered))

    module _ (is_method : row_method all_seen ≡ None) (is_version : row_version state all_seen ≡ None)
        (is_time : row_time all_seen ≡ None) where
      bases : AreBases state asked (base_of state asked) (before_of state asked) objects
      bases = passed_method state asked objects is_method

      befores : AreBefores state asked (base_of state asked) (before_of state asked) objects
      befores = passed_version state asked objects is_version

      versions : AllByRecursion (λ object. VersionFits (before_of state asked object)) objects
      versions = each_weaker (λ object. base_version state asked object ≡ Some (before_of state asked object))
          (λ object. VersionFits (before_of state asked object)) objects
          (λ object is. before_fits object (before_of state asked object) is) befores

      in_time : AllByRecursion (λ object. (latest_of (shown_of asked object)).time < LAST_TIME) objects
      in_time = passed_time state asked objects is_time

      -- the candidate of an object
      abbrev fresh : ObjectId → Candidate
      fresh = fresh_candidates state asked (base_of state asked) (before_of state asked) objects

      abbrev GroupFits : ObjectId → Type 0
      GroupFits object = (group_form object (fresh_stamp asked object)).Fits (fresh_group asked objects)

      candidates : AllByRecursion (λ object. CandidateFits object (fresh object)) objects
      candidates = all_both (λ object. method_base state asked object ≡ Some (base_of state asked object))
          (λ object. ((latest_of (shown_of asked object)).time < LAST_TIME) × GroupFits object)
          (λ object. CandidateFits object (fresh object))
          (λ object is with_group. let below : (latest_of (shown_of asked object)).time < LAST_TIME = with_group.0
          in upon_fits (fresh_group asked objects) object (base_of state asked object) is (omega (arith, below))
          with_group.1) objects bases
          (all_both (λ object. (latest_of (shown_of asked object)).time < LAST_TIME) GroupFits
          (λ object. ((latest_of (shown_of asked object)).time < LAST_TIME) × GroupFits object)
          (λ object below whole. (below, whole)) objects in_time
          (fresh_groups_fit asked parts rise in_time))

      stamps : AllByRecursion (λ object. stamp_form.Fits (fresh_stamp asked object)) objects
      stamps = each_weaker (λ object. CandidateFits object (fresh object))
          (λ object. stamp_form.Fits (fresh_stamp asked object)) objects (λ object made. made.stamp) candidates

      abbrev values : List Value
      values = values_before asked.client asked.number parts (fresh_stamp asked) (before_of state asked)

      abbrev value_then : ObjectId → Value
      value_then = value_after asked.client asked.number parts (fresh_stamp asked) (before_of state asked)

      values_fit : AllByRecursion ValueFits values
      values_fit = values_each (before_of state asked) parts versions

      many_values : length values ≡ length parts
      many_values = length-map parts (λ part. (before_of state asked part.0).value)

      answered : answer_form.Fits (performed_answer parts values)
      answered = performed_fits parts rise sized values values_fit many_values

      values_then : AllByRecursion (λ object. ValueFits (value_then object)) objects
      values_then = of_objects ValueFits value_then parts
          (subst (AllByRecursion ValueFits)
          (values_are asked.client asked.number parts (fresh_stamp asked) (before_of state asked)
          (all_distinct 0 objects rise.rise))
          (values_fitting parts rise sized values values_fit many_values))

      -- the version of an object after the act
      made_fits : (object : ObjectId) → ValueFits (value_then object)
          → stamp_form.Fits (fresh_stamp asked object) × VersionFits (before_of state asked object)
          → VersionFits (versions_made state asked (base_of state asked) (before_of state asked) parts object)
      made_fits object value other =
          let before : ObjState = before_of state asked object in
          let was : VersionFits before = other.1 in
          let row = row_by asked.client asked.number parts values in
          record {
            value = value;
            kept = all_with client_of RowFits row before.kept (record {
              low = asks.low;
              high = asks.high;
              number = asks.number;
              act = act_sized asked.client asked.number parts;
              answer = answered;
            }) was.kept;
            rising = rising_with client_of row before.kept was.rising;
            links = links-fit _ (links_with (links_to_others object (fresh_stamp asked object) parts) before.links
                (others_fit object (fresh_stamp asked object) other.0 parts numbered)
                (links-read before.links was.links));
          }

      made : AllByRecursion (λ object.
          VersionFits (versions_made state asked (base_of state asked) (before_of state asked) parts object)) objects
      made = all_both (λ object. ValueFits (value_then object))
          (λ object. stamp_form.Fits (fresh_stamp asked object) × VersionFits (before_of state asked object))
          (λ object. VersionFits (versions_made state asked (base_of state asked) (before_of state asked) parts object))
          made_fits objects values_then
          (all_both (λ object. stamp_form.Fits (fresh_stamp asked object))
          (λ object. VersionFits (before_of state asked object))
          (λ object. stamp_form.Fits (fresh_stamp asked object) × VersionFits (before_of state asked object))
          (λ object stamp version. (stamp, version)) objects stamps versions)

      done : Gives (row_done asked parts all_seen (base_versions state all_seen))
      done decision given =
          subst DecisionFits
          (same_Some _ decision
          (sym (done_each state asked (base_of state asked) (before_of state asked) parts
          (all_distinct 0 objects rise.rise) bases befores) ∙ given)) (
            done_fits (with_stamps (fresh_stamp asked) objects)
                (performed_answer parts (values_of (map (before_of state asked) objects)))
                (stamps_fit (fresh_stamp asked) parts rise stamps)
                (performed_fits parts rise sized (values_of (map (before_of state asked) objects))
                (values_named (before_of state asked) parts versions) (many_named (before_of state asked) parts)),
            accept_each fresh
                (versions_made state asked (base_of state asked) (before_of state asked) parts) objects candidates made,
          )

    pub act_decision-fits : DecisionFits (decide_act state asked parts (objects_named parts))
    unfolding decide_act
    act_decision-fits =
        past _ _ (unknown state asked fits asks) (λ _.
        past _ _ (thin state asked fits asks) (λ _.
        past _ _ retry (λ _.
        past _ _ (current objects numbered) (λ _.
        past _ _ (method objects numbered) (λ is_method.
        past _ _ (lacking objects numbered) (λ is_version.
        past _ _ repeats (λ _.
        past _ _ (time objects numbered) (λ is_time.
        past _ _ (full objects numbered) (λ _.
        past _ _ (done is_method is_version is_time) (λ _. no_row))))))))))

  -- ---- a query

  module _ (query : List (ObjectId × Ask)) (rise : PartsRise query) where
    abbrev asked_objects : List ObjectId
    asked_objects = objects_named query

    numbered_asked : AllByRecursion IsNumbered (objects_named query)
    numbered_asked = all_numbered 0 (objects_named query) rise.rise

    abbrev seen_asked : List Seen
    seen_asked = seen_each state asked asked_objects

    told : row_method seen_asked ≡ None → row_version state seen_asked ≡ None
        → Gives (row_told query seen_asked (base_versions state seen_asked))
    told is_method is_version decision given =
        let are_bases : AreBases state asked (base_of state asked) (before_of state asked) asked_objects =
        passed_method state asked asked_objects is_method in
        let are_befores : AreBefores state asked (base_of state asked) (before_of state asked) asked_objects =
        passed_version state asked asked_objects is_version in
        let fit : AllByRecursion (λ object. VersionFits (before_of state asked object)) asked_objects =
        each_weaker (λ object. base_version state asked object ≡ Some (before_of state asked object))
        (λ object. VersionFits (before_of state asked object)) asked_objects
        (λ object is. before_fits object (before_of state asked object) is) are_befores in
        subst DecisionFits
        (same_Some _ decision
        (sym (told_each state asked (base_of state asked) (before_of state asked) query are_bases are_befores)
        ∙ given)) (
          told_fits (with_stamps (λ object. (base_of state asked object).stamp) asked_objects)
              (told_answer query (values_of (map (before_of state asked) asked_objects)))
              (stamps_fit (λ object. (base_of state asked object).stamp) query rise
              (each_weaker (λ object. method_base state asked object ≡ Some (base_of state asked object))
              (λ object. stamp_form.Fits (base_of state asked object).stamp) asked_objects
              (λ object is. base_fits object (base_of state asked object) is) are_bases))
              (read_fits query rise (values_of (map (before_of state asked) asked_objects))
              (values_named (before_of state asked) query fit) (many_named (before_of state asked) query)),
          tt,
        )

    pub ask_decision-fits : DecisionFits (decide_ask state asked query (objects_named query))
    unfolding decide_ask
    ask_decision-fits =
        past _ _ (unknown state asked fits asks) (λ _.
        past _ _ (thin state asked fits asks) (λ _.
        past _ _ (current asked_objects numbered_asked) (λ _.
        past _ _ (method asked_objects numbered_asked) (λ is_method.
        past _ _ (lacking asked_objects numbered_asked) (λ is_version.
        past _ _ (told is_method is_version) (λ _. no_row))))))
