-- A replica that is ready for an act performs it: the rows before the last decide nothing, and the last is Done.
use Rattle.std.proofs.Common.{◌≡◌, ℕ, ◌<◌, ◌≤◌, ◌&&◌, ◌||◌, Bool, true, false, cond, map, inl, List, [], ◌∷◌, length, Option, None, Some, IsTrue, refl, sym, ap, subst, ◌∙◌, arith}
use Rattle.std.specs.Prelude.{nat_le, nat_lt, find, is_none, option_map, option_and_then}
use Rattle.std.specs.List.{AllByRecursion, list_all, list_any}
use Rattle.std.proofs.lemmas.Bool.{false≢true, lt-leb, le-ltb}
use Rattle.std.proofs.lemmas.List.{length-map}
use Rattle.qu_base.specs.Bounds.{quorum}
use Rattle.qu_base.specs.declared.party.ClientId.{ClientId}
use Rattle.qu_base.specs.declared.party.Digest.{Digest}
use Rattle.qu_base.specs.declared.party.ObjectId.{ObjectId}
use Rattle.qu_base.proofs.EachItem.{each_weaker}
use Rattle.qu_stamp.specs.declared.stamp.Stamp.{Stamp}
use Rattle.qu_stamp.specs.declared.limits.TheConstants.{LAST_TIME}
use Rattle.qu_stamp.specs.declared.candidate.Candidate.{Candidate}
use Rattle.qu_stamp.specs.Stamp.{is_below}
use Rattle.qu_stamp.proofs.Order.{is_below-self}
use Rattle.qu_history.specs.declared.limits.TheConstants.{HISTORY_LIMIT}
use Rattle.qu_history.specs.declared.sets.SetOf.{SetOf}
use Rattle.qu_history.specs.History.{ObjectHistory, holds}
use Rattle.qu_history.specs.Sets.{latest_of}
use Rattle.qu_history.proofs.RightSeals.{culled_whole}
use Rattle.qu_objects.specs.declared.act.Method.{Method}
use Rattle.qu_objects.specs.declared.state.ObjState.{ObjState}
use Rattle.qu_objects.specs.Digesting.{act_digest}
use Rattle.qu_objects.specs.Parts.{are_parts}
use Rattle.qu_kept.specs.declared.repeats.Standing.TheVariants.{Fresh}
use Rattle.qu_kept.specs.Standing.{standing_of}
use Rattle.qu_kept.proofs.StandingLaws.{fresh_where}
use Rattle.qu_verdicts.specs.declared.verdict.Refusal.{Refusal}
use Rattle.qu_verdicts.specs.declared.verdict.Refusal.TheVariants as refusal
use Rattle.qu_mends.specs.declared.accepted.Accepted.{Accepted}
use Rattle.qu_mends.specs.declared.seen.Seen.{Seen}
use Rattle.qu_mends.specs.Mending.{is_held_in}
use Rattle.qu_rows.specs.declared.decision.Decision.{Decision}
use Rattle.qu_rows.specs.declared.decision.Decision.TheVariants.{Answers, Waits}
use Rattle.qu_rows.specs.State.{ReplicaState, own_candidates, own_latest}
use Rattle.qu_rows.specs.Rows.{Asked, asked_of, asked_at, refuse, shown_of, seen_of, seen_each, method_base, version_seen, base_version, base_versions, base_keys, missing_of, versions_under, class_told, fresh_stamp, fresh_keys, group_seen, standing_in, done_again, is_held, repeated, row_unknown, row_thin, row_retry, row_current, row_method, row_version, row_kept, row_time, row_full, row_done, decide_act, decision_on}
use Rattle.qu_fitting.proofs.CarriedEach.{AreBases, AreBefores, accepted_each, fresh_upon, fresh_candidates, versions_made, group_each, versions_each, done_each}
use Rattle.qu_mends.specs.Table.{first_given}
use Rattle.qu_frames.specs.declared.frame.Body.TheVariants as body
use Rattle.qu_verdicts.specs.declared.verdict.Verdict.TheVariants as verdict
use Rattle.qu_objects.specs.declared.kind.Value.{Value}
use Rattle.qu_objects.specs.Performing.{performed_answer}
use Rattle.qu_kept.specs.Rows.{row_of}
use Rattle.qu_kept.specs.Standing.{AreLower, IsLower}
use Rattle.qu_kept.proofs.EachObject.{objects_named, distinct_parts, values_are-before}
use Rattle.qu_versions.specs.Versions.{version_at}
use Rattle.qu_claims.specs.Parts.{Names}
use Rattle.qu_grounds.proofs.Grounds.{IsBase, is_base, fresh_above}
use Rattle.qu_replies.proofs.EachOf.{all_named, each_made}
use Rattle.qu_quick.specs.Done.{done_stamps, done_verdict, IsReady}

-- ---- small ones

-- where no item is bad, nothing is refused
none_found : {A : Type 0} (bad : A → Bool) (items : List A) → AllByRecursion (λ item. bad item ≡ false) items
    → find bad items ≡ None
none_found bad [] good = refl
none_found bad (item ∷ later) good =
    ap (λ (test : Bool). cond test (Some item) (find bad later)) good.0 ∙ none_found bad later good.1

none_refused : {A : Type 0} (why : A → Refusal) (bad : A → Bool) (items : List A)
    → AllByRecursion (λ item. bad item ≡ false) items → option_map (λ it. refuse (why it)) (find bad items) ≡ None
none_refused why bad items good = ap (option_map (λ it. refuse (why it))) (none_found bad items good)

none_any : {A : Type 0} (bad : A → Bool) (items : List A) → AllByRecursion (λ item. bad item ≡ false) items
    → list_any bad items ≡ false
none_any bad [] good = refl
none_any bad (item ∷ later) good = ap (λ (test : Bool). test || list_any bad later) good.0 ∙ none_any bad later good.1

-- an operation has a part
some_part : {X : Type 0} (parts : List (ObjectId × X)) → IsTrue (are_parts parts) → 1 ≤ length parts
some_part [] is = absurd (false≢true is)
some_part (part ∷ later) is = omega arith

-- where a test fails on what was seen of each object, it does not hold on all of some
not_all : (test : Seen → Bool) (of : ObjectId → Seen) (parts : List (ObjectId × Method)) → 1 ≤ length parts
    → ((object : ObjectId) → Names parts object → test (of object) ≡ false)
    → list_all test (map of (objects_named parts)) ≡ false
not_all test of [] some fails = absurd (omega (arith, some))
not_all test of (part ∷ later) some fails =
    ap (λ (first : Bool). first && list_all test (map of (objects_named later))) (fails part.0 (inl refl))

last_row : (u t r c m v k i f d : Option Decision) (decision : Decision)
    → u ≡ None → t ≡ None → r ≡ None → c ≡ None → m ≡ None → v ≡ None → k ≡ None → i ≡ None → f ≡ None
    → d ≡ Some decision
    → first_given (Waits []) (u ∷ t ∷ r ∷ c ∷ m ∷ v ∷ k ∷ i ∷ f ∷ d ∷ []) ≡ decision
unfolding first_given
last_row u t r c m v k i f d decision pu pt pr pc pm pv pk pi pf pd =
    rw (pu, pt, pr, pc, pm, pv, pk, pi, pf, pd) refl

-- ---- the rows

module _ (state : ReplicaState) (client : ClientId) (number : ℕ) (sets : List SetOf) (parts : List (ObjectId × Method))
    (bases : ObjectId → Candidate) (versions : ObjectId → ObjState) (fits : IsTrue (are_parts parts))
    (ready : IsReady state client number sets parts bases versions) where
  abbrev objects : List ObjectId
  objects = objects_named parts

  abbrev asked : Asked
  asked = asked_of client number sets (body.Act parts)

  abbrev seen : List Seen
  seen = seen_each state asked objects

  abbrev shown : ObjectId → List ObjectHistory
  shown object = shown_of asked object

  abbrev fresh : ObjectId → Candidate
  fresh = fresh_candidates state asked bases versions objects

  each : (P : ObjectId → Type 0) → ((object : ObjectId) → Names parts object → P object) → AllByRecursion P objects
  each P gives = all_named P parts gives

  each_seen : (P : Seen → Type 0) → ((object : ObjectId) → Names parts object → P (seen_of state asked object))
      → AllByRecursion P seen
  each_seen P gives =
      each_made (seen_of state asked) P objects (each (λ object. P (seen_of state asked object)) gives)

  based : (object : ObjectId) → Names parts object → IsBase state.keys.bounds (shown object) (bases object)
  based object names = is_base state.keys.bounds (shown object) (bases object) (ready.each object names).method

  is_current : (object : ObjectId) → Names parts object
      → is_below (latest_of (shown object)) (own_latest state object) ≡ false
  is_current object names =
      ap (λ (stamp : Stamp). is_below stamp (own_latest state object)) (sym (based object names).latest)
      ∙ (ready.each object names).current

  version_found : (object : ObjectId) → Names parts object → base_version state asked object ≡ Some (versions object)
  version_found object names =
      ap (option_and_then (λ (base : Candidate). version_at object base.stamp state.versions))
      (ready.each object names).method ∙ (ready.each object names).stored

  bases_are : AreBases state asked bases versions objects
  bases_are =
      each (λ object. method_base state asked object ≡ Some (bases object))
      (λ object names. (ready.each object names).method)

  befores_are : AreBefores state asked bases versions objects
  befores_are = each (λ object. base_version state asked object ≡ Some (versions object)) version_found

  unknown : row_unknown state asked ≡ None
  unfolding row_unknown
  unknown =
      none_refused (λ (it : SetOf). refusal.UnknownObject it.object)
      (λ (it : SetOf). nat_le (length state.histories) (it.object).0) sets
      (each_weaker (λ (it : SetOf). (it.object).0 < length state.histories)
      (λ (it : SetOf). nat_le (length state.histories) (it.object).0 ≡ false) sets
      (λ it below. lt-leb (length state.histories) (it.object).0 below) ready.known)

  thin : row_thin state asked ≡ None
  unfolding row_thin
  thin =
      none_refused (λ (it : SetOf). refusal.Thin it.object)
      (λ (it : SetOf). nat_lt (length it.entries) (quorum state.keys.bounds)) sets
      (each_weaker (λ (it : SetOf). quorum state.keys.bounds ≤ length it.entries)
      (λ (it : SetOf). nat_lt (length it.entries) (quorum state.keys.bounds) ≡ false) sets
      (λ it many. le-ltb (length it.entries) (quorum state.keys.bounds) many) ready.enough)

  -- what the act would make is above all that the replica has
  not_held : (object : ObjectId) → Names parts object → (test : Bool)
      → holds (fresh object) (own_candidates state object) ≡ test → test ≡ false
  not_held object names false is = refl
  not_held object names true is =
      absurd (false≢true (sym (is_below-self (fresh object).stamp)
      ∙ fresh_above state asked object (is_current object names) (fresh object) is))

  held_none : (object : ObjectId) → Names parts object
      → is_held state asked (group_seen asked seen) (seen_of state asked object) ≡ false
  unfolding is_held
  held_none object names =
      ap (λ (found : Option Candidate).
      is_held_in (own_candidates state object) (option_map (fresh_upon asked (group_seen asked seen) object) found))
      (ready.each object names).method
      ∙ ap (λ (group : List (ObjectId × ℕ)).
      holds (fresh_upon asked group object (bases object)) (own_candidates state object))
      (group_each state asked objects)
      ∙ not_held object names (holds (fresh object) (own_candidates state object)) refl

  retry : row_retry state asked parts seen ≡ None
  unfolding row_retry
  retry =
      ap (λ (test : Bool). cond test
      (done_again (fresh_keys asked seen) (standing_in asked parts (versions_under state (fresh_keys asked seen)))) None)
      (not_all (is_held state asked (group_seen asked seen)) (seen_of state asked) parts (some_part parts fits)
      held_none)

  current : row_current state seen ≡ None
  unfolding row_current
  current =
      none_refused (λ (it : Seen). refusal.NotCurrent it.object (own_latest state it.object))
      (λ (it : Seen). is_below it.latest (own_latest state it.object)) seen
      (each_seen (λ it. is_below it.latest (own_latest state it.object) ≡ false) is_current)

  of_method : row_method seen ≡ None
  unfolding row_method
  of_method =
      none_refused (λ (it : Seen). refusal.NotMethod it.object (class_told it)) (λ (it : Seen). is_none it.method) seen
      (each_seen (λ it. is_none it.method ≡ false)
      (λ it names. ap (λ (found : Option Candidate). is_none found) (ready.each it names).method))

  has_version : row_version state seen ≡ None
  unfolding row_version
  has_version =
      ap (λ (test : Bool). cond test (Some (Waits (missing_of state (base_keys seen)))) None)
      (none_any (λ (it : Seen). is_none (version_seen state it)) seen
      (each_seen (λ it. is_none (version_seen state it) ≡ false)
      (λ it names. ap (λ (found : Option ObjState). is_none found) (version_found it names))))

  kept : row_kept asked parts (base_versions state seen) ≡ None
  unfolding row_kept
  kept =
      let act : Digest = act_digest client number parts in
      let size : length (map versions objects) ≡ length parts =
      length-map objects versions ∙ length-map parts (λ part. part.0) in
      let lower : AreLower client number (map versions objects) =
      each_made versions (λ (it : ObjState). IsLower number (row_of client it.kept)) objects
      (each (λ it. IsLower number (row_of client (versions it).kept)) (λ it names. (ready.each it names).lower)) in
      let stands : standing_of client number act parts (map versions objects) ≡ Fresh =
      (fresh_where client number act parts (map versions objects) fits size).1 lower in
      ap (λ (states : List ObjState). repeated (standing_of client number act parts states))
      (versions_each state asked bases versions objects befores_are) ∙ ap repeated stands

  time : row_time seen ≡ None
  unfolding row_time
  time =
      none_refused (λ (it : Seen). refusal.TimeSpent it.object) (λ (it : Seen). nat_le LAST_TIME it.latest.time) seen
      (each_seen (λ it. nat_le LAST_TIME it.latest.time ≡ false)
      (λ it names. lt-leb LAST_TIME (latest_of (shown it)).time
      (subst (λ (stamp : Stamp). stamp.time < LAST_TIME) (based it names).latest (ready.each it names).in_time)))

  full : row_full state seen ≡ None
  unfolding row_full
  full =
      none_refused (λ (it : Seen). refusal.HistoryFull it.object)
      (λ (it : Seen). nat_le HISTORY_LIMIT (length (own_candidates state it.object))) seen
      (each_seen (λ it. nat_le HISTORY_LIMIT (length (own_candidates state it.object)) ≡ false)
      (λ it names. lt-leb HISTORY_LIMIT (length (own_candidates state it)) (ready.each it names).room))

  -- ---- what is decided

  -- what is accepted: the fresh candidates, with the versions that the act makes of those of the bases
  pub accepted_all : List Accepted
  accepted_all = accepted_each fresh (versions_made state asked bases versions parts) objects

  done : row_done asked parts seen (base_versions state seen)
      ≡ Some (Answers (done_verdict client number sets parts versions) accepted_all)
  unfolding accepted_all
  done =
      done_each state asked bases versions parts (distinct_parts parts fits) bases_are befores_are
      ∙ ap (λ (values : List Value). Some (Answers (verdict.Done (done_stamps client number sets parts)
      (performed_answer parts values)) (accepted_each fresh (versions_made state asked bases versions parts) objects)))
      (values_are-before client number parts (fresh_stamp asked) versions parts)

  decided : decision_on state asked (body.Act parts)
      ≡ Answers (done_verdict client number sets parts versions) accepted_all
  unfolding decide_act
  decided = last_row _ _ _ _ _ _ _ _ _ _ _ unknown thin retry current of_method has_version kept time full done

  -- nothing is culled
  pub same_asked : asked_at state client number sets (body.Act parts) ≡ asked
  same_asked =
      ap (λ (them : List SetOf). asked_of client number them (body.Act parts))
      (culled_whole state.keys state.me sets ready.right)

  -- so the act is done
  pub done_forward : decision_on state (asked_at state client number sets (body.Act parts)) (body.Act parts)
      ≡ Answers (done_verdict client number sets parts versions) accepted_all
  done_forward = ap (λ (it : Asked). decision_on state it (body.Act parts)) same_asked ∙ decided
