-- What a replica that tells Done again says is true of it: what the act would make is held.
use Rattle.std.proofs.Common.{◌≡◌, ℕ, Bool, true, false, cond, List, [], ◌∷◌, length, map, Option, None, Some, IsTrue, refl, sym, subst, ap, ◌∙◌}
use Rattle.std.specs.Prelude.{option_map, unwrap_or}
use Rattle.std.specs.List.{AllByRecursion, list_all, cons_option}
use Rattle.std.proofs.lemmas.Bool.{and_parts, false≢true}
use Rattle.std.proofs.lemmas.List.{length-map}
use Rattle.std.proofs.lemmas.List.Elements.{All-from_recursion}
use Rattle.std.proofs.lemmas.Option.{none-some, same_Some}
use Rattle.qu_base.specs.declared.party.ClientId.{ClientId}
use Rattle.qu_base.specs.declared.party.Digest.{Digest}
use Rattle.qu_base.specs.declared.party.ObjectId.{ObjectId}
use Rattle.qu_stamp.specs.declared.stamp.Stamp.{Stamp}
use Rattle.qu_stamp.specs.declared.candidate.Candidate.{Candidate}
use Rattle.qu_stamp.specs.Candidate.{opening}
use Rattle.qu_history.specs.History.{holds}
use Rattle.qu_objects.specs.declared.act.Method.{Method}
use Rattle.qu_objects.specs.declared.answer.Answer.{Answer}
use Rattle.qu_objects.specs.declared.state.ObjState.{ObjState}
use Rattle.qu_objects.specs.Parts.{are_parts}
use Rattle.qu_kept.specs.declared.repeats.Standing.{Standing}
use Rattle.qu_kept.specs.declared.repeats.Standing.TheVariants.{Fresh, Already, Spent}
use Rattle.qu_kept.specs.Standing.{standing_of}
use Rattle.qu_kept.proofs.EachObject.{objects_named}
use Rattle.qu_kept.proofs.KeyedLaws.{all_both}
use Rattle.qu_verdicts.specs.declared.verdict.Verdict.TheVariants as verdict
use Rattle.qu_versions.specs.declared.stored.Stored.{Stored}
use Rattle.qu_versions.specs.Versions.{version_at}
use Rattle.qu_mends.specs.declared.accepted.Accepted.{Accepted}
use Rattle.qu_mends.specs.declared.seen.Seen.{Seen}
use Rattle.qu_mends.specs.Mending.{is_held_in}
use Rattle.qu_rows.specs.declared.decision.Decision.{Decision}
use Rattle.qu_rows.specs.declared.decision.Decision.TheVariants.{Answers, Waits}
use Rattle.qu_rows.specs.Allowed.{MayAcceptAll}
use Rattle.qu_rows.specs.State.{ReplicaState, own_candidates}
use Rattle.qu_rows.specs.Rows.{Asked, seen_of, seen_each, method_base, fresh_stamp, fresh_keys, group_seen, versions_under, is_held, standing_in, done_again, row_retry}
use Rattle.qu_fitting.specs.Holding.{stored_all, accept_all}
use Rattle.qu_fitting.proofs.CarriedEach.{fresh_upon, with_stamps, fresh_each}
use Rattle.qu_fitting.proofs.PassedRows.{base_of, before_of}
use Rattle.qu_replies.specs.Replies.{Keeps, HoldsOfFirst, HasDone, TellsDone, TellsAlready}
use Rattle.qu_replies.proofs.EachOf.{each_made, each_of_made, first_made, first_of_made, first_also}
use Rattle.qu_replies.proofs.KeptActs.{kept_where}
use Rattle.qu_replies.proofs.QueryReplies.{Gives, told_objects}

-- each version that is added under a stamp where one was found before is that one
abbrev pub AddsWhatIsFound : ReplicaState → List Accepted → Type 0
AddsWhatIsFound state accepted = AllByRecursion (λ (it : Stored). (before : ObjState)
    → version_at it.object it.stamp state.versions ≡ Some before → before ≡ it.state) (stored_all accepted)

-- each candidate without barrier that is held has its version
abbrev pub HasVersions : ReplicaState → Type 0
HasVersions state = (object : ObjectId) (candidate : Candidate) → candidate.stamp.barrier ≡ false
    → holds candidate (own_candidates state object) ≡ true
    → (version : ObjState) × (version_at object candidate.stamp state.versions ≡ Some version)

-- what is done is held, with its versions; what was done before is kept by the versions on which the act would rest
abbrev pub ActTells : ReplicaState → Asked → Digest → List (ObjectId × Method) → Decision → Type 0
ActTells state asked act parts (Answers (verdict.Done stamps answer) accepted) =
    HasVersions state → MayAcceptAll state accepted → AddsWhatIsFound state accepted
    → TellsDone (accept_all state accepted) asked.client asked.number act parts stamps answer
ActTells state asked act parts (Answers (verdict.Told stamps answer) accepted) = ⊥
ActTells state asked act parts (Answers (verdict.Already answer) accepted) =
    TellsAlready state asked.client asked.number act asked.sets parts answer
ActTells state asked act parts (Answers (verdict.Mended other stamp) accepted) = ⊥
ActTells state asked act parts (Answers (verdict.Refused why) accepted) = Unit {0}
ActTells state asked act parts (Waits missing) = Unit {0}

abbrev TellsIfDone : ReplicaState → Asked → Digest → List (ObjectId × Method) → Decision → Type 0
TellsIfDone state asked act parts (Answers (verdict.Done stamps answer) accepted) =
    TellsDone (accept_all state accepted) asked.client asked.number act parts stamps answer
TellsIfDone state asked act parts (Answers (verdict.Told stamps answer) accepted) = Unit {0}
TellsIfDone state asked act parts (Answers (verdict.Already answer) accepted) = Unit {0}
TellsIfDone state asked act parts (Answers (verdict.Mended other stamp) accepted) = Unit {0}
TellsIfDone state asked act parts (Answers (verdict.Refused why) accepted) = Unit {0}
TellsIfDone state asked act parts (Waits missing) = Unit {0}

-- ---- an act whose objects all have some candidate of it

-- a replica has the act's candidates, with versions that keep it, that of the first object with the answer
pub told_done : (state : ReplicaState) (client : ClientId) (number : ℕ) (act : Digest)
    (parts : List (ObjectId × Method)) (stamp : ObjectId → Stamp) (answer : Answer)
    → AllByRecursion (λ object. (kept : Answer) × HasDone state client number act kept (object, stamp object))
    (objects_named parts)
    → HoldsOfFirst (λ object. HasDone state client number act answer (object, stamp object)) (objects_named parts)
    → TellsDone state client number act parts (with_stamps stamp (objects_named parts)) answer
told_done state client number act parts stamp answer each first =
    let objects : List ObjectId = objects_named parts in
    let with_stamp : ObjectId → ObjectId × Stamp = λ object. (object, stamp object) in
    let Done : ObjectId × Stamp → Type 0 =
    λ told. (kept : Answer) × HasDone state client number act kept told in
    record {
      of_parts = told_objects stamp objects;
      each = All-from_recursion Done (with_stamps stamp objects) (each_made with_stamp Done objects each);
      first = first_made with_stamp (HasDone state client number act answer) objects first;
    }

module _ (state : ReplicaState) (asked : Asked) (parts : List (ObjectId × Method)) (in_order : IsTrue (are_parts parts))
    (act : Digest) (is_act : asked.act ≡ Some act) where
  abbrev objects : List ObjectId
  objects = objects_named parts

  abbrev seen : List Seen
  seen = seen_each state asked objects

  abbrev keys : List (ObjectId × Stamp)
  keys = fresh_keys asked seen

  -- the candidate that the act would make of the object
  abbrev fresh_on : ObjectId → Candidate
  fresh_on object = fresh_upon asked (group_seen asked seen) object (base_of state asked object)

  abbrev is_held_on : Seen → Bool
  is_held_on one = is_held state asked (group_seen asked seen) one

  pub many : (make : ObjectId → ObjState) → length (map make objects) ≡ length parts
  many make = length-map objects make ∙ length-map parts (λ part. part.0)

  pub stands_so : (versions : List ObjState)
      → standing_in asked parts versions ≡ standing_of asked.client asked.number act parts versions
  stands_so versions =
      ap (λ (found : Option Digest). elim found [
        | None ↦ Fresh
        | Some digest ↦ standing_of asked.client asked.number digest parts versions
      ]) is_act

  -- ---- a retry

  -- what the act would make of the object is held
  abbrev IsHeld : ObjectId → Type 0
  IsHeld object = (method_base state asked object ≡ Some (base_of state asked object))
      × (holds (fresh_on object) (own_candidates state object) ≡ true)

  held_by : (object : ObjectId) (found : Option Candidate)
      → is_held_in (own_candidates state object) (option_map (fresh_upon asked (group_seen asked seen) object) found)
      ≡ true
      → (found ≡ Some (unwrap_or found opening))
      × (holds (fresh_upon asked (group_seen asked seen) object (unwrap_or found opening))
      (own_candidates state object) ≡ true)
  held_by object None holding = absurd (false≢true holding)
  held_by object (Some base) holding = (refl, holding)

  held_so : (object : ObjectId) → is_held_on (seen_of state asked object) ≡ true → IsHeld object
  unfolding is_held
  held_so object holding = held_by object (method_base state asked object) holding

  abbrev version_then : ObjectId → ObjState
  version_then object = unwrap_or (version_at object (fresh_stamp asked object) state.versions) (before_of state asked
      object)

  abbrev IsStored : ObjectId → Type 0
  IsStored object = version_at object (fresh_stamp asked object) state.versions ≡ Some (version_then object)

  stored_so : HasVersions state → (object : ObjectId) → IsHeld object → IsStored object
  stored_so has object held =
      let it = has object (fresh_on object) refl held.1 in
      it.1 ∙ ap (λ (found : Option ObjState). Some (unwrap_or found (before_of state asked object))) (sym it.1)

  -- the candidate with its version, which keeps the act
  done_held : (object : ObjectId) (kept : Answer) → IsHeld object × IsStored object
      → Keeps asked.client asked.number act kept (version_then object)
      → HasDone state asked.client asked.number act kept (object, fresh_stamp asked object)
  done_held object kept held keeps = record {
    candidate = fresh_on object;
    is_told = refl;
    held = (held.0).1;
    of_client = refl;
    of_act = is_act;
    version = version_then object;
    of_candidate = held.1;
    keeps = keeps;
  }

  module _ (has : HasVersions state) (all : list_all is_held_on seen ≡ true) where
    abbrev IsThere : ObjectId → Type 0
    IsThere object = IsHeld object × IsStored object

    there : AllByRecursion IsThere objects
    there = by objects all
      where
        by : (some : List ObjectId) → list_all is_held_on (seen_each state asked some) ≡ true
            → AllByRecursion IsThere some
        by [] all = tt
        by (object ∷ later) all =
            let both = and_parts _ (list_all is_held_on (seen_each state asked later)) all in
            let held : IsHeld object = held_so object both.0 in
            ((held, stored_so has object held), by later both.1)

    keys_are : keys ≡ with_stamps (fresh_stamp asked) objects
    keys_are = fresh_each state asked objects

    versions_are : versions_under state (with_stamps (fresh_stamp asked) objects) ≡ map version_then objects
    versions_are = by objects there
      where
        by : (some : List ObjectId) → AllByRecursion IsThere some
            → versions_under state (with_stamps (fresh_stamp asked) some) ≡ map version_then some
        by [] held = refl
        by (object ∷ later) held =
            ap (λ (found : Option ObjState). cons_option found
            (versions_under state (with_stamps (fresh_stamp asked) later))) (held.0).1
            ∙ ap (λ (rest : List ObjState). version_then object ∷ rest) (by later held.1)

    retried : (answer : Answer)
        → standing_of asked.client asked.number act parts (map version_then objects) ≡ Already answer
        → TellsDone state asked.client asked.number act parts (with_stamps (fresh_stamp asked) objects) answer
    retried answer stands =
        let keeps = kept_where asked.client asked.number act parts (map version_then objects) answer in_order
        (many version_then) stands in
        let Keeps-some : ObjState → Type 0 =
        λ version. (kept : Answer) × Keeps asked.client asked.number act kept version in
        told_done state asked.client asked.number act parts (fresh_stamp asked) answer
        (all_both IsThere (λ object. Keeps-some (version_then object))
        (λ object. (kept : Answer)
        × HasDone state asked.client asked.number act kept (object, fresh_stamp asked object))
        (λ object held kept. (kept.0, done_held object kept.0 held kept.1)) objects there
        (each_of_made version_then Keeps-some objects keeps.0))
        (first_also IsThere (λ object. Keeps asked.client asked.number act answer (version_then object))
        (λ object. HasDone state asked.client asked.number act answer (object, fresh_stamp asked object)) objects
        (λ object held kept. done_held object answer held kept) there
        (first_of_made version_then (Keeps asked.client asked.number act answer) objects keeps.1))

    again_done : (standing : Standing)
        → standing_of asked.client asked.number act parts (map version_then objects) ≡ standing
        → (stamps : List (ObjectId × Stamp)) (answer : Answer) (accepted : List Accepted)
        → done_again (with_stamps (fresh_stamp asked) objects) standing
        ≡ Some (Answers (verdict.Done stamps answer) accepted)
        → TellsDone (accept_all state accepted) asked.client asked.number act parts stamps answer
    unfolding accept_all
    again_done Fresh stands stamps answer accepted given = absurd (none-some _ given)
    again_done (Spent on number) stands stamps answer accepted given = absurd (none-some _ given)
    again_done (Already told) stands stamps answer accepted given =
        subst (TellsIfDone state asked act parts) (same_Some _ _ given) (retried told stands)

    -- whatever the row of retries gives
    retry_done : (stamps : List (ObjectId × Stamp)) (answer : Answer) (accepted : List Accepted)
        → done_again keys (standing_in asked parts (versions_under state keys))
        ≡ Some (Answers (verdict.Done stamps answer) accepted)
        → TellsDone (accept_all state accepted) asked.client asked.number act parts stamps answer
    retry_done stamps answer accepted given =
        again_done (standing_of asked.client asked.number act parts (map version_then objects)) refl stamps answer
        accepted
        (sym (ap (λ (it : List (ObjectId × Stamp)). done_again it (standing_in asked parts (versions_under state it)))
        keys_are
        ∙ ap (λ (versions : List ObjState).
        done_again (with_stamps (fresh_stamp asked) objects) (standing_in asked parts versions)) versions_are
        ∙ ap (done_again (with_stamps (fresh_stamp asked) objects)) (stands_so (map version_then objects)))
        ∙ given)

  -- the row of retries gives Done alone
  again_tells : (all : list_all is_held_on seen ≡ true) (standing : Standing)
      → standing_in asked parts (versions_under state keys) ≡ standing → (decision : Decision)
      → done_again keys standing ≡ Some decision → ActTells state asked act parts decision
  again_tells all Fresh stands decision given = absurd (none-some decision given)
  again_tells all (Spent on number) stands decision given = absurd (none-some decision given)
  again_tells all (Already answer) stands decision given =
      subst (ActTells state asked act parts) (same_Some _ decision given)
      (λ has may adds. retry_done has all keys answer [] (ap (done_again keys) stands))

  pub retry_tells : Gives (ActTells state asked act parts) (row_retry state asked parts seen)
  unfolding row_retry
  retry_tells = by (list_all is_held_on seen) refl
    where
      by : (test : Bool) → list_all is_held_on seen ≡ test
          → Gives (ActTells state asked act parts) (cond test
          (done_again keys (standing_in asked parts (versions_under state keys))) None)
      by false all decision given = absurd (none-some decision given)
      by true all decision given =
          again_tells all (standing_in asked parts (versions_under state keys)) refl decision given
