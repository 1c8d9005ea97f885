-- What a reply to a query, and to a request to mend an object, tells of its replica.
use Rattle.std.proofs.Common.{◌≡◌, ℕ, true, false, cond, Bool, List, [], ◌∷◌, length, map, Option, None, Some, refl, sym, subst, ap, ◌∙◌, ltb}
use Rattle.std.specs.Prelude.{option_map, option_and_then}
use Rattle.std.specs.List.{AllByRecursion, AllZip}
use Rattle.std.proofs.lemmas.Option.{none-some, same_Some}
use Rattle.qu_base.specs.declared.party.ClientId.{ClientId}
use Rattle.qu_base.specs.declared.party.ObjectId.{ObjectId}
use Rattle.qu_base.specs.Bounds.{quorum}
use Rattle.qu_stamp.specs.declared.stamp.Stamp.{Stamp}
use Rattle.qu_stamp.specs.declared.candidate.Candidate.{Candidate}
use Rattle.qu_stamp.specs.Stamp.{is_below}
use Rattle.qu_stamp.proofs.Order.{is_below-not_chain}
use Rattle.qu_history.specs.declared.sets.SetOf.{SetOf}
use Rattle.qu_history.specs.Sets.{latest_of}
use Rattle.qu_history.proofs.Stamps.{not_below_latest}
use Rattle.qu_objects.specs.declared.act.Method.{Method}
use Rattle.qu_objects.specs.declared.query.Ask.{Ask}
use Rattle.qu_objects.specs.declared.answer.Answer.{Answer}
use Rattle.qu_objects.specs.declared.state.ObjState.{ObjState}
use Rattle.qu_kept.specs.Performing.{values_of}
use Rattle.qu_kept.proofs.EachObject.{objects_named}
use Rattle.qu_frames.specs.declared.frame.Body.TheVariants as body
use Rattle.qu_verdicts.specs.declared.verdict.Refusal.{Refusal}
use Rattle.qu_verdicts.specs.declared.verdict.Refusal.TheVariants as refusal
use Rattle.qu_verdicts.specs.declared.verdict.Verdict.{Verdict}
use Rattle.qu_verdicts.specs.declared.verdict.Verdict.TheVariants as verdict
use Rattle.qu_mends.specs.declared.accepted.Accepted.{Accepted}
use Rattle.qu_mends.specs.declared.seen.Seen.{Seen}
use Rattle.qu_rows.specs.declared.decision.Decision.{Decision}
use Rattle.qu_rows.specs.declared.decision.Decision.TheVariants.{Answers, Waits}
use Rattle.qu_mends.specs.declared.mending.Mending.{Mending}
use Rattle.qu_mends.specs.declared.mending.Mending.TheVariants as mending
use Rattle.qu_rows.specs.State.{ReplicaState, own_candidates, own_latest}
use Rattle.qu_rows.specs.Rows.{asked_of, Asked, refuse, shown_of, seen_each, method_base, base_version, base_versions, row_unknown, row_thin, row_retry, row_current, row_method, row_version, row_kept, row_time, row_full, row_done, row_told, decide_act, decide_ask, decision_on, row_few, missing_of, evidence_for, waits_for, row_evidence, decision_by, mending_on, decide_repair}
use Rattle.qu_mends.specs.Table.{first_given}
use Rattle.qu_versions.specs.Versions.{version_at}
use Rattle.qu_fitting.proofs.CarriedEach.{with_stamps, AreBases, AreBefores, told_each}
use Rattle.qu_fitting.proofs.PassedRows.{base_of, before_of, passed_current, passed_method, passed_version}
use Rattle.qu_grounds.proofs.Grounds.{is_base}
use Rattle.qu_replies.specs.Replies.{HasTold, TellsQuery, IsOfUpdate}

-- ---- the rows

-- whatever the row decides is such
abbrev pub Gives : (Decision → Type 0) → Option Decision → Type 0
Gives P row = (decision : Decision) → row ≡ Some decision → P decision

-- past a row the later ones decide
past : (P : Decision → Type 0) (row : Option Decision) (later : List (Option Decision)) → Gives P row
    → (row ≡ None → P (first_given (Waits []) later)) → P (first_given (Waits []) (row ∷ later))
unfolding first_given
past P None later here next = next refl
past P (Some decision) later here next = here decision refl

-- where refusals and waiting are such, the rows that answer are left
module _ (P : Decision → Type 0) (refused : (why : Refusal) → P (refuse why))
    (waits : (missing : List (ObjectId × Stamp)) → P (Waits missing)) (state : ReplicaState) (asked : Asked) where
  refusing : {A : Type 0} (why : A → Refusal) (found : Option A) → Gives P (option_map (λ it. refuse (why it)) found)
  refusing why None decision given = absurd (none-some decision given)
  refusing why (Some it) decision given = subst P (same_Some (refuse (why it)) decision given) (refused (why it))

  waiting : (missing : List (ObjectId × Stamp)) (test : Bool) → Gives P (cond test (Some (Waits missing)) None)
  waiting missing false decision given = absurd (none-some decision given)
  waiting missing true decision given = subst P (same_Some (Waits missing) decision given) (waits missing)

  pub unknown : Gives P (row_unknown state asked)
  unfolding row_unknown
  unknown = refusing _ _

  thin : Gives P (row_thin state asked)
  unfolding row_thin
  thin = refusing _ _

  current : (seen : List Seen) → Gives P (row_current state seen)
  unfolding row_current
  current seen = refusing _ _

  method : (seen : List Seen) → Gives P (row_method seen)
  unfolding row_method
  method seen = refusing _ _

  version : (seen : List Seen) → Gives P (row_version state seen)
  unfolding row_version
  version seen = waiting _ _

  time : (seen : List Seen) → Gives P (row_time seen)
  unfolding row_time
  time seen = refusing _ _

  full : (seen : List Seen) → Gives P (row_full state seen)
  unfolding row_full
  full seen = refusing _ _

  no_row : P (first_given (Waits []) [])
  unfolding first_given
  no_row = waits []

  module _ (objects : List ObjectId) where
    abbrev seen : List Seen
    seen = seen_each state asked objects

    pub act_cases : (parts : List (ObjectId × Method)) → Gives P (row_retry state asked parts seen)
        → (row_method seen ≡ None → row_version state seen ≡ None
        → Gives P (row_kept asked parts (base_versions state seen)))
        → (row_current state seen ≡ None → row_method seen ≡ None → row_version state seen ≡ None
        → row_kept asked parts (base_versions state seen) ≡ None
        → Gives P (row_done asked parts seen (base_versions state seen)))
        → P (decide_act state asked parts objects)
    unfolding decide_act
    act_cases parts retry kept done =
        past P _ _ unknown (λ _.
        past P _ _ thin (λ _.
        past P _ _ retry (λ _.
        past P _ _ (current seen) (λ is_current.
        past P _ _ (method seen) (λ is_method.
        past P _ _ (version seen) (λ is_version.
        past P _ _ (kept is_method is_version) (λ is_new.
        past P _ _ (time seen) (λ _.
        past P _ _ (full seen) (λ _.
        past P _ _ (done is_current is_method is_version is_new) (λ _. no_row))))))))))

    ask_cases : (parts : List (ObjectId × Ask))
        → (row_current state seen ≡ None → row_method seen ≡ None → row_version state seen ≡ None
        → Gives P (row_told parts seen (base_versions state seen)))
        → P (decide_ask state asked parts objects)
    unfolding decide_ask
    ask_cases parts told =
        past P _ _ unknown (λ _.
        past P _ _ thin (λ _.
        past P _ _ (current seen) (λ is_current.
        past P _ _ (method seen) (λ is_method.
        past P _ _ (version seen) (λ is_version.
        past P _ _ (told is_current is_method is_version) (λ _. no_row))))))

  few : (target : ObjectId) → Gives P (row_few state asked target)
  unfolding row_few
  few target = by_test (ltb (length (shown_of asked target)) (quorum state.keys.bounds))
    where
      by_test : (test : Bool) → Gives P (cond test (Some (refuse (refusal.Thin target))) None)
      by_test false decision given = absurd (none-some decision given)
      by_test true decision given = subst P (same_Some (refuse (refusal.Thin target)) decision given) (refused _)

  waiting_for : (missing : List (ObjectId × Stamp)) → Gives P (waits_for missing)
  waiting_for [] decision given = absurd (none-some decision given)
  waiting_for (key ∷ more) decision given =
      subst P (same_Some (Waits (key ∷ more)) decision given) (waits (key ∷ more))

  evidence : (target : ObjectId) → Gives P (row_evidence state asked target)
  unfolding row_evidence
  evidence target = waiting_for (missing_of state (evidence_for state asked target))

  last_row : (decision : Decision) → P decision → P (first_given (Waits []) (Some decision ∷ []))
  unfolding first_given
  last_row decision is = is

  mend_cases : (target : ObjectId)
      → P (decision_by target (mending_on state asked target))
      → P (decide_repair state asked target)
  unfolding decide_repair
  mend_cases target mended =
      past P _ _ unknown (λ _.
      past P _ _ thin (λ _. past P _ _ (few target) (λ _. past P _ _ (evidence target) (λ _. last_row _ mended))))

-- the version is that of the base
pub version_of_base : (state : ReplicaState) (asked : Asked) (object : ObjectId) (base : Candidate)
    (version : ObjState) → method_base state asked object ≡ Some base
    → base_version state asked object ≡ Some version → version_at object base.stamp state.versions ≡ Some version
version_of_base state asked object base version is_base is_version =
    let stored : Candidate → Option ObjState = λ it. version_at object it.stamp state.versions in
    sym (ap (option_and_then stored) is_base) ∙ is_version

-- the objects to which stamps are told
pub told_objects : (stamp : ObjectId → Stamp) (objects : List ObjectId)
    → map (λ (it : ObjectId × Stamp). it.0) (with_stamps stamp objects) ≡ objects
told_objects stamp [] = refl
told_objects stamp (object ∷ later) = ap (λ (objects : List ObjectId). object ∷ objects) (told_objects stamp later)

-- ---- a query

-- a query is told from the versions of its bases
abbrev QueryTells : ReplicaState → List SetOf → List (ObjectId × Ask) → Decision → Type 0
QueryTells state sets query (Answers (verdict.Done stamps answer) accepted) = ⊥
QueryTells state sets query (Answers (verdict.Told stamps answer) accepted) =
    TellsQuery state sets query stamps answer
QueryTells state sets query (Answers (verdict.Already answer) accepted) = ⊥
QueryTells state sets query (Answers (verdict.Mended other stamp) accepted) = ⊥
QueryTells state sets query (Answers (verdict.Refused why) accepted) = Unit {0}
QueryTells state sets query (Waits missing) = Unit {0}

module _ (state : ReplicaState) (asked : Asked) where
  -- no candidate of the replica is above what the sets show of the object
  abbrev IsCurrent : ObjectId → Type 0
  IsCurrent object = is_below (latest_of (shown_of asked object)) (own_latest state object) ≡ false

  each_told : (objects : List ObjectId)
      → AreBases state asked (base_of state asked) (before_of state asked) objects
      → AreBefores state asked (base_of state asked) (before_of state asked) objects
      → AllByRecursion IsCurrent objects
      → AllZip (HasTold state asked.sets) (with_stamps (λ object. (base_of state asked object).stamp) objects)
      (values_of (map (before_of state asked) objects))
  each_told [] bases befores current = tt
  each_told (object ∷ later) bases befores current =
      let base : Candidate = base_of state asked object in
      let latest : Stamp = latest_of (shown_of asked object) in
      let is_latest : base.stamp ≡ latest =
      (is_base state.keys.bounds (shown_of asked object) base bases.0).latest in (
        record {
          base = base;
          is_told = refl;
          method = bases.0;
          version = before_of state asked object;
          of_base = version_of_base state asked object base (before_of state asked object) bases.0 befores.0;
          value_is = refl;
          nothing_above = λ held holding.
              ap (λ (stamp : Stamp). is_below stamp held.stamp) is_latest ∙
              is_below-not_chain latest (own_latest state object) held.stamp current.0
              (not_below_latest (own_candidates state object) held holding);
        },
        each_told later bases.1 befores.1 current.1,
      )

told_tells : (state : ReplicaState) (asked : Asked) (query : List (ObjectId × Ask))
    → row_current state (seen_each state asked (objects_named query)) ≡ None
    → row_method (seen_each state asked (objects_named query)) ≡ None
    → row_version state (seen_each state asked (objects_named query)) ≡ None
    → Gives (QueryTells state asked.sets query) (row_told query (seen_each state asked (objects_named query))
    (base_versions state (seen_each state asked (objects_named query))))
told_tells state asked query is_current is_method is_version decision given =
    let objects : List ObjectId = objects_named query in
    let bases : AreBases state asked (base_of state asked) (before_of state asked) objects =
    passed_method state asked objects is_method in
    let befores : AreBefores state asked (base_of state asked) (before_of state asked) objects =
    passed_version state asked objects is_version in
    subst (QueryTells state asked.sets query)
    (same_Some _ decision
    (sym (told_each state asked (base_of state asked) (before_of state asked) query bases befores) ∙ given))
    (record {
      of_parts = told_objects (λ object. (base_of state asked object).stamp) objects;
      values = values_of (map (before_of state asked) objects);
      each = each_told state asked objects bases befores (passed_current state asked objects is_current);
      answer_is = refl;
    })

query_tells : (state : ReplicaState) (asked : Asked) (query : List (ObjectId × Ask))
    → QueryTells state asked.sets query (decision_on state asked (body.Ask query))
query_tells state asked query =
    ask_cases (QueryTells state asked.sets query) (λ why. tt) (λ missing. tt) state asked (objects_named query) query
    (told_tells state asked query)

module _ (state : ReplicaState) (client : ClientId) (number : ℕ) (sets : List SetOf) (query : List (ObjectId × Ask))
    (accepted : List Accepted) where
  -- a told answer is that of the versions of bases that the replica has nothing above
  pub told_is_true : (stamps : List (ObjectId × Stamp)) (answer : Answer)
      → decision_on state (asked_of client number sets (body.Ask query)) (body.Ask query)
      ≡ Answers (verdict.Told stamps answer) accepted
      → TellsQuery state sets query stamps answer
  told_is_true stamps answer decided =
      subst (QueryTells state sets query) decided
      (query_tells state (asked_of client number sets (body.Ask query)) query)

  -- and nothing is done
  pub query_is_no_update : (given : Verdict) → IsOfUpdate given
      → decision_on state (asked_of client number sets (body.Ask query)) (body.Ask query)
      ≡ Answers given accepted → ⊥
  query_is_no_update (verdict.Done those said) of_update decided =
      subst (QueryTells state sets query) decided
      (query_tells state (asked_of client number sets (body.Ask query)) query)
  query_is_no_update (verdict.Already said) of_update decided =
      subst (QueryTells state sets query) decided
      (query_tells state (asked_of client number sets (body.Ask query)) query)
  query_is_no_update (verdict.Told those said) of_update decided = absurd of_update
  query_is_no_update (verdict.Mended other stamp) of_update decided = absurd of_update
  query_is_no_update (verdict.Refused why) of_update decided = absurd of_update

-- ---- a repair

-- no operation is answered
abbrev IsNoAnswer : Decision → Type 0
IsNoAnswer (Answers (verdict.Done stamps answer) accepted) = ⊥
IsNoAnswer (Answers (verdict.Told stamps answer) accepted) = ⊥
IsNoAnswer (Answers (verdict.Already answer) accepted) = ⊥
IsNoAnswer (Answers (verdict.Mended other stamp) accepted) = Unit {0}
IsNoAnswer (Answers (verdict.Refused why) accepted) = Unit {0}
IsNoAnswer (Waits missing) = Unit {0}

module _ (state : ReplicaState) (client : ClientId) (number : ℕ) (sets : List SetOf) (target : ObjectId)
    (accepted : List Accepted) where
  by_mending : (made : Mending) → IsNoAnswer (decision_by target made)
  by_mending (mending.Mends stamp added) = tt
  by_mending (mending.Holds stamp) = tt
  by_mending (mending.Refuses why) = tt
  by_mending (mending.Waits missing) = tt

  mend_answers_none : (given : Verdict)
      → decision_on state (asked_of client number sets (body.Mend target)) (body.Mend target)
      ≡ Answers given accepted → IsNoAnswer (Answers given accepted)
  mend_answers_none given decided =
      subst IsNoAnswer decided
      (mend_cases IsNoAnswer (λ why. tt) (λ missing. tt) state (asked_of client number sets (body.Mend target)) target
      (by_mending (mending_on state (asked_of client number sets (body.Mend target)) target)))

  -- what is told of an operation is not told of a repair
  pub mend_is_not_told : (stamps : List (ObjectId × Stamp)) (answer : Answer)
      → decision_on state (asked_of client number sets (body.Mend target)) (body.Mend target)
      ≡ Answers (verdict.Told stamps answer) accepted → ⊥
  mend_is_not_told stamps answer decided = mend_answers_none (verdict.Told stamps answer) decided

  pub mend_is_no_update : (given : Verdict) → IsOfUpdate given
      → decision_on state (asked_of client number sets (body.Mend target)) (body.Mend target)
      ≡ Answers given accepted → ⊥
  mend_is_no_update (verdict.Done those said) of_update decided =
      mend_answers_none (verdict.Done those said) decided
  mend_is_no_update (verdict.Already said) of_update decided =
      mend_answers_none (verdict.Already said) decided
  mend_is_no_update (verdict.Told those said) of_update decided = absurd of_update
  mend_is_no_update (verdict.Mended other stamp) of_update decided = absurd of_update
  mend_is_no_update (verdict.Refused why) of_update decided = absurd of_update
