-- What a verdict says is true of the replica that gives it.
use Rattle.std.proofs.Common.{◌≡◌, ℕ, List, [], ◌∷◌, ◌++◌, map, Option, None, Some, IsTrue, refl, sym, subst, ap, ◌∙◌, inl, inr}
use Rattle.std.specs.Option.{option_or}
use Rattle.std.specs.List.{AllByRecursion}
use Rattle.std.proofs.lemmas.List.Elements.{All-from_recursion}
use Rattle.std.proofs.lemmas.Option.{none-some, same_Some}
use Rattle.qu_base.specs.declared.party.ClientId.{ClientId}
use Rattle.qu_base.specs.declared.party.Digest.{Digest}
use Rattle.qu_base.specs.declared.party.ObjectId.{ObjectId}
use Rattle.qu_stamp.specs.declared.stamp.Stamp.{Stamp}
use Rattle.qu_stamp.specs.declared.candidate.Candidate.{Candidate}
use Rattle.qu_history.specs.declared.sets.SetOf.{SetOf}
use Rattle.qu_history.specs.History.{holds}
use Rattle.qu_history.proofs.Rising.{holds_pushed}
use Rattle.qu_objects.specs.declared.act.Method.{Method}
use Rattle.qu_objects.specs.declared.answer.Answer.{Answer}
use Rattle.qu_objects.specs.declared.state.KeptRow.{KeptRow}
use Rattle.qu_objects.specs.declared.state.ObjState.{ObjState}
use Rattle.qu_objects.specs.Digesting.{act_digest}
use Rattle.qu_objects.specs.Parts.{are_parts}
use Rattle.qu_objects.specs.Performing.{performed_answer}
use Rattle.qu_kept.specs.declared.repeats.Standing.{Standing}
use Rattle.qu_kept.specs.declared.repeats.Standing.TheVariants.{Fresh, Already, Spent}
use Rattle.qu_kept.specs.Performing.{values_of, row_by}
use Rattle.qu_kept.specs.Rows.{client_of}
use Rattle.qu_kept.specs.Standing.{standing_of}
use Rattle.qu_kept.proofs.EachObject.{objects_named, distinct_parts, values_are-before, values_before}
use Rattle.qu_kept.proofs.KeyedLaws.{own_item, all_both}
use Rattle.qu_frames.specs.declared.frame.Body.TheVariants as body
use Rattle.qu_verdicts.specs.declared.verdict.Verdict.{Verdict}
use Rattle.qu_verdicts.specs.declared.verdict.Verdict.TheVariants as verdict
use Rattle.qu_versions.specs.declared.stored.Stored.{Stored}
use Rattle.qu_versions.specs.Versions.{version_at}
use Rattle.qu_versions.proofs.Lookup.{version_at-append, append_grows}
use Rattle.qu_mends.specs.declared.accepted.Accepted.{Accepted}
use Rattle.qu_mends.specs.declared.seen.Seen.{Seen}
use Rattle.qu_rows.specs.declared.decision.Decision.{Decision}
use Rattle.qu_rows.specs.declared.decision.Decision.TheVariants.{Answers, Waits}
use Rattle.qu_rows.specs.Allowed.{MayAcceptAll, MayDecide}
use Rattle.qu_rows.specs.State.{ReplicaState, own_candidates}
use Rattle.qu_rows.specs.Rows.{asked_of, Asked, seen_each, method_base, base_version, base_versions, fresh_stamp, standing_in, repeated, row_unknown, row_current, row_method, row_version, row_kept, row_done, decide_act, decision_on}
use Rattle.qu_mends.specs.Table.{first_given}
use Rattle.qu_rows.proofs.Allowed.{decision_on-may}
use Rattle.qu_fitting.specs.Holding.{accept_all}
use Rattle.qu_fitting.proofs.AcceptingAll.{accept_all-is}
use Rattle.qu_fitting.proofs.CarriedEach.{with_stamps, accepted_each, AreBases, AreBefores, done_each, versions_each}
use Rattle.qu_fitting.proofs.PassedRows.{base_of, before_of, passed_method, passed_version}
use Rattle.qu_claims.specs.Grounds.{stored_of}
use Rattle.qu_claims.specs.Parts.{Names}
use Rattle.qu_grounds.proofs.ActAcceptance.{MakesAll, makes_all, fresh, afters, stored_each, added_to}
use Rattle.qu_grounds.proofs.Performed.{named_stored}
use Rattle.qu_replies.specs.Replies.{Keeps, HasDone, TellsDone, HasKept, TellsAlready, IsOfUpdate}
use Rattle.qu_replies.proofs.EachOf.{each_of_made, first_of_made, first_also, all_first, all_named}
use Rattle.qu_replies.proofs.KeptActs.{kept_where}
use Rattle.qu_replies.proofs.Retries.{AddsWhatIsFound, HasVersions, ActTells, told_done, many, stands_so, retry_tells}
use Rattle.qu_replies.proofs.QueryReplies.{Gives, unknown, act_cases, version_of_base}

-- ---- an act that was performed before

module _ (state : ReplicaState) (asked : Asked) (parts : List (ObjectId × Method)) (in_order : IsTrue (are_parts parts))
    (act : Digest) (is_act : asked.act ≡ Some act) where
  abbrev objects : List ObjectId
  objects = objects_named parts

  abbrev seen : List Seen
  seen = seen_each state asked objects

  module _ (is_method : row_method seen ≡ None) (is_version : row_version state seen ≡ None) where
    bases : AreBases state asked (base_of state asked) (before_of state asked) objects
    bases = passed_method state asked objects is_method

    befores : AreBefores state asked (base_of state asked) (before_of state asked) objects
    befores = passed_version state asked objects is_version

    abbrev IsBased : ObjectId → Type 0
    IsBased object = (method_base state asked object ≡ Some (base_of state asked object))
        × (base_version state asked object ≡ Some (before_of state asked object))

    based : AllByRecursion IsBased objects
    based = all_both (λ object. method_base state asked object ≡ Some (base_of state asked object))
        (λ object. base_version state asked object ≡ Some (before_of state asked object)) IsBased
        (λ object base version. (base, version)) objects bases befores

    kept_on : (object : ObjectId) (kept : Answer) → IsBased object
        → Keeps asked.client asked.number act kept (before_of state asked object)
        → HasKept state asked.client asked.number act asked.sets kept object
    kept_on object kept is keeps = record {
      base = base_of state asked object;
      method = is.0;
      version = before_of state asked object;
      of_base = version_of_base state asked object (base_of state asked object) (before_of state asked object) is.0
          is.1;
      keeps = keeps;
    }

    told_already : (answer : Answer)
        → standing_of asked.client asked.number act parts (map (before_of state asked) objects) ≡ Already answer
        → TellsAlready state asked.client asked.number act asked.sets parts answer
    told_already answer stands =
        let keeps = kept_where asked.client asked.number act parts (map (before_of state asked) objects) answer
        in_order (many state asked parts in_order act is_act (before_of state asked)) stands in
        let Keeps-some : ObjState → Type 0 =
        λ version. (kept : Answer) × Keeps asked.client asked.number act kept version in
        let Kept : ObjectId → Type 0 =
        λ object. (kept : Answer) × HasKept state asked.client asked.number act asked.sets kept object in
        let object_of : ObjectId × Method → ObjectId = λ part. part.0 in
        record {
          each = All-from_recursion (λ (part : ObjectId × Method). Kept part.0) parts
              (each_of_made object_of Kept parts
              (all_both IsBased (λ object. Keeps-some (before_of state asked object)) Kept
              (λ object is kept. (kept.0, kept_on object kept.0 is kept.1)) objects based
              (each_of_made (before_of state asked) Keeps-some objects keeps.0)));
          first = first_of_made object_of (HasKept state asked.client asked.number act asked.sets answer) parts
              (first_also IsBased
              (λ object. Keeps asked.client asked.number act answer (before_of state asked object))
              (HasKept state asked.client asked.number act asked.sets answer) objects
              (λ object is kept. kept_on object answer is kept) based
              (first_of_made (before_of state asked) (Keeps asked.client asked.number act answer) objects keeps.1));
        }

    repeated_tells : (standing : Standing)
        → standing_of asked.client asked.number act parts (map (before_of state asked) objects) ≡ standing
        → Gives (ActTells state asked act parts) (repeated standing)
    repeated_tells Fresh stands decision given = absurd (none-some decision given)
    repeated_tells (Spent on number) stands decision given =
        subst (ActTells state asked act parts) (same_Some _ decision given) tt
    repeated_tells (Already answer) stands decision given =
        subst (ActTells state asked act parts) (same_Some _ decision given) (told_already answer stands)

    already_tells : Gives (ActTells state asked act parts) (row_kept asked parts (base_versions state seen))
    unfolding row_kept
    already_tells decision given =
        repeated_tells (standing_of asked.client asked.number act parts (map (before_of state asked) objects)) refl
        decision
        (sym (ap (λ (versions : List ObjState). repeated (standing_in asked parts versions))
        (versions_each state asked (base_of state asked) (before_of state asked) objects befores)
        ∙ ap repeated (stands_so state asked parts in_order act is_act (map (before_of state asked) objects)))
        ∙ given)

-- ---- an act that is performed

-- what all stored versions of parts are, that of a named object is
stored_has : (candidates : ObjectId → Candidate) (versions : ObjectId → ObjState) (P : Stored → Type 0)
    (parts : List (ObjectId × Method)) → AllByRecursion P (stored_of candidates versions parts) → (object : ObjectId)
    → Names parts object → P (record {
      object = object;
      stamp = (candidates object).stamp;
      state = versions object;
    })
stored_has candidates versions P [] all object names = absurd names
stored_has candidates versions P (part ∷ later) all object (inl same) =
    subst (λ (it : ObjectId). P (record { object = it; stamp = (candidates it).stamp; state = versions it })) same all.0
stored_has candidates versions P (part ∷ later) all object (inr names) =
    stored_has candidates versions P later all.1 object names

module _ (state : ReplicaState) (asked : Asked) (parts : List (ObjectId × Method)) (in_order : IsTrue (are_parts parts))
    (is_act : asked.act ≡ Some (act_digest asked.client asked.number parts))
    (made : MakesAll state asked parts (accepted_each (fresh state asked parts) (afters state asked parts)
    (objects_named parts))) where
  abbrev act : Digest
  act = act_digest asked.client asked.number parts

  abbrev candidates : ObjectId → Candidate
  candidates = fresh state asked parts

  abbrev versions : ObjectId → ObjState
  versions = afters state asked parts

  abbrev accepted : List Accepted
  accepted = accepted_each (fresh state asked parts) (afters state asked parts) (objects_named parts)

  abbrev new : ReplicaState
  new = accept_all state accepted

  abbrev answer : Answer
  answer = performed_answer parts (values_of (map (before_of state asked) (objects_named parts)))

  new_versions : new.versions ≡ state.versions ++ stored_of candidates versions parts
  new_versions =
      ap (λ (it : ReplicaState). it.versions) (accept_all-is state accepted)
      ∙ ap (λ (it : List Stored). state.versions ++ it) (stored_each candidates versions parts)

  -- each version that is stored is found, unless another one was there before
  found_after : AddsWhatIsFound state accepted → (object : ObjectId) → Names parts object → (found : Option ObjState)
      → version_at object (candidates object).stamp state.versions ≡ found
      → version_at object (candidates object).stamp new.versions ≡ Some (versions object)
  found_after adds object names None none =
      ap (version_at object (candidates object).stamp) new_versions
      ∙ version_at-append object (candidates object).stamp state.versions (stored_of candidates versions parts)
      ∙ ap (λ (it : Option ObjState). option_or it
      (version_at object (candidates object).stamp (stored_of candidates versions parts))) none
      ∙ named_stored candidates versions parts object names
  found_after adds object names (Some before) is =
      append_grows state.versions (stored_of candidates versions parts) new.versions new_versions object
      (candidates object).stamp before is
      ∙ ap (λ (it : ObjState). Some it)
      (stored_has candidates versions (λ (it : Stored). (one : ObjState)
      → version_at it.object it.stamp state.versions ≡ Some one → one ≡ it.state) parts
      (subst (AllByRecursion (λ (it : Stored). (one : ObjState)
      → version_at it.object it.stamp state.versions ≡ Some one → one ≡ it.state))
      (stored_each candidates versions parts) adds) object names before is)

  -- the answer that is told is that which each version keeps
  answer_is : performed_answer parts (values_before asked.client asked.number parts (fresh_stamp asked)
      (before_of state asked)) ≡ answer
  answer_is = ap (performed_answer parts) (sym (values_are-before asked.client asked.number parts (fresh_stamp asked)
      (before_of state asked) parts))

  kept_after : (object : ObjectId) → Keeps asked.client asked.number act answer (versions object)
  kept_after object =
      let row : KeptRow = row_by asked.client asked.number parts
      (values_before asked.client asked.number parts (fresh_stamp asked) (before_of state asked)) in
      subst (λ (it : Answer). Keeps asked.client asked.number act it (versions object)) answer_is
      (own_item client_of row (before_of state asked object).kept)

  done_after : MayAcceptAll state accepted → AddsWhatIsFound state accepted → (object : ObjectId) → Names parts object
      → HasDone new asked.client asked.number act answer (object, fresh_stamp asked object)
  done_after may adds object names = record {
    candidate = candidates object;
    is_told = refl;
    held = ap (holds (candidates object))
        (added_to state new asked parts accepted made (record {
          me = refl;
          keys = refl;
          histories = refl;
          versions = refl;
        }) in_order may object names) ∙ holds_pushed (candidates object) (own_candidates state object);
    of_client = refl;
    of_act = is_act;
    version = versions object;
    of_candidate = found_after adds object names (version_at object (candidates object).stamp state.versions) refl;
    keeps = kept_after object;
  }

  performed_tells : MayAcceptAll state accepted → AddsWhatIsFound state accepted
      → TellsDone new asked.client asked.number act parts (with_stamps (fresh_stamp asked) (objects_named parts)) answer
  performed_tells may adds =
      let HasIt : ObjectId → Type 0 =
      λ object. HasDone new asked.client asked.number act answer (object, fresh_stamp asked object) in
      told_done new asked.client asked.number act parts (fresh_stamp asked) answer
      (all_named (λ object. (kept : Answer)
      × HasDone new asked.client asked.number act kept (object, fresh_stamp asked object)) parts
      (λ object names. (answer, done_after may adds object names)))
      (all_first HasIt parts in_order (all_named HasIt parts (done_after may adds)))

done_tells : (state : ReplicaState) (asked : Asked) (parts : List (ObjectId × Method))
    → IsTrue (are_parts parts) → asked.act ≡ Some (act_digest asked.client asked.number parts)
    → row_current state (seen_each state asked (objects_named parts)) ≡ None
    → row_method (seen_each state asked (objects_named parts)) ≡ None
    → row_version state (seen_each state asked (objects_named parts)) ≡ None
    → row_kept asked parts (base_versions state (seen_each state asked (objects_named parts))) ≡ None
    → Gives (ActTells state asked (act_digest asked.client asked.number parts) parts)
    (row_done asked parts (seen_each state asked (objects_named parts))
    (base_versions state (seen_each state asked (objects_named parts))))
done_tells state asked parts in_order is_act is_current is_method is_version is_new decision given =
    let act : Digest = act_digest asked.client asked.number parts in
    let made : MakesAll state asked parts (accepted_each (fresh state asked parts) (afters state asked parts)
    (objects_named parts)) =
    makes_all state asked parts act is_act in_order is_current is_method is_version is_new in
    subst (ActTells state asked act parts)
    (same_Some _ decision
    (sym (done_each state asked (base_of state asked) (before_of state asked) parts (distinct_parts parts in_order)
    made.are_bases made.are_befores) ∙ given))
    (λ has may adds. performed_tells state asked parts in_order is_act made may adds)

act_tells : (state : ReplicaState) (asked : Asked) (parts : List (ObjectId × Method)) → IsTrue (are_parts parts)
    → asked.act ≡ Some (act_digest asked.client asked.number parts)
    → ActTells state asked (act_digest asked.client asked.number parts) parts
    (decision_on state asked (body.Act parts))
act_tells state asked parts in_order is_act =
    let act : Digest = act_digest asked.client asked.number parts in
    act_cases (ActTells state asked act parts) (λ why. tt) (λ missing. tt) state asked (objects_named parts) parts
    (retry_tells state asked parts in_order act is_act)
    (already_tells state asked parts in_order act is_act)
    (done_tells state asked parts in_order is_act)

-- what is no refusal
abbrev IsRefusing : Decision → Type 0
IsRefusing (Answers (verdict.Done stamps answer) accepted) = ⊥
IsRefusing (Answers (verdict.Told stamps answer) accepted) = ⊥
IsRefusing (Answers (verdict.Already answer) accepted) = ⊥
IsRefusing (Answers (verdict.Mended object stamp) accepted) = ⊥
IsRefusing (Answers (verdict.Refused why) accepted) = Unit {0}
IsRefusing (Waits missing) = Unit {0}

passed_first : (one : Option Decision) (later : List (Option Decision)) (decision : Decision)
    → (IsRefusing decision → ⊥) → Gives IsRefusing one → first_given (Waits []) (one ∷ later) ≡ decision → one ≡ None
unfolding first_given
passed_first None later decision none refuses given = refl
passed_first (Some other) later decision none refuses given =
    absurd (none (subst IsRefusing given (refuses other refl)))

update_refuses_none : (given : Verdict) (accepted : List Accepted) → IsOfUpdate given
    → IsRefusing (Answers given accepted) → ⊥
update_refuses_none (verdict.Done stamps answer) accepted of_update refuses = refuses
update_refuses_none (verdict.Already answer) accepted of_update refuses = refuses
update_refuses_none (verdict.Told stamps answer) accepted of_update refuses = of_update
update_refuses_none (verdict.Mended object stamp) accepted of_update refuses = of_update
update_refuses_none (verdict.Refused why) accepted of_update refuses = of_update

-- no object of an act that is done, now or before, is unknown
pub update_is_known : (state : ReplicaState) (asked : Asked) (parts : List (ObjectId × Method))
    (objects : List ObjectId) (given : Verdict) (accepted : List Accepted) → IsOfUpdate given
    → decide_act state asked parts objects ≡ Answers given accepted → row_unknown state asked ≡ None
unfolding decide_act
update_is_known state asked parts objects given accepted of_update decided =
    passed_first (row_unknown state asked) _ (Answers given accepted)
    (update_refuses_none given accepted of_update) (unknown IsRefusing (λ why. tt) (λ missing. tt) state asked) decided

module _ (state : ReplicaState) (client : ClientId) (number : ℕ) (sets : List SetOf)
    (parts : List (ObjectId × Method)) (in_order : IsTrue (are_parts parts)) (accepted : List Accepted)
    (answer : Answer) where
  abbrev it_asks : Asked
  it_asks = asked_of client number sets (body.Act parts)

  tells : ActTells state it_asks (act_digest client number parts) parts (decision_on state it_asks (body.Act parts))
  tells = act_tells state it_asks parts in_order refl

  -- where Done is told, the replica has the candidates afterwards, and the answer is that which a version keeps
  pub done_is_true : HasVersions state → AddsWhatIsFound state accepted → (stamps : List (ObjectId × Stamp))
      → decision_on state it_asks (body.Act parts) ≡ Answers (verdict.Done stamps answer) accepted
      → TellsDone (accept_all state accepted) client number (act_digest client number parts) parts stamps answer
  done_is_true has adds stamps decided =
      subst (ActTells state it_asks (act_digest client number parts) parts) decided tells has
      (subst (MayDecide state) decided (decision_on-may state it_asks (body.Act parts) in_order)) adds

  -- where Already is told, the versions of the bases keep the act, the first one with its answer
  pub already_is_true : decision_on state it_asks (body.Act parts) ≡ Answers (verdict.Already answer) accepted
      → TellsAlready state client number (act_digest client number parts) sets parts answer
  already_is_true decided = subst (ActTells state it_asks (act_digest client number parts) parts) decided tells

  pub act_is_not_told : (stamps : List (ObjectId × Stamp))
      → decision_on state it_asks (body.Act parts) ≡ Answers (verdict.Told stamps answer) accepted → ⊥
  act_is_not_told stamps decided =
      subst (ActTells state it_asks (act_digest client number parts) parts) decided tells
