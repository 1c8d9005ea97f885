-- The steps of a run at which replicas accept candidates.
use Rattle.std.proofs.Common.{◌+◌, ◌≡◌, ℕ, suc, ◌<◌, true, false, [], ◌∷◌, ◌++◌, length, get_or, None, Some, sym, ap, ◌∙◌, inl, inr, ◌⊎◌, add-one, List}
use Rattle.std.specs.Prelude.{◌||◌, slice_get}
use Rattle.std.proofs.lemmas.Bool.{false≢true, or_cases}
use Rattle.std.proofs.lemmas.List.Folds.{list_any-append}
use Rattle.qu_base.specs.declared.party.ObjectId.{ObjectId}
use Rattle.qu_stamp.specs.declared.candidate.Candidate.{Candidate}
use Rattle.qu_stamp.specs.Candidate.{opening, same}
use Rattle.qu_stamp.proofs.Order.{equal_by_same}
use Rattle.qu_history.specs.History.{holds}
use Rattle.qu_claims.specs.Count.{test_at}
use Rattle.qu_chain.proofs.Counting.{Found, found_at, test_at-here}
use Rattle.qu_rows.specs.State.{ReplicaState, own_candidates}
use Rattle.qu_trace.specs.declared.event.Event.{Event}
use Rattle.qu_trace.specs.declared.event.Event.TheVariants.{Tick}
use Rattle.qu_trace.specs.declared.trace.Entry.{Entry}
use Rattle.qu_trace.specs.declared.trace.Trace.{Trace}
use Rattle.qu_world.specs.Run.{IsRun}
use Rattle.qu_world.specs.State.{WorldState}
use Rattle.qu_world.specs.Step.{world_step}
use Rattle.qu_claims.specs.Accepted.{accepts}
use Rattle.qu_claims.specs.Times.{world_after}
use Rattle.qu_runs.specs.Plain.{ArePlain}
use Rattle.qu_claims.specs.Grounds.{IsDelivered}
use Rattle.qu_runs.proofs.Worlds.Befores.{WasBefore, was_before}
use Rattle.qu_accepts.proofs.Happenings.{accepts_at}
use Rattle.qu_accepts.proofs.Handling.{mid_candidates}
use Rattle.qu_runs.proofs.Worlds.WorldGrowth.{world_after-next}
use Rattle.qu_runs.proofs.Worlds.OpeningReplicas.{opening_holds}

-- ---- at the beginning

-- at first a replica has accepted the opening candidates alone
pub opening_alone : (trace : Trace) (place : ℕ) (state : ReplicaState) (object : ObjectId) (candidate : Candidate)
    → slice_get (world_after trace 0).replicas place ≡ Some state → accepts object candidate state ≡ true
    → candidate ≡ opening
opening_alone trace place state object candidate found holding =
    opening_holds trace place state found object candidate holding

-- ---- a step

-- in the place of an entry where there is none
pub some_entry : Entry
some_entry = record { event = Tick (record { 0 = 0 }); letters = []; ended = None }

-- what an event adds to a replica
pub record StepAt (trace : Trace) (at place : ℕ) (new : ReplicaState) (object : ObjectId) : Type 0 where
  pub old : ReplicaState
  pub is_old : slice_get (world_after trace at).replicas place ≡ Some old
  pub adds : (own_candidates new object ≡ own_candidates old object) ⊎ IsDelivered trace at place old new object

pub step_at : (trace : Trace) → IsRun trace → ArePlain trace → (at : ℕ) → at < length trace.entries
    → (place : ℕ) (new : ReplicaState) → slice_get (world_after trace (suc at)).replicas place ≡ Some new
    → (object : ObjectId) → StepAt trace at place new object
step_at trace is_run have at within place new is_new object =
    let event : Event = (get_or trace.entries at some_entry).event in
    let is_next : slice_get (world_after trace (at + 1)).replicas place ≡ Some new =
    ap (λ (count : ℕ). slice_get (world_after trace count).replicas place) (add-one at) ∙ is_new in
    let found : slice_get (world_step (world_after trace at) event).replicas place ≡ Some new =
    ap (λ (world : WorldState). slice_get world.replicas place) (sym (world_after-next trace at some_entry within))
    ∙ is_next in
    let before : WasBefore (world_after trace at).replicas place new =
    was_before (world_after trace at) event place new found in
    record {
      old = before.old;
      is_old = before.is_old;
      adds = accepts_at trace is_run have at within place before.old new before.is_old is_next object;
    }

-- what is held now and was not before is what was added
pub added_is : (old new : ReplicaState) (object : ObjectId) (added candidate : Candidate)
    → own_candidates new object ≡ own_candidates old object ++ added ∷ [] → accepts object candidate new ≡ true
    → accepts object candidate old ≡ false → added ≡ candidate
added_is old new object added candidate more after before =
    let whole : (holds candidate (own_candidates old object) || holds candidate (added ∷ [])) ≡ true =
    sym (list_any-append _ (own_candidates old object) (added ∷ [])) ∙ ap (holds candidate) (sym more) ∙ after in
    elim (or_cases (holds candidate (own_candidates old object)) (holds candidate (added ∷ [])) whole) [
      | inl held ↦ absurd (false≢true (sym before ∙ held))
      | inr here ↦ elim (or_cases (same added candidate) false here) [
        | inl is ↦ equal_by_same added candidate is
        | inr never ↦ absurd (false≢true never)
      ]
    ]

-- the step at which a replica accepts the candidate
pub record Acceptance (trace : Trace) (at : ℕ) (object : ObjectId) (place : ℕ) (candidate : Candidate) : Type 0 where
  pub old : ReplicaState
  pub new : ReplicaState
  pub is_new : slice_get (world_after trace (suc at)).replicas place ≡ Some new
  pub delivered : IsDelivered trace at place old new object
  pub candidate_is : (delivered.accepts).candidates object ≡ candidate

-- it adds this candidate to what the replica had
pub delivered_adds : (trace : Trace) (at place : ℕ) (old new : ReplicaState) (object : ObjectId)
    (delivered : IsDelivered trace at place old new object)
    → own_candidates new object ≡ own_candidates old object ++ (delivered.accepts).candidates object ∷ []
delivered_adds trace at place old new object delivered =
    (delivered.accepts).added object delivered.adds
    ∙ ap (λ (held : List Candidate). held ++ (delivered.accepts).candidates object ∷ [])
    (mid_candidates trace at old (delivered.handles).mid (delivered.handles).learns object)

pub acceptance : (trace : Trace) → IsRun trace → ArePlain trace → (at : ℕ) → at < length trace.entries
    → (object : ObjectId) (place : ℕ) (candidate : Candidate)
    → test_at (accepts object candidate) (world_after trace (suc at)).replicas place ≡ true
    → test_at (accepts object candidate) (world_after trace at).replicas place ≡ false
    → Acceptance trace at object place candidate
acceptance trace is_run have at within object place candidate after before =
    let found : Found (accepts object candidate) (world_after trace (suc at)).replicas place =
    found_at (accepts object candidate) (world_after trace (suc at)).replicas place after in
    let step : StepAt trace at place found.item object =
    step_at trace is_run have at within place found.item found.is_at object in
    let not_before : accepts object candidate step.old ≡ false =
    sym (test_at-here (accepts object candidate) (world_after trace at).replicas place step.old step.is_old)
    ∙ before in
    elim (step.adds) [
      | inl same ↦ absurd (false≢true (sym not_before ∙ ap (holds candidate) (sym same) ∙ found.passed))
      | inr delivered ↦ record {
        old = step.old;
        new = found.item;
        is_new = found.is_at;
        delivered = delivered;
        candidate_is = added_is step.old found.item object ((delivered.accepts).candidates object) candidate
            (delivered_adds trace at place step.old found.item object delivered) found.passed not_before;
      }
    ]
