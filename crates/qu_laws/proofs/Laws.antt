-- What a request adds is new to its replica; whether something is accepted at a step can be told; and one replica
-- accepts then.
use Rattle.std.proofs.Common.{◌≡◌, List, Some, ap, arith, inl, inr, length, subst, suc, sym, zero, ℕ, ◌⊎◌, ◌<◌, ◌≤◌, ◌∙◌, add-one}
use Rattle.qu_accepts.proofs.Accepting.{StepAt, step_at, Acceptance}
use Rattle.qu_claims.specs.Grounds.{IsDelivered}
use Rattle.qu_runs.specs.Plain.{ArePlain}
use Rattle.qu_base.specs.Bounds.{replicas}
use Rattle.qu_stamp.specs.declared.candidate.Candidate.{Candidate}
use Rattle.qu_chain.proofs.Counting.{test_at-here}
use Rattle.qu_chain.specs.Laws.{Given}
use Rattle.qu_claims.specs.Setting.{IsNew}
use Rattle.qu_world.specs.Run.{IsRun}
use Rattle.qu_base.specs.declared.party.ObjectId.{ObjectId}
use Rattle.qu_rows.specs.State.{ReplicaState}
use Rattle.qu_trace.specs.declared.trace.Trace.{Trace}
use Rattle.qu_claims.specs.Accepted.{accepts}
use Rattle.qu_runs.proofs.Worlds.OpeningReplicas.{all_replicas}
use Rattle.std.proofs.lemmas.Bool.{cases_lt, false≢true}
use Rattle.std.specs.Prelude.{slice_get}
use Rattle.qu_history.specs.History.{holds}
use Rattle.qu_claims.specs.RunSetting.{setting}
use Rattle.std.proofs.lemmas.Option.{slice_get_cases}
use Rattle.qu_claims.specs.Times.{world_after}
use Rattle.qu_laws.proofs.ShownWhenAccepted.{acceptance_of}
use Rattle.qu_claims.specs.Handling.{Handles}
use Rattle.qu_accepts.proofs.Handling.{mid_candidates, one_handled}
use Rattle.qu_accepts.proofs.Together.{added_now}

module _ (trace : Trace) (is_run : IsRun trace) (have : ArePlain trace) where
  -- what a replica accepts is new to it
  pub new_accepted : (time : ℕ) → time < length trace.entries → (place : ℕ) (old new : ReplicaState)
      (object : ObjectId) (delivered : IsDelivered trace time place old new object)
      → IsNew (setting trace) time object place ((delivered.accepts).candidates object)
  unfolding setting
  new_accepted time within place old new object delivered =
      let handles : Handles trace time place old new = delivered.handles in
      added_now trace time place within old new handles.is_old
      (ap (λ (count : ℕ). slice_get (world_after trace count).replicas place) (sym (add-one time)) ∙ handles.is_new)
      (record {
        mid = handles.mid;
        same = mid_candidates trace time old handles.mid handles.learns;
        received = handles.carried;
        accepts = delivered.accepts;
      }) object delivered.adds

  -- ---- who accepts at a step

  moves_here : (time : ℕ) → time < length trace.entries → (object : ObjectId) (place : ℕ) → place < (setting trace).n
      → Given (setting trace) time object
      ⊎ ((candidate : Candidate) → IsNew (setting trace) time object place candidate → ⊥)
  unfolding setting
  moves_here time within object place among = elim ((slice_get_cases (world_after trace (suc time)).replicas place).1) [
    | inr past ↦ absurd
        (let all : length (world_after trace (suc time)).replicas ≡ replicas trace.setup.bounds = all_replicas
        trace (suc time) in let beyond = past.0 in omega (arith, all, beyond))
    | inl found ↦
        let new : ReplicaState = found.0 in
        let is_new : slice_get (world_after trace (suc time)).replicas place ≡ Some new = found.2 in
        let step : StepAt trace time place new object = step_at trace is_run have time within place new is_new object in
        let olds : List ReplicaState = (world_after trace time).replicas in
        elim (step.adds) [
          | inl same ↦
              inr (λ candidate it.
              false≢true (sym it.before
              ∙ test_at-here (accepts object candidate) olds place step.old step.is_old
              ∙ ap (holds candidate) (sym same)
              ∙ sym (test_at-here (accepts object candidate) (world_after trace (suc time)).replicas place new is_new)
              ∙ it.after))
          | inr delivered ↦
              inl (record {
                replica = place;
                candidate = (delivered.accepts).candidates object;
                new = new_accepted time within place step.old new object delivered;
              })
        ]
  ]

  moves_among : (time : ℕ) → time < length trace.entries → (object : ObjectId) (many : ℕ) → many ≤ (setting trace).n
      → Given (setting trace) time object
      ⊎ ((place : ℕ) (candidate : Candidate) → place < many → IsNew (setting trace) time object place candidate → ⊥)
  moves_among time within object zero few = inr (λ place candidate below new. absurd (omega arith))
  moves_among time within object (suc many) few =
      elim (moves_among time within object many (omega arith)) [
        | inl given ↦ inl given
        | inr none ↦ elim (moves_here time within object many (omega arith)) [
          | inl given ↦ inl given
          | inr not_here ↦
              inr (λ place candidate below new. elim (cases_lt place many) [
                | inl earlier ↦ none place candidate earlier new
                | inr not_earlier ↦
                    let here : place ≡ many = omega arith in
                    not_here candidate (subst (λ (at : ℕ). IsNew (setting trace) time object at candidate) here new)
              ])
        ]
      ]

  pub moves : (time : ℕ) (object : ObjectId) → time < (setting trace).last
      → Given (setting trace) time object
      ⊎ ((place : ℕ) (candidate : Candidate) → IsNew (setting trace) time object place candidate → ⊥)
  unfolding setting
  moves time object within =
      elim (moves_among time within object (replicas trace.setup.bounds) (omega arith)) [
        | inl given ↦ inl given
        | inr none ↦ inr (λ place candidate new. none place candidate new.within new)
      ]

  -- ---- one event

  -- what is accepted at one event one replica accepts
  pub one_place : (time : ℕ) (object other : ObjectId) (place elsewhere : ℕ) (first second : Candidate)
      → IsNew (setting trace) time object place first → IsNew (setting trace) time other elsewhere second
      → place ≡ elsewhere
  unfolding setting
  one_place time object other place elsewhere first second new again =
      let one : Acceptance trace time object place first =
      acceptance_of trace is_run have time object place first new in
      let two : Acceptance trace time other elsewhere second =
      acceptance_of trace is_run have time other elsewhere second again in
      (one_handled trace time place elsewhere one.old one.new two.old two.new (one.delivered).handles
      (two.delivered).handles).0
