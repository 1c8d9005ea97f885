-- What a replica of a run holds, or with the faulty ones a quorum accepted, is accepted in the setting of the run.
use Rattle.std.proofs.Common.{◌≡◌, ℕ, ◌<◌, ◌≤◌, true, length, Some, ◌∙◌, arith, ◌+◌}
use Rattle.std.specs.Prelude.{slice_get}
use Rattle.std.proofs.lemmas.Option.{slice_get_within}
use Rattle.qu_base.specs.declared.party.ObjectId.{ObjectId}
use Rattle.qu_base.specs.Bounds.{replicas, quorum}
use Rattle.qu_stamp.specs.declared.candidate.Candidate.{Candidate}
use Rattle.qu_history.specs.History.{holds}
use Rattle.qu_chain.specs.Laws.{Laws}
use Rattle.qu_chain.proofs.Ancestry.{accepted_by, some-later, accepted_by_attested, attested_by_established}
use Rattle.qu_chain.proofs.Counting.{test_at-here}
use Rattle.qu_rows.specs.State.{ReplicaState, own_candidates}
use Rattle.qu_trace.specs.declared.trace.Trace.{Trace}
use Rattle.qu_claims.specs.Accepted.{accepts}
use Rattle.qu_claims.specs.RunSetting.{setting}
use Rattle.qu_claims.specs.Times.{world_after}
use Rattle.qu_runs.proofs.Worlds.OpeningReplicas.{acceptor_is_good, all_replicas}
use Rattle.qu_claims.specs.Updates.{IsEverAccepted}
use Rattle.qu_claims.specs.Setting.{acceptors, IsAccepted}

-- what a replica of this place accepted is accepted at that time
pub place_accepted : (trace : Trace) (time place : ℕ) → place < replicas trace.setup.bounds → (object : ObjectId)
    (candidate : Candidate) → (setting trace).accepted time object place candidate ≡ true
    → IsAccepted (setting trace) time object candidate
unfolding setting
place_accepted trace time place below object candidate accepted =
    accepted_by (setting trace) time object candidate
    (record {
      replica = place;
      within = below;
      good = acceptor_is_good trace time place object candidate accepted;
      accepted = accepted;
    })

-- what a replica of a run holds is accepted at that time
pub held_accepted : (trace : Trace) (time place : ℕ) (state : ReplicaState)
    → slice_get (world_after trace time).replicas place ≡ Some state
    → (object : ObjectId) (candidate : Candidate) → holds candidate (own_candidates state object) ≡ true
    → IsAccepted (setting trace) time object candidate
unfolding setting
held_accepted trace time place state is_state object candidate held =
    let below : place < length (world_after trace time).replicas =
    slice_get_within (world_after trace time).replicas place state is_state in
    let all : length (world_after trace time).replicas ≡ replicas trace.setup.bounds = all_replicas trace time in
    place_accepted trace time place (omega (arith, below, all)) object candidate
    (test_at-here (accepts object candidate) (world_after trace time).replicas place state is_state ∙ held)

module _ (trace : Trace) (laws : Laws (setting trace)) (time : ℕ) (within : time ≤ length trace.entries) where
  pub once_accepted : (object : ObjectId) (candidate : Candidate) → IsAccepted (setting trace) time object candidate
      → IsEverAccepted trace object candidate
  unfolding setting
  once_accepted object candidate accepted =
      some-later (setting trace) laws.lasting time (length trace.entries) within object candidate accepted

  pub place_ever : (place : ℕ) → place < replicas trace.setup.bounds → (object : ObjectId) (candidate : Candidate)
      → (setting trace).accepted time object place candidate ≡ true → IsEverAccepted trace object candidate
  place_ever place below object candidate accepted =
      once_accepted object candidate (place_accepted trace time place below object candidate accepted)

  pub held_ever : (place : ℕ) (state : ReplicaState) → slice_get (world_after trace time).replicas place ≡ Some state
      → (object : ObjectId) (candidate : Candidate) → holds candidate (own_candidates state object) ≡ true
      → IsEverAccepted trace object candidate
  held_ever place state is_state object candidate held =
      once_accepted object candidate (held_accepted trace time place state is_state object candidate held)

  pub quorum_ever : (object : ObjectId) (candidate : Candidate)
      → quorum trace.setup.bounds ≤ acceptors (setting trace) time object candidate + (setting trace).faults
      → IsEverAccepted trace object candidate
  unfolding setting
  quorum_ever object candidate enough =
      let few : (setting trace).faults ≤ trace.setup.bounds = laws.lasting.sizes.borne in
      some-later (setting trace) laws.lasting time (length trace.entries) within object candidate
      (accepted_by_attested (setting trace) laws.lasting time object candidate
      (attested_by_established (setting trace) laws.lasting time object candidate (omega (arith, few, enough))))
