-- What the setting of a run says of its worlds.
use Rattle.std.proofs.Common.{Bool, false, refl, ◌≡◌, ℕ, zero, suc, ◌<◌, true, List, [], ◌∷◌, length, arith, inl, inr, sym, ◌∙◌, ap}
use Rattle.std.specs.List.{list_any}
use Rattle.std.proofs.lemmas.Bool.{false≢true, or_cases, or_left, or_right}
use Rattle.qu_base.specs.declared.party.ObjectId.{ObjectId}
use Rattle.qu_stamp.specs.declared.candidate.Candidate.{Candidate}
use Rattle.qu_claims.specs.Count.{test_at, count}
use Rattle.qu_rows.specs.State.{ReplicaState}
use Rattle.qu_claims.specs.Accepted.{accepts, is_accepted}
use Rattle.qu_claims.specs.Setting.{IsAccepted, acceptors}
use Rattle.qu_trace.specs.declared.trace.Trace.{Trace}
use Rattle.qu_runs.proofs.Worlds.OpeningReplicas.{acceptor_is_good, all_replicas}
use Rattle.qu_chain.proofs.Counting.{count-same, count-test_at, count-some}
use Rattle.std.specs.Prelude.{count_by, ◌&&◌}
use Rattle.qu_trace.specs.Faulty.{is_good}
use Rattle.qu_claims.specs.RunSetting.{setting}
use Rattle.qu_claims.specs.Times.{world_after}
use Rattle.qu_chain.proofs.Ancestry.{Acceptor, acceptor}
use Rattle.qu_base.specs.Bounds.{replicas}

-- a replica at some place accepted the candidate
pub record AcceptedAt (object : ObjectId) (candidate : Candidate) (states : List ReplicaState) : Type 0 where
  pub place : ℕ
  pub within : place < length states
  pub accepted : test_at (accepts object candidate) states place ≡ true

-- what is accepted at a place is accepted
pub somewhere_accepted : (object : ObjectId) (candidate : Candidate) (states : List ReplicaState) (place : ℕ)
    → test_at (accepts object candidate) states place ≡ true → list_any (accepts object candidate) states ≡ true
somewhere_accepted object candidate [] place accepted = absurd (false≢true accepted)
somewhere_accepted object candidate (state ∷ later) zero accepted =
    or_left (accepts object candidate state) (list_any (accepts object candidate) later) accepted
somewhere_accepted object candidate (state ∷ later) (suc place) accepted =
    or_right (accepts object candidate state) (list_any (accepts object candidate) later)
    (somewhere_accepted object candidate later place accepted)

pub accepted_somewhere : (object : ObjectId) (candidate : Candidate) (states : List ReplicaState)
    → list_any (accepts object candidate) states ≡ true → AcceptedAt object candidate states
accepted_somewhere object candidate [] some = absurd (false≢true some)
accepted_somewhere object candidate (state ∷ later) some =
    elim (or_cases (accepts object candidate state) (list_any (accepts object candidate) later) some) [
      | inl here ↦ record { place = 0; within = omega arith; accepted = here }
      | inr there ↦
          let found : AcceptedAt object candidate later = accepted_somewhere object candidate later there in
          let below : found.place < length later = found.within in
          record { place = suc found.place; within = omega arith; accepted = found.accepted }
    ]

-- ---- what is accepted

-- where a replica accepted something it is correct
good_too : (trace : Trace) (time : ℕ) (object : ObjectId) (candidate : Candidate) (place : ℕ)
    → (is_good trace.setup place && test_at (accepts object candidate) (world_after trace time).replicas place)
    ≡ test_at (accepts object candidate) (world_after trace time).replicas place
good_too trace time object candidate place =
    both (is_good trace.setup place) (test_at (accepts object candidate) (world_after trace time).replicas place)
    (acceptor_is_good trace time place object candidate)
  where
    both : (good accepted : Bool) → (accepted ≡ true → good ≡ true) → (good && accepted) ≡ accepted
    both true accepted so = refl
    both false true so = absurd (false≢true (so refl))
    both false false so = refl

-- so that it need not be asked
pub acceptors_counted : (trace : Trace) (time : ℕ) (object : ObjectId) (candidate : Candidate)
    → acceptors (setting trace) time object candidate
    ≡ count (replicas trace.setup.bounds) (test_at (accepts object candidate) (world_after trace time).replicas)
unfolding setting
acceptors_counted trace time object candidate =
    count-same (replicas trace.setup.bounds)
    (λ place. is_good trace.setup place && test_at (accepts object candidate) (world_after trace time).replicas place)
    (test_at (accepts object candidate) (world_after trace time).replicas)
    (λ place below. good_too trace time object candidate place)

pub acceptors_are : (trace : Trace) (time : ℕ) (object : ObjectId) (candidate : Candidate)
    → acceptors (setting trace) time object candidate
    ≡ count_by (accepts object candidate) (world_after trace time).replicas
acceptors_are trace time object candidate =
    acceptors_counted trace time object candidate
    ∙ ap (λ (n : ℕ). count n (test_at (accepts object candidate) (world_after trace time).replicas))
    (sym (all_replicas trace time))
    ∙ count-test_at (accepts object candidate) (world_after trace time).replicas

pub accepted_of : (trace : Trace) (time : ℕ) (object : ObjectId) (candidate : Candidate)
    → is_accepted (world_after trace time) object candidate ≡ true → IsAccepted (setting trace) time object candidate
unfolding setting
accepted_of trace time object candidate accepted =
    let states : List ReplicaState = (world_after trace time).replicas in
    let found : AcceptedAt object candidate states = accepted_somewhere object candidate states accepted in
    let few : found.place < length states = found.within in
    let number : length states ≡ replicas trace.setup.bounds = all_replicas trace time in
    count-some (replicas trace.setup.bounds)
    (λ place. is_good trace.setup place && test_at (accepts object candidate) states place) found.place (omega arith)
    (good_too trace time object candidate found.place ∙ found.accepted)

pub is_accepted_by : (trace : Trace) (time : ℕ) (object : ObjectId) (candidate : Candidate)
    → IsAccepted (setting trace) time object candidate → is_accepted (world_after trace time) object candidate ≡ true
unfolding setting
is_accepted_by trace time object candidate accepted =
    let who : Acceptor (setting trace) time object candidate =
    acceptor (setting trace) time object candidate accepted in
    somewhere_accepted object candidate (world_after trace time).replicas who.replica who.accepted
