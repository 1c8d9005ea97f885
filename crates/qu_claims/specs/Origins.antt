-- Where a candidate that a replica holds came from, whoever showed it since.
use Rattle.std.specs.Prelude.{◌≡◌, ℕ, ◌<◌}
use Rattle.qu_base.specs.declared.party.ObjectId.{ObjectId}
use Rattle.qu_stamp.specs.declared.candidate.Candidate.{Candidate}
use Rattle.qu_rows.specs.State.{ReplicaState}
use Rattle.qu_trace.specs.declared.trace.Trace.{Trace}
use Rattle.qu_rows.specs.Rows.{asked_of, linking_of}
use Rattle.qu_claims.specs.Grounds.{IsMadeFrom, IsDelivered}

-- among the first events of the run is one at which a replica made the candidate, and was not shown it. What its
-- versions told then decided a copy.
pub record Origin (trace : Trace) (count : ℕ) (object : ObjectId) (candidate : Candidate) : Type 0 where
  pub past : ℕ
  pub earlier : past < count
  pub place : ℕ
  pub old : ReplicaState
  pub new : ReplicaState
  pub delivered : IsDelivered trace past place old new object
  pub is_candidate : (delivered.accepts).candidates object ≡ candidate
  pub made : IsMadeFrom trace.setup.bounds (linking_of ((delivered.handles).mid))
      (asked_of (delivered.accepts).client (delivered.accepts).number (delivered.accepts).sets (delivered.accepts).asks)
      (delivered.accepts).asks object candidate
