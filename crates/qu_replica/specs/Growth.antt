-- How the state of a replica may follow another.
use Rattle.std.specs.Prelude.{◌≡◌, ◌<◌, ◌≤◌, List, ◌++◌, length}
use Rattle.std.specs.List.{AllByRecursion}
use Rattle.qu_base.specs.declared.party.ObjectId.{ObjectId}
use Rattle.qu_stamp.specs.declared.candidate.Candidate.{Candidate}
use Rattle.qu_history.specs.History.{ObjectHistory}
use Rattle.qu_versions.specs.declared.limits.TheConstants.{MOST_VERSIONS}
use Rattle.qu_versions.specs.declared.stored.Stored.{Stored}
use Rattle.qu_replica.specs.declared.planned.Gain.{Gain}
use Rattle.qu_rows.specs.State.{ReplicaState, AreHistories, own_candidates}
use Rattle.qu_replica.specs.State.{with_gain}
use Rattle.qu_waiting.specs.Slots.{with_turn, AreSlots}

-- what a replica's state may gain: histories of objects that it has, so that they stay its own, versions that a list
-- holds, and requests that wait, each in the slot of its client
pub record MayGain (state : ReplicaState) (gain : Gain) : Type 0 where
  pub known : AllByRecursion (λ (history : ObjectHistory). (history.object).0 < length state.histories) gain.histories
  pub own : AreHistories (with_gain state gain)
  pub slots : AreSlots (with_turn gain.turn state.waiting)
  pub room : length ((state.versions ++ gain.found) ++ gain.versions) ≤ MOST_VERSIONS

-- two states of a replica with the same histories and versions
pub record HoldsAlike (one other : ReplicaState) : Type 0 where
  pub me : one.me ≡ other.me
  pub keys : one.keys ≡ other.keys
  pub histories : one.histories ≡ other.histories
  pub versions : one.versions ≡ other.versions

-- more candidates and more versions are held, and nothing is forgotten
pub record Grows (old new : ReplicaState) : Type 0 where
  pub me : new.me ≡ old.me
  pub keys : new.keys ≡ old.keys
  pub number : length new.histories ≡ length old.histories
  pub candidates : (object : ObjectId) → (more : List Candidate)
      × (own_candidates new object ≡ own_candidates old object ++ more)
  pub versions : (more : List Stored) × (new.versions ≡ old.versions ++ more)
