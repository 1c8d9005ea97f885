-- What a replica holds: for each of its objects a history, versions, and what it does to get those that it lacks.
use Rattle.std.specs.Prelude.{ℕ, Bool, true, ◌+◌, ◌==◌, ◌&&◌, nat_le, List, [], ◌∷◌, slice_get, Option, None, Some, IsTrue}
use Rattle.qu_base.specs.declared.party.ObjectId.{ObjectId}
use Rattle.qu_base.specs.declared.party.ReplicaId.{ReplicaId}
use Rattle.qu_seal.specs.Keys.{Ring}
use Rattle.qu_stamp.specs.declared.stamp.Stamp.{Stamp}
use Rattle.qu_stamp.specs.declared.limits.TheConstants.{LAST_TIME}
use Rattle.qu_stamp.specs.declared.candidate.Candidate.{Candidate}
use Rattle.qu_history.specs.History.{ObjectHistory, is_history, latest}
use Rattle.qu_objects.specs.declared.kind.KindName.{KindName}
use Rattle.qu_versions.specs.declared.stored.Stored.{Stored}
use Rattle.qu_mends.specs.Table.{candidates_in}
use Rattle.qu_waiting.specs.Waiting.{Waiting, Running}

pub record ReplicaState : Type 0 where
  pub me : ReplicaId
  pub keys : Ring
  -- the kinds and the histories of objects 0, 1, 2, ..
  pub kinds : List KindName
  pub histories : List ObjectHistory
  pub versions : List Stored
  -- the waiting request of each client, in slots by their numbers
  pub waiting : List (Option Waiting)
  pub fetching : List Running

-- the same without what the replica does to get versions: all that its rows look at
abbrev pub without_waiting : ReplicaState → ReplicaState
without_waiting state = record state { kinds = []; waiting = []; fetching = [] }

abbrev pub own_candidates : ReplicaState → ObjectId → List Candidate
own_candidates state object = candidates_in (slice_get state.histories object.0)

-- the latest stamp that the replica accepted on an object
abbrev pub own_latest : ReplicaState → ObjectId → Stamp
own_latest state object = latest (own_candidates state object)

-- a history of this object at this replica: its stamps rise, up to the last time
unfoldable pub is_own : ReplicaId → ℕ → ObjectHistory → Bool
is_own me number history =
    (history.object).0 == number && (history.replica).0 == me.0 && is_history history.candidates && nat_le
    (latest history.candidates).time LAST_TIME

-- the histories of the objects from this number on
unfoldable pub are_own : ReplicaId → ℕ → List ObjectHistory → Bool
are_own me number [] = true
are_own me number (history ∷ later) = is_own me number history && are_own me (number + 1) later

-- each history rises from the opening candidate, and stands at the place of its object
abbrev pub AreHistories : ReplicaState → Type 0
AreHistories state = IsTrue (are_own state.me 0 state.histories)

-- the versions behind the others: one more, or none
abbrev pub one_more : Option Stored → List Stored
one_more None = []
one_more (Some stored) = stored ∷ []
