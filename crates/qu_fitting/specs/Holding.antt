-- What a replica holds, at the beginning and once it accepts candidates.
use Rattle.std.specs.Prelude.{ℕ, zero, suc, ◌+◌, ◌==◌, List, [], ◌∷◌, ◌++◌, set, replicate, find, Option, None, Some}
use Rattle.std.specs.List.{flat_map}
use Rattle.qu_base.specs.declared.limits.TheConstants.{LAST_CLIENT}
use Rattle.qu_base.specs.declared.party.ObjectId.{ObjectId}
use Rattle.qu_base.specs.declared.party.ReplicaId.{ReplicaId}
use Rattle.qu_seal.specs.Keys.{Ring}
use Rattle.qu_stamp.specs.declared.stamp.Stamp.{Stamp}
use Rattle.qu_stamp.specs.declared.candidate.Candidate.{Candidate}
use Rattle.qu_stamp.specs.Candidate.{opening}
use Rattle.qu_history.specs.History.{ObjectHistory}
use Rattle.qu_objects.specs.declared.kind.KindName.{KindName}
use Rattle.qu_objects.specs.declared.state.ObjState.{ObjState}
use Rattle.qu_versions.specs.declared.stored.Stored.{Stored}
use Rattle.qu_versions.specs.Versions.{opening_store}
use Rattle.qu_mends.specs.declared.accepted.Accepted.{Accepted}
use Rattle.qu_rows.specs.State.{ReplicaState}

-- the histories with a candidate at the end of that of the object with this number
unfoldable pub with_candidate : ℕ → Candidate → List ObjectHistory → List ObjectHistory
with_candidate number candidate [] = []
with_candidate zero candidate (history ∷ later) =
    record history { candidates = history.candidates ++ candidate ∷ [] } ∷ later
with_candidate (suc number) candidate (history ∷ later) = history ∷ with_candidate number candidate later

-- the version that is stored under the stamp, if there is one
abbrev pub stored_if : ObjectId → Stamp → Option ObjState → List Stored
stored_if object stamp None = []
stored_if object stamp (Some version) = record { object = object; stamp = stamp; state = version } ∷ []

abbrev pub stored_with : Accepted → List Stored
stored_with accepted = stored_if accepted.object accepted.candidate.stamp accepted.state

-- the versions of what is accepted
abbrev pub stored_all : List Accepted → List Stored
stored_all accepted = flat_map stored_with accepted

-- what is accepted of an object
abbrev pub accepted_of : ObjectId → List Accepted → Option Accepted
accepted_of object accepted = find (λ one. (one.object).0 == object.0) accepted

-- a candidate is accepted, with its version where it has one that is not stored yet
abbrev pub accept : ReplicaState → Accepted → ReplicaState
accept state accepted = record state {
  histories = with_candidate (accepted.object).0 accepted.candidate state.histories;
  versions = state.versions ++ stored_with accepted;
}

unfoldable pub accept_all : ReplicaState → List Accepted → ReplicaState
accept_all state [] = state
accept_all state (accepted ∷ later) = accept_all (accept state accepted) later

-- each of those that grew in the place of that of its object
abbrev pub with_histories : List ObjectHistory → List ObjectHistory → List ObjectHistory
with_histories [] histories = histories
with_histories (grown ∷ later) histories = with_histories later (set histories (grown.object).0 grown)

-- ---- the beginning

-- the objects from this number on, as they begin
unfoldable pub opening_histories : ReplicaId → ℕ → List KindName → List ObjectHistory
opening_histories me number [] = []
opening_histories me number (kind ∷ kinds) =
    record { object = record { 0 = number }; replica = me; candidates = opening ∷ [] } ∷ opening_histories me
    (number + 1) kinds

-- a replica that has accepted nothing but the opening candidates; nothing waits, and nothing is fetched
abbrev pub replica_at_start : ReplicaId → Ring → List KindName → ReplicaState
replica_at_start me keys kinds =
    record {
      me = me;
      keys = keys;
      kinds = kinds;
      histories = opening_histories me 0 kinds;
      versions = opening_store 0 kinds;
      waiting = replicate (LAST_CLIENT + 1) None;
      fetching = [];
    }
