-- What correct replicas store is true: each version is that of its stamp, with rows that updates wrote, and with links
-- that name what it was made together with.
-- Definitions whose comment names no source are this project's own; Query/Update is the paper of SOSP 2005.
use Rattle.std.specs.Prelude.{◌≡◌, ◌⊎◌, ℕ, ◌≤◌, true, length, slice_get, Some}
use Rattle.qu_base.specs.declared.party.ClientId.{ClientId}
use Rattle.qu_base.specs.declared.party.ObjectId.{ObjectId}
use Rattle.qu_stamp.specs.declared.stamp.Stamp.{Stamp}
use Rattle.qu_stamp.specs.declared.candidate.Candidate.{Candidate}
use Rattle.qu_objects.specs.declared.state.KeptRow.{KeptRow}
use Rattle.qu_objects.specs.declared.state.ObjState.{ObjState}
use Rattle.qu_objects.specs.Digesting.{act_digest}
use Rattle.qu_kept.specs.Rows.{row_of}
use Rattle.qu_rows.specs.State.{ReplicaState}
use Rattle.qu_versions.specs.Versions.{version_at}
use Rattle.qu_plan.specs.Linking.{link_in}
use Rattle.qu_trace.specs.declared.trace.Trace.{Trace}
use Rattle.qu_claims.specs.Links.{LinksAre}
use Rattle.qu_claims.specs.RunSetting.{setting}
use Rattle.qu_claims.specs.Setting.{IsAccepted, IsAncestor}
use Rattle.qu_claims.specs.Times.{world_after}
use Rattle.qu_claims.specs.Updates.{Update, IsOf, IsEverAccepted}
use Rattle.qu_claims.specs.Values.{HasVersion}

-- the first candidate is the second one or an ancestor of it
abbrev pub IsAncestorOrSelf : Trace → ObjectId → Candidate → Candidate → Type 0
IsAncestorOrSelf trace object first second =
    (first ≡ second) ⊎ IsAncestor (setting trace) (setting trace).last object first second

-- the update that wrote a row of a version: its candidate is that of the version or an ancestor, and its own version
-- keeps the row already
pub record IsWritten (trace : Trace) (object : ObjectId) (candidate : Candidate) (client : ClientId) (row : KeptRow)
    : Type 0 where
  pub first : Candidate
  pub up_to : IsAncestorOrSelf trace object first candidate
  pub accepted : IsEverAccepted trace object first
  pub update : Update
  pub is_of : IsOf trace update object first
  pub of_client : update.client ≡ client
  pub of_number : update.number ≡ row.number
  pub of_act : row.act ≡ act_digest update.client update.number update.parts
  pub its : ObjState
  pub has : HasVersion trace object first its
  pub keeps : row_of client its.kept ≡ Some row

-- the version is that of a candidate with this stamp, without barrier, which some correct replica has accepted by this
-- time
pub record IsVersionOf (trace : Trace) (time : ℕ) (object : ObjectId) (stamp : Stamp) (version : ObjState)
    : Type 0 where
  pub candidate : Candidate
  pub under : candidate.stamp ≡ stamp
  pub plain : (setting trace).plain candidate ≡ true
  pub accepted : IsAccepted (setting trace) time object candidate
  pub has : HasVersion trace object candidate version

-- and each row that it keeps is one that an update wrote on the way to this candidate; its links are true and kept
pub record IsTrueVersion (trace : Trace) (time : ℕ) (object : ObjectId) (stamp : Stamp) (version : ObjState)
    : Type 0 where
  pub of_stamp : IsVersionOf trace time object stamp version
  pub rows : (client : ClientId) (row : KeptRow) → row_of client version.kept ≡ Some row
      → IsWritten trace object of_stamp.candidate client row
  pub links : LinksAre (setting trace) time object of_stamp.candidate (link_in version.links)

-- whatever a replica finds under a stamp, at any time of the run
abbrev pub VersionsAreTrue : Trace → Type 0
VersionsAreTrue trace = (time : ℕ) → time ≤ length trace.entries → (place : ℕ) (state : ReplicaState)
    → slice_get (world_after trace time).replicas place ≡ Some state
    → (object : ObjectId) (stamp : Stamp) (version : ObjState)
    → version_at object stamp state.versions ≡ Some version → IsTrueVersion trace time object stamp version

-- the links of whatever a replica finds under the stamp of an accepted candidate
abbrev pub LinksAreTrue : Trace → Type 0
LinksAreTrue trace = (time : ℕ) → time ≤ length trace.entries → (place : ℕ) (state : ReplicaState)
    → slice_get (world_after trace time).replicas place ≡ Some state
    → (object : ObjectId) (stamp : Stamp) (version : ObjState)
    → version_at object stamp state.versions ≡ Some version → (candidate : Candidate)
    → IsAccepted (setting trace) (setting trace).last object candidate → candidate.stamp ≡ stamp
    → LinksAre (setting trace) time object candidate (link_in version.links)
