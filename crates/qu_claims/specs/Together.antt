-- What a correct replica accepts of a group: at one event, all of it or nothing.
-- Definitions whose comment names no source are this project's own; Query/Update is the paper of SOSP 2005.
use Rattle.std.specs.Prelude.{◌≡◌, ℕ, Some}
use Rattle.qu_base.specs.declared.party.ObjectId.{ObjectId}
use Rattle.qu_stamp.specs.declared.stamp.Stamp.{Stamp}
use Rattle.qu_stamp.specs.declared.candidate.Candidate.{Candidate}
use Rattle.qu_trace.specs.declared.trace.Trace.{Trace}
use Rattle.qu_claims.specs.RunSetting.{setting}
use Rattle.qu_claims.specs.Setting.{Apart, IsNew}

-- at this event the replica accepts a candidate with this stamp and this candidate's group
pub record IsJoined (trace : Trace) (time : ℕ) (replica : ℕ) (candidate : Candidate) (other : ObjectId) (stamp : Stamp)
    : Type 0 where
  pub companion : Candidate
  pub stamp_is : companion.stamp ≡ stamp
  pub group_is : companion.group ≡ candidate.group
  pub new : IsNew (setting trace) time other replica companion

pub record AcceptsTogether (trace : Trace) : Type 0 where
  -- a replica that accepts a candidate accepts every member of its group at the same event
  pub whole : (time : ℕ) (object : ObjectId) (replica : ℕ) (candidate : Candidate) (other : ObjectId) (stamp : Stamp)
      → IsNew (setting trace) time object replica candidate → (setting trace).member candidate other ≡ Some stamp
      → IsJoined trace time replica candidate other stamp
  -- and nothing else
  pub alone : (time : ℕ) (object other : ObjectId) (replica : ℕ) (candidate companion : Candidate)
      → IsNew (setting trace) time object replica candidate → IsNew (setting trace) time other replica companion
      → Apart object other → (setting trace).member candidate other ≡ Some companion.stamp
