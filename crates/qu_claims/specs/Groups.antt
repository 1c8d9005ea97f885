-- Candidates that are accepted together on several objects.
-- Definitions whose comment names no source are this project's own; Query/Update is the paper of SOSP 2005.
use Rattle.std.specs.Prelude.{◌≡◌, ℕ, ◌⊎◌, Some}
use Rattle.qu_base.specs.declared.party.ObjectId.{ObjectId}
use Rattle.qu_stamp.specs.declared.stamp.Stamp.{Stamp}
use Rattle.qu_stamp.specs.declared.candidate.Candidate.{Candidate}
use Rattle.qu_claims.specs.Setting.{Setting, Apart}
use Rattle.qu_claims.specs.Decided.{IsDecided}

-- a candidate of this stamp is decided
pub record HasDecided (setting : Setting) (time : ℕ) (object : ObjectId) (stamp : Stamp) : Type 0 where
  pub candidate : Candidate
  pub stamp_is : candidate.stamp ≡ stamp
  pub decided : IsDecided setting time object candidate

-- two candidates on two objects of one group
pub record InGroup (setting : Setting) (object other : ObjectId) (candidate companion : Candidate) : Type 0 where
  pub apart : Apart object other
  pub is_member : setting.member candidate other ≡ Some companion.stamp

-- the same candidate, or two of one group
abbrev pub IsOneAct : Setting → ObjectId → ObjectId → Candidate → Candidate → Type 0
IsOneAct setting object other candidate companion =
    ((object ≡ other) × (candidate ≡ companion)) ⊎ InGroup setting object other candidate companion
