-- What is asked of candidates that are accepted together on several objects, and of copies.
-- Definitions whose comment names no source are this project's own; Query/Update is the paper of SOSP 2005.
use Rattle.std.specs.Prelude.{◌≡◌, ℕ, true, false, ◌<◌, suc, ◌⊎◌, None, Some}
use Rattle.qu_base.specs.declared.party.ObjectId.{ObjectId}
use Rattle.qu_stamp.specs.declared.stamp.Stamp.{Stamp}
use Rattle.qu_stamp.specs.declared.candidate.Candidate.{Candidate}
use Rattle.qu_claims.specs.Setting.{Setting, Apart, IsAttested, IsNew}
use Rattle.qu_claims.specs.Groups.{HasDecided}
use Rattle.qu_chain.specs.Laws.{StampsAreOne}

-- a replica that accepted the candidate accepted this member of its group too, on the other object
pub record HasCompanion (setting : Setting) (time : ℕ) (object : ObjectId) (replica : ℕ) (candidate : Candidate)
    (other : ObjectId) (stamp : Stamp) : Type 0 where
  pub companion : Candidate
  pub stamp_is : companion.stamp ≡ stamp
  pub accepted_too : setting.accepted time other replica companion ≡ true
  pub back : setting.member companion object ≡ Some candidate.stamp
  pub plain_too : setting.plain companion ≡ setting.plain candidate
  pub act_too : setting.is_act companion ≡ setting.is_act candidate

-- the candidate copies its base (Query/Update), with its group; that the base has no
-- barrier follows from its link
pub record IsCopied (setting : Setting) (time : ℕ) (object : ObjectId) (replica : ℕ) (candidate : Candidate)
    : Type 0 where
  pub base : Candidate
  pub prior : candidate.prior ≡ base.stamp
  pub attested : IsAttested setting time object base
  -- what is copied together with it copies what was accepted together with its base
  pub joined : (other : ObjectId) (companion : Candidate) → Apart object other
      → setting.member candidate other ≡ Some companion.stamp
      → setting.accepted (suc time) other replica companion ≡ true
      → setting.member base other ≡ Some companion.prior
  -- a member of the base's group that is not copied is decided already
  pub covered : (other : ObjectId) (stamp : Stamp) → Apart object other
      → setting.member base other ≡ Some stamp
      → setting.member candidate other ≡ None
      → HasDecided setting time other stamp

-- the candidate's group has a member on the other object
abbrev pub HasMember : Setting → ObjectId → Candidate → ObjectId → Type 0
HasMember setting object candidate other =
    Apart object other × ((stamp : Stamp) × (setting.member candidate other ≡ Some stamp))

-- what is asked of a run for all objects together
pub record Joint (setting : Setting) : Type 0 where
  pub one : StampsAreOne setting
  -- a correct replica accepts all of a group or nothing of it
  pub joint : (time : ℕ) (object : ObjectId) (replica : ℕ) (candidate : Candidate) (other : ObjectId) (stamp : Stamp)
      → setting.good replica ≡ true → replica < setting.n
      → setting.accepted time object replica candidate ≡ true
      → Apart object other → setting.member candidate other ≡ Some stamp
      → HasCompanion setting time object replica candidate other stamp
  -- what is accepted at one step is one group
  pub together : (time : ℕ) (object other_object : ObjectId) (replica other_replica : ℕ) (candidate other : Candidate)
      → Apart object other_object
      → IsNew setting time object replica candidate
      → IsNew setting time other_object other_replica other
      → setting.member candidate other_object ≡ Some other.stamp
  -- a candidate without barrier that no operation made was attested, or is copied
  pub copies : (time : ℕ) (object : ObjectId) (replica : ℕ) (candidate : Candidate)
      → setting.plain candidate ≡ true → setting.is_act candidate ≡ false
      → IsNew setting time object replica candidate
      → IsAttested setting time object candidate ⊎ IsCopied setting time object replica candidate
