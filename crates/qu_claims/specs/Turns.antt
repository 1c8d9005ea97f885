-- How candidates come to be decided: one event decides one act at most, with its companions on other objects,
-- upon the tops of its objects.
use Rattle.std.specs.Prelude.{◌≡◌, ℕ, ◌≤◌, true, Some}
use Rattle.qu_base.specs.declared.party.ObjectId.{ObjectId}
use Rattle.qu_stamp.specs.declared.stamp.Stamp.{Stamp}
use Rattle.qu_stamp.specs.declared.candidate.Candidate.{Candidate}
use Rattle.qu_claims.specs.Setting.{Apart}
use Rattle.qu_claims.specs.Decided.{IsDecided, IsDecidedBy, IsTop, UponTop}
use Rattle.qu_claims.specs.Groups.{HasDecided, IsOneAct}
use Rattle.qu_trace.specs.declared.trace.Trace.{Trace}
use Rattle.qu_claims.specs.RunSetting.{setting}

pub record DecidesInTurn (trace : Trace) : Type 0 where
  -- the acts that one event decides are one, or of one group
  pub one : (time : ℕ) (object other : ObjectId) (act companion : Candidate)
      → IsDecidedBy (setting trace) time object act → IsDecidedBy (setting trace) time other companion
      → (setting trace).is_act act ≡ true → (setting trace).is_act companion ≡ true
      → IsOneAct (setting trace) object other act companion
  -- each rests on the top of its object
  pub upon_top : (time : ℕ) (object : ObjectId) (act : Candidate)
      → IsDecidedBy (setting trace) time object act → (setting trace).is_act act ≡ true
      → UponTop (setting trace) time object act
  -- at each time an object of the setup has one top
  pub top : (time : ℕ) → time ≤ (setting trace).last → (object : ObjectId) → (setting trace).known object ≡ true
      → (candidate : Candidate) × IsTop (setting trace) time object candidate
  pub one_top : (time : ℕ) → time ≤ (setting trace).last → (object : ObjectId) (candidate other : Candidate)
      → IsTop (setting trace) time object candidate → IsTop (setting trace) time object other → candidate ≡ other

-- what is decided on one member of a group is decided on all of them, at the same times
abbrev pub DecidesJointly : Trace → Type 0
DecidesJointly trace = (time : ℕ) → time ≤ (setting trace).last → (object : ObjectId) (candidate : Candidate)
    (other : ObjectId) (stamp : Stamp)
    → IsDecided (setting trace) time object candidate → Apart object other
    → (setting trace).member candidate other ≡ Some stamp
    → HasDecided (setting trace) time other stamp
