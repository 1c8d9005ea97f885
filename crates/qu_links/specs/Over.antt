-- What a step gives so that the links of the version that it makes are true and kept.
use Rattle.std.specs.Prelude.{◌≡◌, ℕ, true, ◌⊎◌, Option, Some}
use Rattle.qu_base.specs.declared.party.ObjectId.{ObjectId}
use Rattle.qu_stamp.specs.declared.stamp.Stamp.{Stamp}
use Rattle.qu_stamp.specs.declared.candidate.Candidate.{Candidate}
use Rattle.qu_stamp.specs.Stamp.{is_below}
use Rattle.qu_claims.specs.Setting.{Setting, Apart, IsAttested}

-- the links after an act or a copy: own stamps for the other members of its group, else those of the base
pub record LinksOver (setting : Setting) (object : ObjectId) (candidate : Candidate)
    (before after : ObjectId → Option Stamp) : Type 0 where
  pub own : (other : ObjectId) (stamp : Stamp) → Apart object other → setting.member candidate other ≡ Some stamp
      → after other ≡ Some candidate.stamp
  pub either : (other : ObjectId) → (after other ≡ Some candidate.stamp) ⊎ (after other ≡ before other)

-- how the candidate of a version that an act or a copy made rests on its base
pub record RestsAt (setting : Setting) (time : ℕ) (object : ObjectId) (base candidate : Candidate) : Type 0 where
  pub prior : candidate.prior ≡ base.stamp
  pub below : is_below base.stamp candidate.stamp ≡ true
  pub attested : IsAttested setting time object base
