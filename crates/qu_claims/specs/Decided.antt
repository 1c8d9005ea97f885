-- When a candidate is decided, and which decided one stands highest.
-- Definitions whose comment names no source are this project's own; Query/Update is the paper of SOSP 2005.
use Rattle.std.specs.Prelude.{◌≡◌, ℕ, true, false, ◌<◌, suc}
use Rattle.qu_base.specs.declared.party.ObjectId.{ObjectId}
use Rattle.qu_stamp.specs.declared.candidate.Candidate.{Candidate}
use Rattle.qu_stamp.specs.Stamp.{is_below}
use Rattle.qu_claims.specs.Setting.{Setting, IsAccepted, IsEstablished}

-- decided: established without barrier, or the accepted prior of a decided candidate
pub data IsDecided (setting : Setting) (time : ℕ) (object : ObjectId) : Candidate → Type 0 where
  established : (candidate : Candidate) → setting.plain candidate ≡ true
      → IsEstablished setting time object candidate → IsDecided setting time object candidate
  prior : (candidate child : Candidate) → IsDecided setting time object child
      → child.prior ≡ candidate.stamp → IsAccepted setting time object candidate
      → IsDecided setting time object candidate

-- the established candidate that no decided one is above
pub record IsTop (setting : Setting) (time : ℕ) (object : ObjectId) (candidate : Candidate) : Type 0 where
  pub plain_top : setting.plain candidate ≡ true
  pub established : IsEstablished setting time object candidate
  pub nothing_above : (other : Candidate) → IsDecided setting time object other
      → is_below candidate.stamp other.stamp ≡ false

-- the step from this time to the next decides the candidate
pub record IsDecidedBy (setting : Setting) (time : ℕ) (object : ObjectId) (candidate : Candidate) : Type 0 where
  pub within : time < setting.last
  pub after : IsDecided setting (suc time) object candidate
  pub before : IsDecided setting time object candidate → ⊥

-- the act rests on the top of its object
pub record UponTop (setting : Setting) (time : ℕ) (object : ObjectId) (act : Candidate) : Type 0 where
  pub base : Candidate
  pub prior : act.prior ≡ base.stamp
  pub top : IsTop setting time object base
