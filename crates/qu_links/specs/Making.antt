-- Where the links of a stored version come from.
use Rattle.std.specs.Prelude.{◌≡◌, ℕ, ◌<◌, suc, Option, None}
use Rattle.qu_base.specs.declared.party.ObjectId.{ObjectId}
use Rattle.qu_stamp.specs.declared.stamp.Stamp.{Stamp}
use Rattle.qu_stamp.specs.declared.candidate.Candidate.{Candidate}
use Rattle.qu_stamp.specs.Candidate.{opening}
use Rattle.qu_claims.specs.Setting.{Setting, IsAccepted}
use Rattle.qu_links.specs.Over.{LinksOver, RestsAt}

module _ (setting : Setting) (State : Type 0) (link : State → ObjectId → Option Stamp)
    -- by this time a correct replica stored this state under this stamp of the object
    (stored : ℕ → ObjectId → Stamp → State → Type 0) where
  -- a stored state is the opening one, or was made at an earlier step upon one that was stored by then
  pub data LinksFrom (time : ℕ) (object : ObjectId) (stamp : Stamp) (state : State) : Type 0 where
    opened : IsAccepted setting setting.last object opening → stamp ≡ opening.stamp
        → ((other : ObjectId) → link state other ≡ None)
        → LinksFrom time object stamp state
    made : (at : ℕ) → at < time → (base candidate : Candidate) (before : State)
        → candidate.stamp ≡ stamp → IsAccepted setting (suc at) object candidate
        → RestsAt setting at object base candidate
        → stored at object base.stamp before
        → LinksOver setting object candidate (link before) (link state)
        → LinksFrom time object stamp state
