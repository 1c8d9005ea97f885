-- How a step adds a candidate without barrier, with nothing said of links or of the chain.
use Rattle.std.specs.Prelude.{◌≡◌, ℕ, true, Option, Some}
use Rattle.qu_base.specs.declared.party.ObjectId.{ObjectId}
use Rattle.qu_stamp.specs.declared.stamp.Stamp.{Stamp}
use Rattle.qu_stamp.specs.declared.candidate.Candidate.{Candidate}
use Rattle.qu_claims.specs.Setting.{Setting, IsEstablished, IsAttested}
use Rattle.qu_chain.specs.Laws.{IsLinked}
use Rattle.qu_links.specs.Listing.{IsListed}
use Rattle.qu_links.specs.Copying.{View, CopyStep}

module _ (setting : Setting) (State : Type 0) (link : State → ObjectId → Option Stamp)
    (stored : ℕ → ObjectId → Stamp → State → Type 0) where
  -- what a view shows, and that the versions that it reads were stored
  pub record IsSeen (time : ℕ) (view : View) : Type 0 where
    pub plain : (object : ObjectId) (version : Candidate) → view.method object ≡ Some version
        → setting.plain version ≡ true
    pub established : (object : ObjectId) (version : Candidate) → view.method object ≡ Some version
        → IsEstablished setting time object version
    pub attested : (object : ObjectId) (candidate : Candidate) → view.repairable object candidate ≡ true
        → IsAttested setting time object candidate
    pub held : (object : ObjectId) (version : Candidate) → view.method object ≡ Some version
        → view.reads object ≡ true
        → (state : State) × stored time object version.stamp state × (view.link object ≡ link state)

  pub data HowAdded (time : ℕ) (object : ObjectId) (replica : ℕ) (candidate : Candidate) : Type 0 where
    inline : IsAttested setting time object candidate → HowAdded time object replica candidate
    by_act : setting.is_act candidate ≡ true → IsLinked setting time object replica candidate
        → HowAdded time object replica candidate
    by_copy : (view : View) → IsSeen time view → (step : CopyStep setting time replica view)
        → IsListed step.on object → step.made object ≡ candidate
        → HowAdded time object replica candidate
