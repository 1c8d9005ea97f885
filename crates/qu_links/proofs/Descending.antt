-- What a decided candidate descends to is decided, and what a candidate descends to it descends to later.
use Rattle.std.proofs.Common.{ℕ, ◌≤◌}
use Rattle.qu_base.specs.declared.party.ObjectId.{ObjectId}
use Rattle.qu_stamp.specs.declared.stamp.Stamp.{Stamp}
use Rattle.qu_stamp.specs.declared.candidate.Candidate.{Candidate}
use Rattle.qu_claims.specs.Setting.{Setting}
use Rattle.qu_claims.specs.Decided.{IsDecided}
use Rattle.qu_claims.specs.Groups.{HasDecided}
use Rattle.qu_claims.specs.Links.{Descends}
use Rattle.qu_chain.specs.Laws.{Lasting}
use Rattle.qu_chain.proofs.Ancestry.{some-later}

module _ (setting : Setting) where
  -- what a decided candidate descends to is decided
  pub decided_along : (time : ℕ) (object : ObjectId) (low : Stamp) (candidate : Candidate)
      → IsDecided setting time object candidate → Descends setting time object low candidate
      → HasDecided setting time object low
  decided_along time object low candidate decided (Descends.here same is_low) =
      record { candidate = candidate; stamp_is = is_low; decided = decided }
  decided_along time object low candidate decided (Descends.under same base prior accepted lower) =
      decided_along time object low base (IsDecided.prior base candidate decided prior accepted) lower

module _ (setting : Setting) (lasting : Lasting setting) where
  pub descends-later : (soon late : ℕ) → soon ≤ late → (object : ObjectId) (low : Stamp) (candidate : Candidate)
      → Descends setting soon object low candidate → Descends setting late object low candidate
  descends-later soon late order object low candidate (Descends.here same is_low) = Descends.here candidate is_low
  descends-later soon late order object low candidate (Descends.under same base prior accepted lower) =
      Descends.under candidate base prior (some-later setting lasting soon late order object base accepted)
      (descends-later soon late order object low base lower)
