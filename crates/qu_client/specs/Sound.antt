-- What holds of a client from its opening state on.
use Rattle.std.specs.Prelude.{◌≡◌, ℕ, ◌≤◌, ◌≢◌, ◌⊎◌, Option, None, Some, IfSome}
use Rattle.std.specs.List.{AllPairs}
use Rattle.qu_objects.specs.declared.op.Op.{Op}
use Rattle.qu_frames.specs.declared.frame.Body.{Body}
use Rattle.qu_frames.specs.declared.frame.Body.TheVariants as body
use Rattle.qu_frames.specs.Body.{body_of}
use Rattle.qu_frames.specs.declared.limits.TheConstants.{LAST_ROUND}
use Rattle.qu_client.specs.declared.work.Counted.{Counted}
use Rattle.qu_client.specs.declared.work.Work.{Work}
use Rattle.qu_client.specs.State.{ClientState}

-- the number of the last request and that of the operation under way are at most this one
pub record NumbersWithin (most : ℕ) (state : ClientState) : Type 0 where
  pub last : IfSome state.last_request (λ last. last.0 ≤ most)
  pub work : IfSome state.work (λ work. work.number ≤ most)

-- that an object be mended
abbrev pub IsMend : Body → Type 0
IsMend (body.Act parts) = ⊥
IsMend (body.Ask parts) = ⊥
IsMend (body.Mend target) = Unit {0}

-- what a round of an operation may ask: the operation itself, or that an object be mended
abbrev pub IsFor : Op → Body → Type 0
IsFor op asked = (asked ≡ body_of op) ⊎ IsMend asked

-- the operation under way is in one of its rounds, or rests after one of them, and the last request was the one of this
-- round
pub record IsSoundWork (last_request : Option (ℕ × ℕ)) (work : Work) : Type 0 where
  pub first : 1 ≤ work.round
  pub last : work.round ≤ LAST_ROUND
  -- each verdict that counts is of another replica
  pub different : AllPairs (λ (a b : Counted). (a.replica).0 ≢ (b.replica).0) work.replies
  pub asked : last_request ≡ Some (work.number, work.round)
  pub asks : IsFor work.op work.body

abbrev pub IsSound : ClientState → Type 0
IsSound state = IfSome state.work (IsSoundWork state.last_request)

-- the number of the last request, 0 before the first one
abbrev pub last_number : Option (ℕ × ℕ) → ℕ
last_number None = 0
last_number (Some last) = last.0
