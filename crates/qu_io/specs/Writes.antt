-- What a call of `write` does.
use Rattle.std.specs.Prelude.{◌≡◌, ℕ, ◌<◌, ◌≤◌, List, length, take, Result, IfOk, OnErr}
use Rattle.std.specs.Io.{WritesAtMost}
use Rattle.std.specs.Io.KnownBytes.{Appends, Keeps}
use Rattle.qu_io.specs.declared.failed.Failed.{Failed}
use Rattle.qu_io.specs.Streams.{StreamView, Rose}

-- `before` and `now` are what is known of the sink as the call begins and as it returns
pub record WritesTo (before now : StreamView) (result : Result ℕ Failed) (piece : List ℕ) : Type 0 where
  -- it takes at most the piece, and something of a piece that is not empty
  pub fits : WritesAtMost result piece
  pub moves : IfOk result (λ count. 0 < length piece → 0 < count)
  -- it takes the piece's front, behind what it took before
  pub takes : IfOk result (λ count. Appends before.bytes now.bytes (take count piece))
  -- a failed call takes nothing
  pub keeps : OnErr result (Keeps before.bytes now.bytes)
  -- the count of faults never falls, rises where the call failed, and stays where it did not
  pub counts : before.faults ≤ now.faults
  pub rises : OnErr result (Rose before now)
  pub stays : IfOk result (λ count. now.faults ≡ before.faults)
