-- What a call of `read` does.
use Rattle.std.specs.Prelude.{◌≡◌, ℕ, ◌≤◌, List, [], take, Some, Result, IfOk, OnErr}
use Rattle.std.specs.Io.{ReadsAtMost}
use Rattle.std.specs.Io.KnownBytes.{Consumes, Keeps, IsAtEnd}
use Rattle.qu_io.specs.declared.failed.Failed.{Failed}
use Rattle.qu_io.specs.Streams.{StreamView, Rose, IsCalm}

-- `before` and `now` are what is known of the source as the call begins and as it returns,
-- and `into` is what its slice holds then
pub record ReadsFrom (before now : StreamView) (result : Result ℕ Failed) (into : List ℕ) : Type 0 where
  -- it gives at most as many bytes as the slice has room for
  pub fits : ReadsAtMost result into
  -- they stand at the slice's front, and are the first of those that were left
  pub takes : IfOk result (λ count. Consumes before.bytes now.bytes (take count into))
  -- it gives no byte exactly where none is left, if the bytes that are left are told
  pub ends : IfOk result (λ count. count ≡ 0 → IsAtEnd now.bytes)
  pub empty : IfOk result (λ count. before.bytes ≡ Some [] → count ≡ 0)
  -- a failed call takes nothing
  pub keeps : OnErr result (Keeps before.bytes now.bytes)
  -- the count of faults never falls, rises where the call failed, and stays where it did not
  pub counts : before.faults ≤ now.faults
  pub rises : OnErr result (Rose before now)
  pub stays : IfOk result (λ count. IsCalm before now)
