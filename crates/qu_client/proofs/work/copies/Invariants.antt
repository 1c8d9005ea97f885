use Rattle.std.proofs.Common.{◌≡◌, take}
use Rattle.qu_client.proofs.work.copies.Given as goal

abbrev pub invariant-loop-counted : goal.invariant-loop-counted
invariant-loop-counted l = l.copies ≡ take l.counted-index l.replies
