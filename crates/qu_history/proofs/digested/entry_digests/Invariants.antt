use Rattle.std.proofs.Common.{◌≡◌, take}
use Rattle.qu_history.specs.Digested.{entry_digests}
use Rattle.qu_history.proofs.digested.entry_digests.Given as goal

-- the digests of the entries so far
abbrev pub invariant-loop-entry : goal.invariant-loop-entry
invariant-loop-entry l = l.digests ≡ entry_digests (take l.entry-index l.entries)
