-- the entries so far are of bytes
use Rattle.std.proofs.Common.{take}
use Rattle.qu_known.specs.Known.{AreOfBytes}
use Rattle.qu_known.proofs.entries.are_of_bytes.Given as goal

abbrev pub invariant-loop-entry : goal.invariant-loop-entry
invariant-loop-entry l = AreOfBytes (take l.entry-index l.entries)
