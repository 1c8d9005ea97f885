-- where the letters of the entries so far begin
use Rattle.std.proofs.Common.{take}
use Rattle.qu_trace.specs.Starts.{AreStarts}
use Rattle.qu_trace.proofs.sent.Starts.of.Given as goal

abbrev pub invariant-loop-entry : goal.invariant-loop-entry
invariant-loop-entry l = AreStarts (take l.entry-index l.entries) l.starts
