-- the entries so far have parts
use Rattle.std.proofs.Common.{take}
use Rattle.qu_runs.specs.Plain.{HaveParts}
use Rattle.qu_safety.proofs.parts.have_parts.Given as goal

abbrev pub invariant-loop-entry : goal.invariant-loop-entry
invariant-loop-entry l = HaveParts (take l.entry-index l.entries)
