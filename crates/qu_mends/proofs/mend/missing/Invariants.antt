use Rattle.std.proofs.Common.{◌≡◌, take}
use Rattle.qu_mends.specs.Mending.{missing_in}
use Rattle.qu_mends.proofs.mend.missing.Given as goal

abbrev pub invariant-loop-part : goal.invariant-loop-part
invariant-loop-part l = l.missing ≡ missing_in (take l.part-index l.parts)
