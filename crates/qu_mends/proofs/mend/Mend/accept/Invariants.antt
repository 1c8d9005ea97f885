use Rattle.std.proofs.Common.{◌≡◌, take}
use Rattle.qu_mends.specs.Mending.{accepted_parts}
use Rattle.qu_mends.proofs.mend.Mend.accept.Given as goal

abbrev pub invariant-loop-part : goal.invariant-loop-part
invariant-loop-part l = l.accepted ≡ accepted_parts l.self (take l.part-index l.parts)
