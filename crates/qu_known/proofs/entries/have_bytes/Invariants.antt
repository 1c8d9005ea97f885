use Rattle.std.proofs.Common.{take}
use Rattle.qu_known.specs.Known.{HaveBytes}
use Rattle.qu_known.proofs.entries.have_bytes.Given as goal

abbrev pub invariant-loop-letter : goal.invariant-loop-letter
invariant-loop-letter l = HaveBytes (take l.letter-index l.letters)
