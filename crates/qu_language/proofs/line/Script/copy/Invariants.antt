use Rattle.std.proofs.Common.{◌≡◌, take}
use Rattle.qu_language.proofs.line.Script.copy.Given as goal

abbrev pub invariant-loop-numbered : goal.invariant-loop-numbered
invariant-loop-numbered l = l.lines ≡ take l.numbered-index l.numbered-items
