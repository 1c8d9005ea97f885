-- The calls of the lines so far.
use Rattle.std.proofs.Common.{◌≡◌, take}
use Rattle.qu_language.specs.Called.{calls_said}
use Rattle.qu_language.proofs.line.Script.calls.Given as goal

abbrev pub invariant-loop-numbered : goal.invariant-loop-numbered
invariant-loop-numbered l = l.calls ≡ calls_said (take l.numbered-index l.numbered-items)
