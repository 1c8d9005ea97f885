use Rattle.std.proofs.Common.{◌≡◌, take}
use Rattle.qu_question.proofs.kept.keeping.copies.Given as goal

abbrev pub invariant-loop-held : goal.invariant-loop-held
invariant-loop-held l = l.copies ≡ take l.held-index l.kept
