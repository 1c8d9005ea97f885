use Rattle.std.proofs.Common.{◌≡◌, drop}
use Rattle.qu_question.specs.Kept.{kept_of}
use Rattle.qu_question.proofs.kept.keeping.kept_of.Given as goal

abbrev pub invariant-loop-held : goal.invariant-loop-held
invariant-loop-held l = kept_of l.object l.replica (drop l.held-index l.kept) ≡ kept_of l.object l.replica l.kept
