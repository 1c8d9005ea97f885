use Rattle.std.proofs.Common.{◌≡◌, take, map}
use Rattle.qu_question.specs.declared.kept.Kept.{Kept}
use Rattle.qu_question.specs.declared.kept.Mark.TheVariants.{Unshown}
use Rattle.qu_question.proofs.kept.marking.unmarked.Given as goal

abbrev pub invariant-loop-held : goal.invariant-loop-held
invariant-loop-held l = l.all ≡ map (λ (held : Kept). record held { mark = Unshown }) (take l.held-index l.kept)
