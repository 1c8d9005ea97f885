use Rattle.std.proofs.Common.{◌≡◌}
use Rattle.qu_question.proofs.Marks.{shown_up_to}
use Rattle.qu_question.proofs.kept.marking.marked_shown.Given as goal

abbrev pub invariant-loop-held : goal.invariant-loop-held
invariant-loop-held l = l.held-items ≡ shown_up_to l.sets l.held-index l.fn.kept
