use Rattle.std.proofs.Common.{◌≡◌, take, map}
use Rattle.qu_question.specs.Question.{set_of}
use Rattle.qu_question.proofs.sets.whole_sets.Given as goal

abbrev pub invariant-loop-object : goal.invariant-loop-object
invariant-loop-object l = l.sets ≡ map (λ object. set_of l.fn.bounds l.kept object) (take l.object-index l.objects)
