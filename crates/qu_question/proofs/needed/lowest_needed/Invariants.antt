use Rattle.std.proofs.Common.{◌≡◌, drop}
use Rattle.std.specs.List.{fold}
use Rattle.qu_class.specs.Class.{class_in}
use Rattle.qu_question.specs.Question.{need_of, lower_of, lowest_needed}
use Rattle.qu_question.proofs.needed.lowest_needed.Given as goal

abbrev pub invariant-loop-object : goal.invariant-loop-object
invariant-loop-object l =
    fold (λ lowest object. lower_of lowest (need_of (class_in l.bounds l.sets object))) l.lowest
    (drop l.object-index l.objects)
    ≡ lowest_needed l.bounds l.sets l.objects
