use Rattle.std.proofs.Common.{◌≡◌, take, map}
use Rattle.qu_question.proofs.named.objects_in.Given as goal

abbrev pub invariant-loop-part : goal.invariant-loop-part
invariant-loop-part g l = l.objects ≡ map (λ part. part.0) (take l.part-index l.parts)
