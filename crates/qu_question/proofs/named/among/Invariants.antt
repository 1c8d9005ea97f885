use Rattle.std.proofs.Common.{◌≡◌, [], ◌∷◌, ◌++◌, filter, take}
use Rattle.std.specs.Prelude.{nat_lt}
use Rattle.qu_question.proofs.named.among.Given as goal

abbrev pub invariant-loop-other : goal.invariant-loop-other
invariant-loop-other l =
    l.objects ≡ (filter (λ other. nat_lt other.0 l.object.0) l.others ++ l.object ∷ [])
    ++ filter (λ other. nat_lt l.object.0 other.0) (take l.other-index l.others)
