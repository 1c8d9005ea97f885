use Rattle.std.proofs.Common.{◌≡◌, drop}
use Rattle.qu_question.specs.Kept.{keep_all}
use Rattle.qu_question.proofs.kept.keeping.keep_all.Given as goal

abbrev pub invariant-loop-sealed : goal.invariant-loop-sealed
invariant-loop-sealed l =
    keep_all l.number l.round (drop l.sealed-index l.shown) l.all.items ≡ keep_all l.number l.round l.shown l.kept
