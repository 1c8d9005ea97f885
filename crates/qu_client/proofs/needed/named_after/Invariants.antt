use Rattle.std.proofs.Common.{◌≡◌, drop}
use Rattle.std.specs.List.{fold}
use Rattle.qu_question.specs.Named.{with_named}
use Rattle.qu_client.specs.Needed.{named_after}
use Rattle.qu_client.proofs.needed.named_after.Given as goal

abbrev pub invariant-loop-object : goal.invariant-loop-object
invariant-loop-object l =
    fold (λ those object. with_named object those) l.all (drop l.object-index l.object-items)
    ≡ named_after l.fn.bounds l.replies l.named
