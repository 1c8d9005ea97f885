use Rattle.std.proofs.Common.{◌≡◌, take, map}
use Rattle.qu_question.specs.declared.kept.Kept.{Kept}
use Rattle.qu_client.specs.Leaving.{mark_after}
use Rattle.qu_client.proofs.leaving.after_replies.Given as goal

abbrev pub invariant-loop-held : goal.invariant-loop-held
invariant-loop-held l =
    l.all ≡ map (λ (held : Kept). record held { mark = mark_after l.fn.bounds l.replies l.kept held })
    (take l.held-index l.kept)
