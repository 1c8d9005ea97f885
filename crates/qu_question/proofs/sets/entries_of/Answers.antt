use Rattle.std.proofs.Common.{◌∙◌, arith}
use Rattle.qu_question.proofs.Gathered.{entries_from_some, entries_from_none, entries_from_end}
use Rattle.qu_question.proofs.sets.entries_of.Goals as goal
use Rattle.qu_question.proofs.sets.entries_of.Goals.{in-Some+in_ok-copy+in_ok-push, in_default}

pub loop-replica-preserved : goal.loop-replica-preserved
loop-replica-preserved c =
    elim c.match-kept_of.branch [
      | in-Some+in_ok-copy+in_ok-push w ↦
          entries_from_some _ _ _ _ _ _ c.loop-replica.invariant _ _ _ (omega arith) w.in-Some.ensures
          w.in_ok-copy.ensures (w.entries-is ∙ w.in_ok-push.ensures.ok)
      | in_default w ↦
          entries_from_none _ _ _ _ _ _ c.loop-replica.invariant _ (omega arith) w.in_default.ensures w.entries-is
    ]

pub returns : goal.returns
returns c = entries_from_end _ _ _ _ _ _ c.loop-replica.invariant (omega arith)
