use Rattle.std.proofs.Common.{arith}
use Rattle.qu_history.proofs.Rising.{history_push}
use Rattle.qu_history.proofs.history.History.add.Goals as goal

pub invariant_of-self-2 : goal.invariant_of-self-2
invariant_of-self-2 c =
    history_push c.self.inside.candidates c.push.new.self c.args.candidate c.in_ok-push.ensures.ok c.self.invariant.0
    (grind arith) (omega arith)
