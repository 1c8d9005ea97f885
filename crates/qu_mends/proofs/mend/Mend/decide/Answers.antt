-- Each answer has its cause.
use Rattle.qu_mends.proofs.Decided.{ok_has_cause}
use Rattle.qu_mends.proofs.mend.Mend.decide.Goals as goal

pub returns-clause-cause : goal.returns-clause-cause
returns-clause-cause c = λ are. ok_has_cause c.args.self.now c.args.parts.now are c.first_row.result c.first_row.ensures
