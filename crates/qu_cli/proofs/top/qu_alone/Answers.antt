-- The one command of `qu_alone` makes reports.
use Rattle.qu_notation.specs.Words.{usage_text}
use Rattle.qu_cli.proofs.EndFacts.{has_history}
use Rattle.qu_cli.proofs.top.qu_alone.Goals as goal

pub returns-clause-ends : goal.returns-clause-ends
unfolding usage_text
returns-clause-ends g c = rw c.alone_command.ensures.value at c.answer.ensures.ends

pub returns-clause-headline : goal.returns-clause-headline
returns-clause-headline g c =
    has_history c.alone_command.result c.answer.result.trace c.alone_command.ensures.reports
    (c.answer.ensures.ends).known
