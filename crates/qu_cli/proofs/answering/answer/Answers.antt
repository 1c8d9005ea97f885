-- What a command has to write is told, and so is how its call ends.
use Rattle.qu_cli.proofs.ToldFacts.{ends, none_torn, whole_report, untorn_statuses}
use Rattle.qu_cli.proofs.answering.answer.Goals as goal

pub returns-clause-ends : goal.returns-clause-ends
returns-clause-ends g c =
    ends _ _ _ _ _ _ _ _ c.tell.result c.in-Some.command c.output_for.result c.in-Some.is c.output_for.ensures.outputs
    (none_torn _ _ _ c.output_for.result c.output_for.ensures.whole) c.output_for.ensures.few
    c.output_for.ensures.unread c.output_for.ensures.fault c.output_for.ensures.calm c.tell.ensures.told
    c.tell.ensures.untold

pub returns-clause-whole : goal.returns-clause-whole
returns-clause-whole g c =
    untorn_statuses c.tell.result (returns-clause-ends g c).status.0 (returns-clause-ends g c).torn
    (whole_report c.output_for.result _ _ c.tell.result c.output_for.ensures.whole c.tell.ensures.told)
