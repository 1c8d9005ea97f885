use Rattle.qu_objects.proofs.ReadingLaws.{act-code, query-code}
use Rattle.qu_objects.proofs.formats.formats_are_codes.Goals as goal

pub returns-clause-act : goal.returns-clause-act
returns-clause-act c = act-code

pub returns-clause-query : goal.returns-clause-query
returns-clause-query c = query-code
