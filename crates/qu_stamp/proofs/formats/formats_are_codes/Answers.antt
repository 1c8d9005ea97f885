use Rattle.qu_stamp.proofs.Forms.{stamp-code, group-code, candidate-code}
use Rattle.qu_stamp.proofs.formats.formats_are_codes.Goals as goal

pub returns-clause-stamp : goal.returns-clause-stamp
returns-clause-stamp c = stamp-code

pub returns-clause-group : goal.returns-clause-group
returns-clause-group c = group-code

pub returns-clause-candidate : goal.returns-clause-candidate
returns-clause-candidate c = candidate-code
