use Rattle.qu_history.proofs.Forms.{shown-code}
use Rattle.qu_history.proofs.formats.formats_are_codes.Goals as goal

pub returns-clause-shown : goal.returns-clause-shown
returns-clause-shown c = shown-code
