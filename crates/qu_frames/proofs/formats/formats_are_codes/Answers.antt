use Rattle.qu_frames.proofs.Forms.{body-code}
use Rattle.qu_frames.proofs.formats.formats_are_codes.Goals as goal

pub returns-clause-body : goal.returns-clause-body
returns-clause-body c = body-code
