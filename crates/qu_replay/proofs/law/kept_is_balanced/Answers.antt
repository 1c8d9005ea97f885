use Rattle.qu_replay.proofs.Operations.{balanced_from_opening}
use Rattle.qu_replay.proofs.law.kept_is_balanced.Goals as goal

pub returns : goal.returns
returns c = balanced_from_opening
