use Rattle.qu_replay.proofs.Merged.{merged_is_run, kept_sent}
use Rattle.qu_replay.proofs.law.kept_is_run.Goals as goal

pub returns-clause-run : goal.returns-clause-run
returns-clause-run c = merged_is_run

pub returns-clause-sent : goal.returns-clause-sent
returns-clause-sent c = kept_sent
