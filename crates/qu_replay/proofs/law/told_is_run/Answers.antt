-- What the lemmas tell of steps that are told.
use Rattle.std.proofs.Common.{[]}
use Rattle.qu_replay.proofs.Told.{told_is_run, told_from_opening}
use Rattle.qu_replay.proofs.Replayed.{told_until_opening}
use Rattle.qu_replay.proofs.Operations.{told_invoked, told_sent}
use Rattle.qu_replay.proofs.law.told_is_run.Goals as goal

pub returns-clause-run : goal.returns-clause-run
returns-clause-run c setup xs entries ends limits replays told =
    (told_is_run setup xs entries ends limits replays told, (told_from_opening setup xs entries ends replays told).ends)

pub returns-clause-until : goal.returns-clause-until
returns-clause-until c = told_until_opening

pub returns-clause-operations : goal.returns-clause-operations
returns-clause-operations c xs entries told =
    ((λ me. told_invoked [] xs entries me told), told_sent [] xs entries told)
