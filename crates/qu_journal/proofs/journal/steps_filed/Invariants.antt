-- the steps so far are kept ones
use Rattle.std.proofs.Common.{◌≡◌, map}
use Rattle.qu_journal.specs.Journal.{as_kept}
use Rattle.qu_journal.proofs.journal.steps_filed.Given as goal

abbrev pub invariant-loop-filed : goal.invariant-loop-filed
invariant-loop-filed l = l.steps ≡ map as_kept l.yielded
