-- what the entries that are left tell is what all of them tell
use Rattle.std.proofs.Common.{◌≡◌, drop}
use Rattle.qu_gather.specs.Ticks.{is_in_time}
use Rattle.qu_gather.proofs.ticks.is_in_time.Given as goal

abbrev pub invariant-loop-entry : goal.invariant-loop-entry
invariant-loop-entry l = is_in_time l.me l.number (drop l.entry-index l.later) ≡ is_in_time l.me l.number l.later
