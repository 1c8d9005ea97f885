-- each step so far takes what was sent
use Rattle.std.proofs.Common.{[], take}
use Rattle.qu_replay.specs.Entries.{WereSentBefore}
use Rattle.qu_replay.proofs.entries.first_unsent.Given as goal

abbrev pub invariant-loop-at : goal.invariant-loop-at
invariant-loop-at l = WereSentBefore [] (take l.at l.steps)
