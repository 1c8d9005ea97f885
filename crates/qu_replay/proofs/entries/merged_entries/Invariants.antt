-- the entries so far tell the steps so far
use Rattle.std.proofs.Common.{◌≡◌, map, take}
use Rattle.qu_replay.specs.Merged.{entry_of}
use Rattle.qu_replay.proofs.entries.merged_entries.Given as goal

abbrev pub invariant-loop-one : goal.invariant-loop-one
invariant-loop-one l = l.entries ≡ map (entry_of l.steps) (take l.one-index l.steps)
