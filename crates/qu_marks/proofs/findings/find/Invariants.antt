use Rattle.std.proofs.Common.{◌≡◌, map, take}
use Rattle.qu_claims.specs.Times.{world_after}
use Rattle.qu_known.specs.Known.{AreKnown}
use Rattle.qu_known.specs.Answers.{rounds_answered}
use Rattle.qu_marks.specs.Tracker.{Tracks}
use Rattle.qu_marks.proofs.findings.find.Given as goal

abbrev pub invariant-loop-index : goal.invariant-loop-index
invariant-loop-index l = record {
  known : AreKnown (world_after l.trace l.index).replicas l.known;
  tracked : Tracks l.trace l.index l.tracker;
  answered : l.answers ≡ map rounds_answered (take l.index l.trace.entries);
}
