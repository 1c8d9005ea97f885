-- What has to be known of a run to find the points of its operations.
use Rattle.std.specs.Prelude.{◌≡◌, length, map}
use Rattle.qu_trace.specs.declared.trace.Trace.{Trace}
use Rattle.qu_known.specs.Answers.{rounds_answered}
use Rattle.qu_points.specs.declared.facts.Facts.{Facts}
use Rattle.qu_points.specs.Points.{handled_acts}
use Rattle.qu_marks.specs.Tracker.{Tracks}

pub record AreFacts (trace : Trace) (facts : Facts) : Type 0 where
  -- which candidates were accepted, and when they were decided
  pub tracked : Tracks trace (length trace.entries) facts.tracker
  -- which acts replicas handled
  pub handled : facts.acts ≡ handled_acts trace
  -- which rounds were answered at each event
  pub answered : facts.answers ≡ map rounds_answered trace.entries
