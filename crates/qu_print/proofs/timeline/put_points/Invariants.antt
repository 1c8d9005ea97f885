-- what is written so far, put before what the rest gives, is the whole
use Rattle.std.proofs.Common.{◌≡◌, ◌++◌, drop}
use Rattle.std.specs.Prelude.{string_bytes}
use Rattle.qu_print.specs.Lines.{lines_text}
use Rattle.qu_print.specs.Timeline.{point_lines}
use Rattle.qu_print.proofs.timeline.put_points.Given as goal

abbrev pub invariant-loop-point : goal.invariant-loop-point
invariant-loop-point l =
    string_bytes l.text ++ lines_text (point_lines l.event (drop l.point-index l.order))
    ≡ string_bytes l.initial.text ++ lines_text (point_lines l.event l.order)
