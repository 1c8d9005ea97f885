-- what is written so far, put before what the rest gives, is the whole
use Rattle.std.proofs.Common.{◌≡◌, ◌++◌, drop}
use Rattle.std.specs.Prelude.{string_bytes}
use Rattle.qu_print.specs.Lines.{lines_text}
use Rattle.qu_listed.specs.Events.{points_below}
use Rattle.qu_listing.proofs.points.put_points.Given as goal

abbrev pub invariant-loop-point : goal.invariant-loop-point
invariant-loop-point l =
    string_bytes l.text ++ lines_text (points_below l.event (drop l.point-index l.order))
    ≡ string_bytes l.initial.text ++ lines_text (points_below l.event l.order)
