-- what is written so far, put before what the rest gives, is the whole
use Rattle.std.proofs.Common.{◌≡◌, ◌++◌, drop, take}
use Rattle.std.specs.Prelude.{string_bytes}
use Rattle.std.specs.List.{flat_map, enumerate_from}
use Rattle.qu_print.specs.Lines.{lines_text}
use Rattle.qu_print.specs.Timeline.{timeline, event_lines}
use Rattle.qu_print.proofs.timeline.put_timeline.Given as goal

abbrev pub invariant-loop-index : goal.invariant-loop-index
invariant-loop-index l =
    string_bytes l.text
    ++ lines_text (flat_map (λ place. event_lines l.order (take place.0 l.entries) place.1)
    (enumerate_from l.index (drop l.index l.entries)))
    ≡ string_bytes l.initial.text ++ lines_text (timeline l.entries l.order)
