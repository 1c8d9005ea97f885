-- The report, part by part.
use Rattle.std.proofs.Common.{◌≡◌, ℕ, List, [], ◌∷◌, ◌++◌, append_assoc}
use Rattle.qu_machine.specs.declared.record.Point.{Point}
use Rattle.qu_trace.specs.declared.premises.Premises.{Premises}
use Rattle.qu_trace.specs.declared.trace.Trace.{Trace}
use Rattle.qu_trace.specs.Operation.{operations_of}
use Rattle.qu_print.specs.Lines.{lines_text}
use Rattle.qu_print.specs.Timeline.{timeline}
use Rattle.qu_print.specs.Ends.{open_lines, premises_line, end_line}
use Rattle.qu_print.specs.Report.{bounds_line, told_order, report_of}
use Rattle.qu_print.proofs.LineFacts.{lines_text-append}

halves : (a b c d : List (List ℕ)) → lines_text (a ++ b ++ c ++ d) ≡ lines_text (a ++ b) ++ lines_text (c ++ d)
halves a b c d = rw append_assoc (lines_text-append (a ++ b) (c ++ d))

-- what happened, and then how the operations ended
pub report_parts : (trace : Trace) (premises : Premises) (order : List Point) → report_of trace premises order
    ≡ lines_text (bounds_line trace.setup.bounds ∷ [] ++ timeline trace.entries (told_order premises order))
    ++ lines_text (open_lines trace.setup.clients (operations_of trace)
    ++ premises_line premises ∷ end_line (operations_of trace) ∷ [])
unfolding report_of
report_parts trace premises order =
    halves (bounds_line trace.setup.bounds ∷ []) (timeline trace.entries (told_order premises order))
    (open_lines trace.setup.clients (operations_of trace))
    (premises_line premises ∷ end_line (operations_of trace) ∷ [])
