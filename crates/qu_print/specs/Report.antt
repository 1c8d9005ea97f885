-- The report of a run, of which an order tells at which points the operations took effect.
use Rattle.std.specs.Prelude.{ℕ, List, [], ◌∷◌, ◌++◌, codes}
use Rattle.std.specs.Fmt.{decimal}
use Rattle.qu_base.specs.Bounds.{replicas, quorum, repair}
use Rattle.qu_machine.specs.declared.record.Point.{Point}
use Rattle.qu_trace.specs.declared.premises.Premises.{Premises}
use Rattle.qu_trace.specs.declared.premises.Premises.TheVariants.{Hold, Forged, Collide}
use Rattle.qu_trace.specs.declared.trace.Trace.{Trace}
use Rattle.qu_trace.specs.Operation.{operations_of}
use Rattle.qu_print.specs.Lines.{lines_text}
use Rattle.qu_print.specs.Timeline.{timeline}
use Rattle.qu_print.specs.Ends.{open_lines, premises_line, end_line}

-- how many replicas there are and how many of them answer, where up to b of them may lie
unfoldable pub bounds_line : ℕ → List ℕ
bounds_line b =
    codes "bounds b " ++ decimal b ++ codes " n " ++ decimal (replicas b)
    ++ codes " q " ++ decimal (quorum b) ++ codes " r " ++ decimal (repair b)

-- where the premises of the order do not hold, no point is told
abbrev pub told_order : Premises → List Point → List Point
told_order Hold order = order
told_order (Forged event) order = []
told_order (Collide first second) order = []

abbrev pub report_lines : Trace → Premises → List Point → List (List ℕ)
report_lines trace premises order =
    bounds_line trace.setup.bounds ∷ []
    ++ timeline trace.entries (told_order premises order)
    ++ open_lines trace.setup.clients (operations_of trace)
    ++ premises_line premises ∷ end_line (operations_of trace) ∷ []

unfoldable pub report_of : Trace → Premises → List Point → List ℕ
report_of trace premises order = lines_text (report_lines trace premises order)
