-- the parts are written in their order
use Rattle.std.proofs.Common.{◌≡◌, ◌++◌, [], ◌∷◌, append_assoc}
use Rattle.qu_print.specs.Lines.{lines_text}
use Rattle.qu_print.specs.Ends.{premises_line, end_line}
use Rattle.qu_print.proofs.LineFacts.{lines_text-append}
use Rattle.qu_print.proofs.report.put_ends.Goals as goal

pub returns : goal.returns
returns c =
    let two : lines_text (premises_line c.args.premises.now ∷ end_line c.args.operations.now ∷ [])
    ≡ lines_text (premises_line c.args.premises.now ∷ []) ++ lines_text (end_line c.args.operations.now ∷ []) =
    lines_text-append (premises_line c.args.premises.now ∷ []) (end_line c.args.operations.now ∷ []) in
    rw c.in_ok-put_end_line.ensures (rw c.in_ok-put_premises.ensures (rw c.in_ok-put_open.ensures
    (simp (lines_text-append, append_assoc, two))))
