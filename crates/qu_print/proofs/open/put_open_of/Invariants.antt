-- what is written so far, put before what the rest gives, is the whole
use Rattle.std.proofs.Common.{◌≡◌, ◌++◌, drop}
use Rattle.std.specs.Prelude.{string_bytes}
use Rattle.qu_print.specs.Lines.{lines_text}
use Rattle.qu_print.specs.Ends.{open_lines_of}
use Rattle.qu_print.proofs.open.put_open_of.Given as goal

abbrev pub invariant-loop-operation : goal.invariant-loop-operation
invariant-loop-operation l =
    string_bytes l.text ++ lines_text (open_lines_of (drop l.operation-index l.operations) l.client)
    ≡ string_bytes l.initial.text ++ lines_text (open_lines_of l.operations l.client)
