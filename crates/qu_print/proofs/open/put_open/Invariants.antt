-- what is written so far, put before what the rest gives, is the whole
use Rattle.std.proofs.Common.{◌≡◌, ◌+◌, ◌-◌, ◌++◌}
use Rattle.std.specs.Prelude.{string_bytes}
use Rattle.std.specs.List.{flat_map, range_with_len}
use Rattle.qu_print.specs.Lines.{lines_text}
use Rattle.qu_print.specs.Ends.{open_lines, open_lines_of}
use Rattle.qu_print.proofs.open.put_open.Given as goal

abbrev pub invariant-loop-earlier : goal.invariant-loop-earlier
invariant-loop-earlier l =
    string_bytes l.text ++ lines_text
    (flat_map (open_lines_of l.operations) (range_with_len (l.earlier + 1) (l.clients - l.earlier)))
    ≡ string_bytes l.initial.text ++ lines_text (open_lines l.clients l.operations)
