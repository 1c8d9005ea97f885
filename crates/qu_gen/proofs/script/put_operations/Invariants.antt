-- what is written so far, put before what the rest gives, is the whole
use Rattle.std.proofs.Common.{◌≡◌, ◌+◌, ◌-◌, ◌++◌}
use Rattle.std.specs.Prelude.{string_bytes}
use Rattle.std.specs.List.{flat_map, range_with_len}
use Rattle.qu_gen.specs.Script.{lines_at, lines_of_first, ended}
use Rattle.qu_gen.proofs.script.put_operations.Given as goal

abbrev pub invariant-loop-earlier : goal.invariant-loop-earlier
invariant-loop-earlier l =
    string_bytes l.text ++ ended
    (flat_map (lines_at l.number) (range_with_len (l.earlier + 1) (l.count - l.earlier)))
    ≡ string_bytes l.initial.text ++ ended (lines_of_first l.count l.number)
