-- What was taken so far is the script so far.
use Rattle.std.proofs.Common.{◌≡◌, ◌+◌, ◌-◌, ◌≤◌, length}
use Rattle.std.specs.Io.KnownBytes.{Consumes}
use Rattle.qu_io.specs.Streams.{IsCalm}
use Rattle.qu_io.specs.declared.limits.TheConstants.{SCRIPT_LIMIT}
use Rattle.qu_io.proofs.reading.take_script.Given as goal

abbrev pub invariant-pieces : goal.invariant-pieces
invariant-pieces g l = let known = g.S.Source.known in record {
  few : length l.script.items ≤ SCRIPT_LIMIT + 1;
  room : length l.piece ≡ 4096;
  taken : Consumes (known l.fn.input).bytes (known l.input).bytes l.script.items;
  calm : IsCalm (known l.fn.input) (known l.input);
}

abbrev pub decreases-pieces : goal.decreases-pieces
decreases-pieces g l = SCRIPT_LIMIT + 1 - length l.script.items
