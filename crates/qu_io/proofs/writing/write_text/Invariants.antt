-- The front that was taken so far.
use Rattle.std.proofs.Common.{◌-◌, ◌≤◌, length, take}
use Rattle.std.specs.Io.KnownBytes.{Appends}
use Rattle.qu_io.specs.Streams.{IsCalm}
use Rattle.qu_io.proofs.writing.write_text.Given as goal

abbrev pub invariant-loop-at : goal.invariant-loop-at
invariant-loop-at g l = let known = g.K.Sink.known in record {
  within : l.at ≤ length l.text;
  front : Appends (known l.fn.output).bytes (known l.output).bytes (take l.at l.text);
  calm : IsCalm (known l.fn.output) (known l.output);
}

abbrev pub decreases-loop-at : goal.decreases-loop-at
decreases-loop-at g l = length l.text - l.at
