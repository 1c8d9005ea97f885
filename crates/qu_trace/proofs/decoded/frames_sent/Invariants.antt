-- the frames of the letters of the entries so far
use Rattle.std.proofs.Common.{◌≡◌, take}
use Rattle.std.specs.Prelude.{map}
use Rattle.qu_trace.specs.Letters.{letters_of}
use Rattle.qu_trace.specs.Decoded.{frame_sent}
use Rattle.qu_trace.proofs.decoded.frames_sent.Given as goal

abbrev pub invariant-loop-entry : goal.invariant-loop-entry
invariant-loop-entry l = l.frames.items ≡ map frame_sent (letters_of (take l.entry-index l.entries))
