-- the frames of the letters so far
use Rattle.std.proofs.Common.{◌≡◌, take}
use Rattle.std.specs.Prelude.{map}
use Rattle.qu_trace.specs.Decoded.{frame_sent}
use Rattle.qu_trace.proofs.decoded.frames_of.Given as goal

abbrev pub invariant-loop-place : goal.invariant-loop-place
invariant-loop-place l = l.frames.items ≡ map frame_sent (take l.place l.letters)
