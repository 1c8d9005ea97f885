-- the frames that the entries so far inject
use Rattle.std.proofs.Common.{◌≡◌, take}
use Rattle.std.specs.Prelude.{map}
use Rattle.qu_trace.specs.declared.trace.Entry.{Entry}
use Rattle.qu_trace.specs.Decoded.{frame_injected}
use Rattle.qu_trace.proofs.decoded.frames_injected.Given as goal

abbrev pub invariant-loop-entry : goal.invariant-loop-entry
invariant-loop-entry l = l.frames.items ≡ map (λ (entry : Entry). frame_injected entry.event)
    (take l.entry-index l.entries)
