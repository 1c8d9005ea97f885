-- What the letters of a run and the bytes that its events bring are decoded to.
use Rattle.std.specs.Prelude.{◌≡◌, ℕ, List, map, Option, None, Some, Result, Ok, Err, IfSome}
use Rattle.std.specs.Option.{option_and_then}
use Rattle.qu_base.specs.declared.bad_text.BadText.{BadText}
use Rattle.qu_base.specs.declared.party.Party.{Party}
use Rattle.qu_frames.specs.declared.frame.Frame.{Frame}
use Rattle.qu_frames.specs.declared.frame.Letter.{Letter}
use Rattle.qu_frames.specs.Decoding.{decoded}
use Rattle.qu_machine.specs.declared.record.OpRecord.{OpRecord}
use Rattle.qu_trace.specs.declared.event.Event.{Event}
use Rattle.qu_trace.specs.declared.event.Event.TheVariants.{Invoke, Deliver, Tick, Inject}
use Rattle.qu_trace.specs.declared.sent.Starts.{Starts}
use Rattle.qu_trace.specs.declared.trace.Entry.{Entry}
use Rattle.qu_trace.specs.declared.trace.Trace.{Trace}
use Rattle.qu_trace.specs.Letters.{letters_of, numbered, offered_by}
use Rattle.qu_trace.specs.Operation.{operations_of}
use Rattle.qu_trace.specs.Starts.{AreStarts}

-- the frame that was decoded, if there is one
abbrev pub frame_found : Result Frame BadText → Option Frame
frame_found (Ok frame) = Some frame
frame_found (Err bad) = None

-- the frame that a letter carries
abbrev pub frame_sent : Letter → Option Frame
frame_sent letter = frame_found (decoded letter.text)

-- the frame that the letter with this number carries
abbrev pub frame_numbered : List Entry → ℕ → Option Frame
frame_numbered entries number = option_and_then frame_sent (numbered (letters_of entries) number)

-- the frame of the bytes that are injected
abbrev pub frame_injected : Event → Option Frame
frame_injected (Invoke client op) = None
frame_injected (Deliver number) = None
frame_injected (Tick client) = None
frame_injected (Inject to text) = frame_found (decoded text)

-- the frame of the bytes that an event offers
abbrev pub frame_offered : Option (Party × List ℕ) → Option Frame
frame_offered None = None
frame_offered (Some (to, text)) = frame_found (decoded text)

-- the frame that the event of an entry offers a party
abbrev pub frame_offered_at : List Entry → Option Entry → Option Frame
frame_offered_at entries None = None
frame_offered_at entries (Some entry) = frame_offered (offered_by entries entry.event)

-- where bytes are offered, this is their frame
abbrev pub IsFrameOf : Option Frame → Option (Party × List ℕ) → Type 0
IsFrameOf frame offered = IfSome offered (λ (it : Party × List ℕ). frame ≡ frame_found (decoded it.1))

-- what is kept of a run: where the letters of each entry begin, the frame of each letter, the frame that each event
-- injects, and the operations
pub record IsKept (trace : Trace) (starts : Starts) (frames injected : List (Option Frame))
    (operations : List OpRecord) : Type 0 where
  pub are_starts : AreStarts trace.entries starts
  pub are_frames : frames ≡ map frame_sent (letters_of trace.entries)
  pub are_injected : injected ≡ map (λ (entry : Entry). frame_injected entry.event) trace.entries
  pub are_operations : operations ≡ operations_of trace
