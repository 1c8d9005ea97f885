-- A run as lines: one for each event, with what it ends, and below it one for each operation that takes effect at it
-- and one for each letter that it sends.
use Rattle.std.specs.Prelude.{ℕ, ◌+◌, ◌==◌, List, [], ◌∷◌, ◌++◌, length, map, filter, take, Option, None, Some, codes}
use Rattle.std.specs.List.{flat_map, enumerate_from}
use Rattle.std.specs.Fmt.{decimal}
use Rattle.qu_base.specs.declared.party.ClientId.{ClientId}
use Rattle.qu_base.specs.declared.party.Party.{Party}
use Rattle.qu_base.specs.declared.party.Party.TheVariants as party
use Rattle.qu_objects.specs.declared.op.Outcome.{Outcome}
use Rattle.qu_objects.specs.declared.op.Outcome.TheVariants.{Done, GaveUp}
use Rattle.qu_frames.specs.declared.frame.Frame.{Frame}
use Rattle.qu_frames.specs.declared.frame.Letter.{Letter}
use Rattle.qu_frames.specs.Decoding.{decoded}
use Rattle.qu_frames.specs.Signing.{sender}
use Rattle.qu_machine.specs.declared.record.Point.{Point}
use Rattle.qu_trace.specs.declared.event.Event.{Event}
use Rattle.qu_trace.specs.declared.event.Event.TheVariants.{Invoke, Deliver, Tick, Inject}
use Rattle.qu_trace.specs.declared.premises.Premises.{Premises}
use Rattle.qu_trace.specs.declared.trace.Entry.{Entry}
use Rattle.qu_trace.specs.declared.trace.Setup.{Setup}
use Rattle.qu_trace.specs.declared.trace.Trace.{Trace}
use Rattle.qu_trace.specs.Letters.{letters_of, numbered, offered_by}
use Rattle.qu_trace.specs.Operation.{begun_by}
use Rattle.qu_world.specs.State.{WorldState}
use Rattle.qu_print.specs.Lines.{lines_text}
use Rattle.qu_print.specs.Report.{told_order}
use Rattle.qu_print.specs.Timeline.{point_line}
use Rattle.qu_print.specs.Words.{name_text, op_text, answer_text}
use Rattle.qu_listed.specs.Names.{party_text, count_text}
use Rattle.qu_listed.specs.Frames.{frame_text, carried_text}
use Rattle.qu_listed.specs.Receivers.{frame_taken}
use Rattle.qu_listed.specs.declared.stood.Stood.{Stood}
use Rattle.qu_listed.specs.Fetching.{noted_text, waits_text}
use Rattle.qu_listed.specs.Rounds.{stood_before, rounds_text}
use Rattle.qu_listed.specs.World.{followed, world_behind}

-- ---- the line of a letter

abbrev pub letter_route : Letter → List ℕ
letter_route letter = party_text letter.from ++ codes " to " ++ party_text letter.to ++ codes ": "

unfoldable pub letter_line : ℕ → Letter → List ℕ
letter_line number letter =
    codes "  letter " ++ decimal number ++ codes " " ++ letter_route letter ++ carried_text (decoded letter.text)

-- the lines of these letters, of which the first has this number
abbrev pub letter_lines : ℕ → List Letter → List (List ℕ)
letter_lines first letters = map (λ place. letter_line place.0 place.1) (enumerate_from first letters)

-- ---- the line of an event

-- a party ignores a text of which it takes no frame
abbrev pub taken_text : Option Frame → List ℕ
taken_text None = codes ", ignored"
taken_text (Some frame) = []

abbrev pub receiver_text : Setup → Option Letter → List ℕ
receiver_text setup None = codes "nobody"
receiver_text setup (Some letter) = party_text letter.to ++ taken_text (frame_taken setup letter.to letter.text)

-- a frame that is taken of injected bytes is told as one of the party that it names
abbrev pub injected_text : Option Frame → List ℕ
injected_text None = codes ", ignored"
injected_text (Some frame) = codes " as " ++ party_text (sender frame) ++ codes ": " ++ frame_text frame

-- what happens, behind these earlier entries
abbrev pub event_text : Setup → List Entry → Event → List ℕ
event_text setup earlier (Invoke client op) =
    codes "call " ++ name_text client (begun_by client earlier + 1) ++ codes " " ++ op_text op
event_text setup earlier (Deliver number) =
    codes "deliver " ++ decimal number ++ codes " to " ++ receiver_text setup (numbered (letters_of earlier) number)
event_text setup earlier (Tick client) = codes "tick " ++ party_text (party.Client client)
event_text setup earlier (Inject to text) =
    codes "inject " ++ count_text (length text) (codes "byte") ++ codes " to " ++ party_text to
    ++ injected_text (frame_taken setup to text)

abbrev pub outcome_text : Outcome → List ℕ
outcome_text (Done answer) = codes " with " ++ answer_text answer
outcome_text GaveUp = codes " given up"

-- the operation that ends, and how
abbrev pub end_text : Option (ClientId × ℕ × Outcome) → List ℕ
end_text None = []
end_text (Some ended) = codes ", ends " ++ name_text ended.0 ended.1 ++ outcome_text ended.2

-- what is told in the world before the event. The event behind these entries has the number that comes next
abbrev pub front_text : Setup → List Entry → WorldState → Entry → Option (Party × List ℕ) → List ℕ
front_text setup earlier world entry offered =
    codes "event " ++ decimal (length earlier + 1) ++ codes " " ++ event_text setup earlier entry.event
    ++ noted_text setup world.replicas offered ++ waits_text entry.letters

-- what is told in the world behind it
abbrev pub back_text : WorldState → Entry → Option Stood → List ℕ
back_text world entry stood = rounds_text stood world ++ end_text entry.ended

abbrev pub told_in : Setup → List Entry → WorldState → Entry → Option (Party × List ℕ) → List ℕ
told_in setup earlier world entry offered =
    front_text setup earlier world entry offered
    ++ back_text (followed world entry.event) entry (stood_before setup world offered entry.event)

unfoldable pub event_line : Setup → List Entry → Entry → List ℕ
event_line setup earlier entry =
    told_in setup earlier (world_behind setup earlier) entry (offered_by earlier entry.event)

-- ---- the listing

-- where an operation takes effect at an event, as the report tells it
abbrev pub point_below : Point → List ℕ
point_below point = codes "  " ++ point_line point

abbrev pub points_below : ℕ → List Point → List (List ℕ)
points_below event order = map point_below (filter (λ point. point.event == event) order)

-- letters are numbered on, from event to event
unfoldable pub entry_lines : Setup → List Point → List Entry → Entry → List (List ℕ)
entry_lines setup order earlier entry =
    event_line setup earlier entry ∷ points_below (length earlier + 1) order
    ++ letter_lines (length (letters_of earlier) + 1) entry.letters

unfoldable pub listing : Setup → List Point → List Entry → List (List ℕ)
listing setup order entries =
    flat_map (λ place. entry_lines setup order (take place.0 entries) place.1) (enumerate_from 0 entries)

-- the events of the run by their numbers, each with the points of an order that it has, and with the letters that it
-- sent; no point is told where the premises of the order do not hold
unfoldable pub events_text : Trace → Premises → List Point → List ℕ
events_text trace premises order = lines_text (listing trace.setup (told_order premises order) trace.entries)
