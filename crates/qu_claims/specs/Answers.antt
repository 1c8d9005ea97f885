-- The answers that letters carry, and that events deliver.
use Rattle.std.specs.Prelude.{ℕ, Bool, false, ◌==◌, ◌&&◌, Option, None, Some, Result, Ok}
use Rattle.std.specs.List.{list_any}
use Rattle.qu_base.specs.declared.bad_text.BadText.{BadText}
use Rattle.qu_base.specs.declared.party.ClientId.{ClientId}
use Rattle.qu_frames.specs.declared.frame.Frame.{Frame}
use Rattle.qu_frames.specs.declared.frame.Frame.TheVariants as frame
use Rattle.qu_frames.specs.declared.frame.Letter.{Letter}
use Rattle.qu_frames.specs.Decoding.{decoded}
use Rattle.qu_trace.specs.declared.event.Event.TheVariants.{Invoke, Deliver, Tick, Inject}
use Rattle.qu_trace.specs.declared.trace.Entry.{Entry}
use Rattle.qu_trace.specs.declared.trace.Trace.{Trace}
use Rattle.qu_trace.specs.Letters.{letters_of}
use Rattle.qu_world.specs.State.{numbered}

-- what was decoded is an answer to this round of the operation
abbrev pub is_answer : ClientId → ℕ → ℕ → Result Frame BadText → Bool
is_answer client number round (Ok (frame.Reply replica other replied turn verdict culled shown mac)) =
    other.0 == client.0 && (replied == number && turn == round)
is_answer client number round _ = false

-- the letter carries one
abbrev pub answers : ClientId → ℕ → ℕ → Letter → Bool
answers client number round letter = is_answer client number round (decoded letter.text)

-- the round of the answer that was decoded
abbrev pub round_in : Result Frame BadText → Option ℕ
round_in (Ok (frame.Reply replica client number round verdict culled shown mac)) = Some round
round_in _ = None

-- the round of the answer that a letter carries
abbrev pub round_of : Option Letter → Option ℕ
round_of None = None
round_of (Some letter) = round_in (decoded letter.text)

-- the round of the answer that an event delivers
abbrev pub delivered_round : Trace → Option Entry → Option ℕ
delivered_round trace None = None
delivered_round trace (Some entry) = elim (entry.event) [
  | Invoke client op ↦ None
  | Deliver letter ↦ round_of (numbered (letters_of trace.entries) letter)
  | Tick client ↦ None
  | Inject party text ↦ round_in (decoded text)
]

abbrev pub sends_answer : ClientId → ℕ → ℕ → Option Entry → Bool
sends_answer client number round None = false
sends_answer client number round (Some entry) = list_any (answers client number round) entry.letters

-- an answer to this round is sent at an event
abbrev pub answers_at : Trace → ClientId → ℕ → ℕ → ℕ → Bool
answers_at trace client number round event = sends_answer client number round (numbered trace.entries event)
