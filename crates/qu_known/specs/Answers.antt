-- The rounds that are answered.
use Rattle.std.specs.Prelude.{List, Option, None, Some, Result, Ok}
use Rattle.std.specs.List.{filter_map}
use Rattle.qu_base.specs.declared.bad_text.BadText.{BadText}
use Rattle.qu_base.specs.declared.party.Party.{Party}
use Rattle.qu_base.specs.declared.party.Party.TheVariants as party
use Rattle.qu_frames.specs.declared.frame.Frame.{Frame}
use Rattle.qu_frames.specs.declared.frame.Frame.TheVariants as frame
use Rattle.qu_frames.specs.declared.frame.Letter.{Letter}
use Rattle.qu_frames.specs.Decoding.{decoded}
use Rattle.qu_trace.specs.declared.trace.Entry.{Entry}
use Rattle.qu_known.specs.declared.answers.Answered.{Answered}

-- the round that was answered, if what was decoded is an answer
abbrev pub round_answered : Result Frame BadText → Option Answered
round_answered (Ok (frame.Reply replica client number round verdict culled shown mac)) =
    Some (record { client = client; number = number; round = round })
round_answered _ = None

-- the same of a letter
abbrev pub letter_answered : Letter → Option Answered
letter_answered letter = round_answered (decoded letter.text)

-- the same of the letters of replicas alone, since no other party answers
abbrev pub answered_from : Party → Result Frame BadText → Option Answered
answered_from (party.Replica me) read = round_answered read
answered_from (party.Client me) read = None

abbrev pub letter_told : Letter → Option Answered
letter_told letter = answered_from letter.from (decoded letter.text)

unfoldable pub rounds_told : List Letter → List Answered
rounds_told letters = filter_map letter_told letters

-- the rounds that the letters of an entry answer
unfoldable pub rounds_answered : Entry → List Answered
rounds_answered entry = filter_map letter_answered entry.letters
