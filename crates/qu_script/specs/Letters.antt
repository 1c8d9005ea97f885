-- The last letters of a party.
use Rattle.std.specs.Prelude.{Bool, ◌&&◌, List, [], ◌∷◌, Option, None, Some, if◌then◌else◌}
use Rattle.std.specs.Option.{option_or}
use Rattle.qu_base.specs.declared.party.Party.{Party}
use Rattle.qu_frames.specs.declared.frame.Letter.{Letter}
use Rattle.qu_trace.specs.declared.trace.Entry.{Entry}
use Rattle.qu_trace.specs.Faulty.{is_same}

-- which letters are meant: those of a party, or those to one party alone
abbrev pub is_meant : Party → Option Party → Letter → Bool
is_meant from None letter = is_same letter.from from
is_meant from (Some to) letter = is_same letter.from from && is_same letter.to to

abbrev pub if_meant : Party → Option Party → Letter → Option Letter
if_meant from to letter = if is_meant from to letter then Some letter else None

-- the last one of these letters
unfoldable pub last_of : Party → Option Party → List Letter → Option Letter
last_of from to [] = None
last_of from to (letter ∷ later) = option_or (last_of from to later) (if_meant from to letter)

-- the last one of the letters that were sent at these events
unfoldable pub last_sent : Party → Option Party → List Entry → Option Letter
last_sent from to [] = None
last_sent from to (entry ∷ later) = option_or (last_sent from to later) (last_of from to entry.letters)
