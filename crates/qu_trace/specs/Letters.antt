-- The letters that a run sent, in the order of their numbers, and the bytes that events bring.
use Rattle.std.specs.Prelude.{ℕ, zero, suc, List, length, slice_get, Option, None, Some, option_map}
use Rattle.std.specs.List.{flat_map, sum_by}
use Rattle.qu_base.specs.declared.party.Party.{Party}
use Rattle.qu_frames.specs.declared.frame.Letter.{Letter}
use Rattle.qu_trace.specs.declared.event.Event.{Event}
use Rattle.qu_trace.specs.declared.event.Event.TheVariants.{Invoke, Deliver, Tick, Inject}
use Rattle.qu_trace.specs.declared.trace.Entry.{Entry}

unfoldable pub letters_of : List Entry → List Letter
letters_of entries = flat_map (λ entry. entry.letters) entries

-- the item with this number, where the first has number 1
abbrev pub numbered : {X : Type 0} → List X → ℕ → Option X
numbered items zero = None
numbered items (suc number) = slice_get items number

-- the bytes that an event offers a party, the letters of these entries having been sent: those of a letter to its
-- receiver, or injected ones
abbrev pub offered_by : List Entry → Event → Option (Party × List ℕ)
offered_by entries (Invoke client op) = None
offered_by entries (Deliver number) =
    option_map (λ (letter : Letter). (letter.to, letter.text)) (numbered (letters_of entries) number)
offered_by entries (Tick client) = None
offered_by entries (Inject to text) = Some (to, text)

-- how many bytes these letters have together
abbrev pub bytes_of : List Letter → ℕ
bytes_of letters = sum_by (λ letter. length letter.text) letters

-- how many bytes were sent
abbrev pub bytes_sent : List Entry → ℕ
bytes_sent entries = bytes_of (letters_of entries)
