-- Letters with their names: who sent them, in which step, and at which place among its letters.
use Rattle.std.specs.Prelude.{ℕ, ◌+◌, List, [], ◌∷◌, filter, take}
use Rattle.qu_base.specs.declared.party.Party.{Party}
use Rattle.qu_frames.specs.declared.frame.Letter.{Letter}
use Rattle.qu_post.specs.declared.filed.Filed.{Filed}
use Rattle.qu_frames.specs.declared.input.LetterName.{LetterName}
use Rattle.qu_post.specs.declared.letters.TheConstants.{NAMED_LETTERS}
use Rattle.qu_post.specs.Actors.{is_one_party}

-- letters of a step, from this place on, each with its name
unfoldable pub named_from : Party → ℕ → ℕ → List Letter → List (LetterName × Letter)
named_from sender ticket place [] = []
named_from sender ticket place (letter ∷ later) =
    (record { from = sender; ticket = ticket; place = place }, letter) ∷ named_from sender ticket (place + 1) later

-- the letters of a step, each with its name; a place has 16 bits, and a letter at a later one has no name
abbrev pub named_letters : Filed → List (LetterName × Letter)
named_letters step = named_from step.actor step.ticket 0 (take NAMED_LETTERS step.letters)

-- the letters to this party, in order
unfoldable pub letters_to : Party → List (LetterName × Letter) → List (LetterName × Letter)
letters_to owner letters = filter (λ (named : LetterName × Letter). is_one_party (named.1).to owner) letters
