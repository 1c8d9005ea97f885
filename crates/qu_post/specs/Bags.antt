-- Bags: where letters wait for the actors that they are sent to.
use Rattle.std.specs.Prelude.{◌≡◌, ◌+◌, ◌^◌, ◌<◌, Bool, ◌==◌, if◌then◌else◌, List, [], ◌∷◌, ◌++◌, length, drop, slice_get, Option, None}
use Rattle.qu_base.specs.declared.party.Party.{Party}
use Rattle.qu_frames.specs.declared.frame.Letter.{Letter}
use Rattle.qu_post.specs.declared.bags.Bag.{Bag}
use Rattle.qu_post.specs.declared.filed.Filed.{Filed}
use Rattle.qu_frames.specs.declared.input.LetterName.{LetterName}
use Rattle.qu_post.specs.Actors.{is_one_party}
use Rattle.qu_post.specs.Letters.{letters_to, named_letters}

abbrev pub empty_bag : Party → Bag
empty_bag owner = record { owner = owner; letters = [] }

abbrev pub is_empty_bag : Bag → Bool
is_empty_bag bag = length bag.letters == 0

-- the oldest letter in the bag of this party
unfoldable pub oldest_for : Party → List Bag → Option (LetterName × Letter)
oldest_for who [] = None
oldest_for who (bag ∷ later) =
    if is_one_party bag.owner who then slice_get bag.letters 0 else oldest_for who later

-- the bags without that letter
unfoldable pub without_oldest : Party → List Bag → List Bag
without_oldest who [] = []
without_oldest who (bag ∷ later) =
    if is_one_party bag.owner who then record bag { letters = drop 1 bag.letters } ∷ later
    else bag ∷ without_oldest who later

-- a bag with the letters of a step to its owner behind those that wait
abbrev pub with_letters : Filed → Bag → Bag
with_letters step bag = record bag { letters = bag.letters ++ letters_to bag.owner (named_letters step) }

-- letters that a bag has room for: those of a step to its owner
pub record IsArriving (step : Filed) (bag : Bag) (letters : List (LetterName × Letter)) : Type 0 where
  pub letters_are : letters ≡ letters_to bag.owner (named_letters step)
  pub room : length bag.letters + length letters < 2 ^ 63
