-- The histories that a client keeps: of each object and replica the newest one that it was sent.
use Rattle.std.specs.Prelude.{ℕ, Bool, true, false, not, ◌==◌, ◌&&◌, ◌||◌, nat_lt, if◌then◌else◌, List, [], ◌∷◌, map, Option, None, Some}
use Rattle.qu_base.specs.declared.party.ObjectId.{ObjectId}
use Rattle.qu_history.specs.History.{ObjectHistory}
use Rattle.qu_history.specs.declared.sealed.Sealed.{Sealed}
use Rattle.qu_question.specs.declared.kept.Kept.{Kept}
use Rattle.qu_question.specs.declared.kept.Mark.{Mark}
use Rattle.qu_question.specs.declared.kept.Mark.TheVariants.{Unshown, Shown, LeftOut}

abbrev pub is_shown : Mark → Bool
is_shown Unshown = false
is_shown Shown = true
is_shown LeftOut = false

abbrev pub is_left_out : Mark → Bool
is_left_out Unshown = false
is_left_out Shown = false
is_left_out LeftOut = true

-- no entry is shown or left out
unfoldable pub unmarked : List Kept → List Kept
unmarked kept = map (λ (held : Kept). record held { mark = Unshown }) kept

-- an answer to this number and round is older than an answer to that one
abbrev pub is_older : ℕ → ℕ → ℕ → ℕ → Bool
is_older number round other later = nat_lt number other || (number == other && nat_lt round later)

-- they are of one object and one replica
abbrev pub same_source : ObjectHistory → ObjectHistory → Bool
same_source a b = (a.object).0 == (b.object).0 && (a.replica).0 == (b.replica).0

-- a sealed history takes the place of the one that is kept of its object and replica, unless it is older
unfoldable pub keep : Kept → List Kept → List Kept
keep new [] = new ∷ []
keep new (held ∷ later) =
    if same_source new.sealed.history held.sealed.history
    then (if is_older new.number new.round held.number held.round then held ∷ later else new ∷ later)
    else held ∷ keep new later

-- all sealed histories of an answer
unfoldable pub keep_all : ℕ → ℕ → List Sealed → List Kept → List Kept
keep_all number round [] kept = kept
keep_all number round (sealed ∷ later) kept =
    keep_all number round later
    (keep (record { sealed = sealed; number = number; round = round; mark = Unshown }) kept)

-- the sealed history that is kept of an object and a replica, unless it is left out
unfoldable pub kept_of : ObjectId → ℕ → List Kept → Option Sealed
kept_of object replica [] = None
kept_of object replica (held ∷ later) =
    if ((held.sealed.history).object).0 == object.0
    && (((held.sealed.history).replica).0 == replica && not (is_left_out held.mark)) then Some held.sealed
    else kept_of object replica later
