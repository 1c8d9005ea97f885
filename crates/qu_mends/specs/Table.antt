-- A table: the first of its rows that fits gives the answer. What the rows look at of an object's history.
use Rattle.std.specs.Prelude.{Bool, nat_le, List, [], ◌∷◌, length, Option, None, Some}
use Rattle.qu_stamp.specs.declared.candidate.Candidate.{Candidate}
use Rattle.qu_history.specs.declared.limits.TheConstants.{HISTORY_LIMIT}
use Rattle.qu_history.specs.History.{ObjectHistory}

-- what the first row gives that fits, and the last answer where none does
unfoldable pub first_given : {X : Type 0} → X → List (Option X) → X
first_given last [] = last
first_given last (None ∷ later) = first_given last later
first_given last (Some given ∷ later) = given

-- the candidates of an object, none where the replica does not have it
abbrev pub candidates_in : Option ObjectHistory → List Candidate
candidates_in None = []
candidates_in (Some history) = history.candidates

-- the history of an object has no room for a candidate more
abbrev pub has_no_room : List Candidate → Bool
has_no_room own = nat_le HISTORY_LIMIT (length own)
