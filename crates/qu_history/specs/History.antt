-- The history of an object at a replica: what it accepted, from the opening candidate on, with
-- stamps that rise strictly.
use Rattle.std.specs.Prelude.{Bool, true, false, ◌&&◌, if◌then◌else◌, List, [], ◌∷◌}
use Rattle.std.specs.List.{list_any}
use Rattle.qu_base.specs.declared.party.ObjectId.{ObjectId}
use Rattle.qu_base.specs.declared.party.ReplicaId.{ReplicaId}
use Rattle.qu_stamp.specs.declared.stamp.Stamp.{Stamp}
use Rattle.qu_stamp.specs.declared.candidate.Candidate.{Candidate}
use Rattle.qu_stamp.specs.Stamp.{opening_stamp, is_below}
use Rattle.qu_stamp.specs.Candidate.{opening, same}

pub record ObjectHistory : Type 0 where
  pub object : ObjectId
  pub replica : ReplicaId
  pub candidates : List Candidate

-- each stamp is above the one before it, and the first above this one
unfoldable pub rises_from : Stamp → List Candidate → Bool
rises_from stamp [] = true
rises_from stamp (candidate ∷ later) = is_below stamp candidate.stamp && rises_from candidate.stamp later

unfoldable pub is_history : List Candidate → Bool
is_history [] = false
is_history (first ∷ later) = same first opening && rises_from first.stamp later

abbrev pub greater_stamp : Stamp → Stamp → Stamp
greater_stamp a b = if is_below a b then b else a

-- the greatest of this stamp and those of the candidates
unfoldable pub greatest_stamp : Stamp → List Candidate → Stamp
greatest_stamp stamp [] = stamp
greatest_stamp stamp (candidate ∷ later) = greatest_stamp (greater_stamp stamp candidate.stamp) later

-- the greatest stamp of a history
abbrev pub latest : List Candidate → Stamp
latest candidates = greatest_stamp opening_stamp candidates

-- whether the candidate stands among these
abbrev pub holds : Candidate → List Candidate → Bool
holds candidate candidates = list_any (λ held. same held candidate) candidates

-- the last of these candidates after this one
unfoldable pub last_from : Candidate → List Candidate → Candidate
last_from candidate [] = candidate
last_from candidate (next ∷ later) = last_from next later

-- the last candidate of a history, which has its greatest stamp
abbrev pub last : List Candidate → Candidate
last candidates = last_from opening candidates
