-- The sets of a request: for each of its objects the histories that some replicas showed of it,
-- and what they say together.
use Rattle.std.specs.Prelude.{ℕ, Bool, true, not, ◌+◌, ◌==◌, ◌&&◌, nat_lt, nat_le, if◌then◌else◌, List, [], ◌∷◌, length, map, filter, count_by, Option, None, Some}
use Rattle.std.specs.List.{flat_map}
use Rattle.qu_base.specs.declared.limits.TheConstants.{OBJECT_IDS, REPLICA_IDS}
use Rattle.qu_base.specs.declared.party.ObjectId.{ObjectId}
use Rattle.qu_base.specs.Bounds.{quorum, repair}
use Rattle.qu_stamp.specs.declared.stamp.Stamp.{Stamp}
use Rattle.qu_stamp.specs.declared.candidate.Candidate.{Candidate}
use Rattle.qu_stamp.specs.Stamp.{opening_stamp, same_stamp}
use Rattle.qu_stamp.specs.Candidate.{is_before}
use Rattle.qu_history.specs.declared.limits.TheConstants.{OBJECTS_LIMIT}
use Rattle.qu_history.specs.declared.sealed.Sealed.{Sealed}
use Rattle.qu_history.specs.declared.sets.SetOf.{SetOf}
use Rattle.qu_history.specs.History.{ObjectHistory, greatest_stamp, holds}

-- the histories of some entries
abbrev pub histories : List Sealed → List ObjectHistory
histories entries = map (λ sealed. sealed.history) entries

-- an entry of this object, by a replica that has a number and is not below this number
abbrev pub is_entry : ObjectId → ℕ → ObjectHistory → Bool
is_entry object least entry =
    (entry.object).0 == object.0 && nat_le least (entry.replica).0 && nat_lt (entry.replica).0 REPLICA_IDS

-- entries of this object, with replicas that rise from this number on
unfoldable pub are_entries : ObjectId → ℕ → List ObjectHistory → Bool
are_entries object least [] = true
are_entries object least (entry ∷ later) =
    is_entry object least entry && are_entries object ((entry.replica).0 + 1) later

-- an object that has a number and is not below this one, with its entries
abbrev pub is_set : ℕ → SetOf → Bool
is_set least set =
    nat_le least (set.object).0 && nat_lt (set.object).0 OBJECT_IDS && are_entries set.object 0 (histories set.entries)

-- objects that rise from this number on, each with its entries
unfoldable pub are_sets_from : ℕ → List SetOf → Bool
are_sets_from least [] = true
are_sets_from least (set ∷ later) = is_set least set && are_sets_from ((set.object).0 + 1) later

-- one object or more, and at most as many as one set may have
unfoldable pub are_sets : List SetOf → Bool
are_sets sets = nat_lt 0 (length sets) && nat_le (length sets) OBJECTS_LIMIT && are_sets_from 0 sets

-- the histories of the entries of an object, none where it is not in the sets
unfoldable pub entries_of : ObjectId → List SetOf → List ObjectHistory
entries_of object [] = []
entries_of object (set ∷ later) = if (set.object).0 == object.0 then histories set.entries else entries_of object later

-- the order of a candidate: how many entries hold it
unfoldable pub order_of : Candidate → List ObjectHistory → ℕ
order_of candidate entries = count_by (λ entry. holds candidate entry.candidates) entries

-- all candidates of the entries
unfoldable pub candidates_of : List ObjectHistory → List Candidate
candidates_of entries = flat_map (λ entry. entry.candidates) entries

-- the latest of an object: the greatest stamp in any entry
unfoldable pub latest_of : List ObjectHistory → Stamp
latest_of entries = greatest_stamp opening_stamp (candidates_of entries)

abbrev pub greater : Candidate → Candidate → Candidate
greater a b = if is_before a b then b else a

unfoldable pub greatest_from : Candidate → List Candidate → Candidate
greatest_from best [] = best
greatest_from best (candidate ∷ later) = greatest_from (greater best candidate) later

unfoldable pub greatest : List Candidate → Option Candidate
greatest [] = None
greatest (candidate ∷ later) = Some (greatest_from candidate later)

-- the greatest candidate without barrier of an order that may be repaired
unfoldable pub object_candidate : ℕ → List ObjectHistory → Option Candidate
object_candidate bounds entries =
    greatest (filter (λ candidate. not candidate.stamp.barrier && nat_le (repair bounds)
    (order_of candidate entries)) (candidates_of entries))

-- the candidate, where it has the latest stamp and a quorum holds it
unfoldable pub if_method : ℕ → List ObjectHistory → Option Candidate → Option Candidate
if_method bounds entries None = None
if_method bounds entries (Some candidate) =
    if same_stamp candidate.stamp (latest_of entries) && nat_le (quorum bounds) (order_of candidate entries) then
    Some candidate else None

-- the candidate of an object of class METHOD: an operation may rest upon it
unfoldable pub method_at : ℕ → List ObjectHistory → Option Candidate
method_at bounds entries = if_method bounds entries (object_candidate bounds entries)
