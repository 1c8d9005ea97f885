-- Sets as a client trims them: what faulty replicas show above all that may be repaired is left out, so that an
-- operation does not depend upon it.
use Rattle.std.specs.Prelude.{ℕ, Bool, not, nat_le, if◌then◌else◌, List, length, map, filter, Option, None, Some}
use Rattle.qu_base.specs.Bounds.{quorum, repair}
use Rattle.qu_stamp.specs.declared.candidate.Candidate.{Candidate}
use Rattle.qu_stamp.specs.Stamp.{is_below}
use Rattle.qu_history.specs.declared.sealed.Sealed.{Sealed}
use Rattle.qu_history.specs.declared.sets.SetOf.{SetOf}
use Rattle.qu_history.specs.History.{ObjectHistory, latest}
use Rattle.qu_history.specs.Sets.{histories, order_of, candidates_of, greater, greatest}

-- so many of the entries hold the candidate
abbrev pub is_held_by : List ObjectHistory → ℕ → Candidate → Bool
is_held_by entries least candidate = nat_le least (order_of candidate entries)

-- the greatest candidate that so many of the entries hold, with a barrier or without
unfoldable pub greatest_shown : List ObjectHistory → ℕ → Option Candidate
greatest_shown entries least = greatest (filter (is_held_by entries least) (candidates_of entries))

-- the greater of a candidate and the best so far
abbrev pub greater_of : Option Candidate → Candidate → Candidate
greater_of None candidate = candidate
greater_of (Some best) candidate = greater best candidate

-- the greater of the best so far and what was found
abbrev pub greater_found : Option Candidate → Option Candidate → Option Candidate
greater_found best None = best
greater_found best (Some candidate) = Some (greater_of best candidate)

-- the entry shows nothing above the candidate
abbrev pub is_up_to : Candidate → Sealed → Bool
is_up_to candidate sealed = not (is_below candidate.stamp (latest sealed.history.candidates))

-- these entries, where they make a quorum, and else those
abbrev pub if_quorum : ℕ → List Sealed → List Sealed → List Sealed
if_quorum bounds entries others = if nat_le (quorum bounds) (length entries) then entries else others

-- the entries that show nothing above the candidate, where a quorum of them is left, and else all of them
abbrev pub entries_up_to : ℕ → Option Candidate → List Sealed → List Sealed
entries_up_to bounds None entries = entries
entries_up_to bounds (Some candidate) entries = if_quorum bounds (filter (is_up_to candidate) entries) entries

-- the same, up to the greatest candidate of an order that may be repaired
abbrev pub trimmed_set : ℕ → SetOf → SetOf
trimmed_set bounds set = record {
  object = set.object;
  entries = entries_up_to bounds (greatest_shown (histories set.entries) (repair bounds)) set.entries;
}

-- each object by itself
unfoldable pub trimmed : ℕ → List SetOf → List SetOf
trimmed bounds sets = map (trimmed_set bounds) sets
