-- What may be copied on an object. A candidate that was accepted together with one on another object is skipped where
-- that object has gone on without it.
use Rattle.std.specs.Prelude.{ℕ, Bool, false, not, ◌==◌, ◌&&◌, List, filter, Option, None, Some, unwrap_or}
use Rattle.std.specs.List.{list_any}
use Rattle.qu_base.specs.declared.party.ObjectId.{ObjectId}
use Rattle.qu_stamp.specs.declared.stamp.Stamp.{Stamp}
use Rattle.qu_stamp.specs.declared.candidate.Candidate.{Candidate}
use Rattle.qu_stamp.specs.Stamp.{is_below}
use Rattle.qu_stamp.specs.Candidate.{opening}
use Rattle.qu_history.specs.declared.sets.SetOf.{SetOf}
use Rattle.qu_history.specs.Sets.{entries_of, candidates_of, greatest, method_at}
use Rattle.qu_class.specs.Class.{listed_stamp}
use Rattle.qu_plan.specs.Linking.{Linking}
use Rattle.qu_plan.specs.Linked.{is_passed}
use Rattle.qu_plan.specs.Beside.{is_repairable}

-- the version of the other object is above this stamp of it, and does not link the object to this stamp or a later one
unfoldable pub passes_over : Linking → ObjectId → ObjectId → Stamp → Option Candidate → Bool
passes_over link object other stamp None = false
passes_over link object other stamp (Some version) =
    is_below stamp version.stamp && is_passed stamp (link other version.stamp object)

-- the member's object is another one, of class METHOD, and passed over the member
abbrev pub is_passed_at : ℕ → List SetOf → Linking → ObjectId → Candidate → ObjectId × ℕ → Bool
is_passed_at bounds sets link object candidate member =
    not ((member.0).0 == object.0)
    && passes_over link object member.0 (listed_stamp candidate member) (method_at bounds (entries_of member.0 sets))

-- at some member of its group
unfoldable pub is_skipped : ℕ → List SetOf → Linking → ObjectId → Candidate → Bool
is_skipped bounds sets link object candidate =
    list_any (is_passed_at bounds sets link object candidate) candidate.group

abbrev pub may_be_chosen : ℕ → List SetOf → Linking → ObjectId → Candidate → Bool
may_be_chosen bounds sets link object candidate =
    is_repairable bounds sets object candidate && not (is_skipped bounds sets link object candidate)

-- the greatest of them, if there is one
unfoldable pub greatest_chosen : ℕ → List SetOf → Linking → ObjectId → Option Candidate
greatest_chosen bounds sets link object =
    greatest (filter (may_be_chosen bounds sets link object) (candidates_of (entries_of object sets)))

-- what a copy copies: where there is a quorum of histories there is one, since all of them hold the opening candidate,
-- which has no group
unfoldable pub chosen_on : ℕ → List SetOf → Linking → ObjectId → Candidate
chosen_on bounds sets link object = unwrap_or (greatest_chosen bounds sets link object) opening
