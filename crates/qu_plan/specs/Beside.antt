-- Candidates that may be repaired, and what was accepted together with them.
use Rattle.std.specs.Prelude.{ℕ, Bool, false, ◌==◌, ◌&&◌, ◌||◌, List}
use Rattle.std.specs.List.{list_any}
use Rattle.qu_base.specs.Bounds.{repair}
use Rattle.qu_base.specs.declared.party.ObjectId.{ObjectId}
use Rattle.qu_stamp.specs.declared.candidate.Candidate.{Candidate}
use Rattle.qu_history.specs.declared.sets.SetOf.{SetOf}
use Rattle.qu_history.specs.Sets.{entries_of}
use Rattle.qu_class.specs.Class.{is_copy, class_in}
use Rattle.qu_class.specs.Repairable.{is_shown_of_kind}

-- without barrier, and of an order that may be repaired
abbrev pub is_repairable : ℕ → List SetOf → ObjectId → Candidate → Bool
is_repairable bounds sets object candidate =
    is_shown_of_kind false (repair bounds) (entries_of object sets) candidate

abbrev pub has_member : ObjectId → Candidate → Bool
has_member object candidate = list_any (λ member. (member.0).0 == object.0) candidate.group

abbrev pub is_beside : ℕ → List SetOf → ObjectId → ObjectId → Candidate → Bool
is_beside bounds sets over object candidate =
    has_member object candidate && is_repairable bounds sets over candidate

-- a candidate that may be repaired was accepted together with one on this object
unfoldable pub reads : ℕ → List SetOf → ObjectId → ObjectId → Bool
reads bounds sets over object =
    list_any (λ entry. list_any (is_beside bounds sets over object) entry.candidates) (entries_of over sets)

-- what is chosen on this object decides the plan of the target: it may be copied with it
abbrev pub is_seen : ℕ → List SetOf → ObjectId → ObjectId → Bool
is_seen bounds sets target over =
    target.0 == over.0 || (is_copy (class_in bounds sets over) && reads bounds sets target over)
