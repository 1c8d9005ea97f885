-- The class of an object by the histories that some replicas showed of it (Query/Update: classification).
use Rattle.std.specs.Prelude.{ℕ, Bool, true, false, not, ◌==◌, ◌&&◌, nat_le, if◌then◌else◌, List, find, Option, None, Some}
use Rattle.std.specs.List.{list_all, list_any}
use Rattle.std.specs.Option.{option_map}
use Rattle.qu_base.specs.Bounds.{quorum}
use Rattle.qu_base.specs.declared.party.ObjectId.{ObjectId}
use Rattle.qu_stamp.specs.declared.stamp.Stamp.{Stamp}
use Rattle.qu_stamp.specs.declared.candidate.Candidate.{Candidate}
use Rattle.qu_stamp.specs.Stamp.{same_stamp}
use Rattle.qu_stamp.specs.Group.{same_group}
use Rattle.qu_history.specs.History.{ObjectHistory}
use Rattle.qu_history.specs.declared.sets.SetOf.{SetOf}
use Rattle.qu_history.specs.Sets.{entries_of, order_of, latest_of}
use Rattle.qu_class.specs.declared.class.Class.{Class}
use Rattle.qu_class.specs.declared.class.Class.TheVariants.{Method, InlineMethod, Copy, InlineBarrier, Barrier, Needs}
use Rattle.qu_class.specs.Repairable.{barrier_candidate, object_base}

-- the candidate of class METHOD
abbrev pub method_of : Class → Option Candidate
method_of (Method candidate) = Some candidate
method_of _ = None

abbrev pub is_copy : Class → Bool
is_copy Copy = true
is_copy _ = false

-- no stamp is above that of the candidate
abbrev pub is_latest : List ObjectHistory → Candidate → Bool
is_latest entries candidate = same_stamp candidate.stamp (latest_of entries)

-- a quorum holds it
abbrev pub is_full : ℕ → List ObjectHistory → Candidate → Bool
is_full bounds entries candidate = nat_le (quorum bounds) (order_of candidate entries)

-- where the object candidate, which has this stamp, is not the latest
unfoldable pub barrier_class : ℕ → List ObjectHistory → Stamp → Option Candidate → Class
barrier_class bounds entries prior None = Barrier prior
barrier_class bounds entries prior (Some barrier) =
    if is_latest entries barrier && is_full bounds entries barrier then Copy
    else if is_latest entries barrier then InlineBarrier barrier
    else Barrier prior

-- the first that fits, by the histories of the object alone
unfoldable pub class_of : ℕ → List ObjectHistory → Class
class_of bounds entries =
    let base = object_base bounds entries in
    if is_latest entries base && is_full bounds entries base then Method base
    else if is_latest entries base then InlineMethod base
    else barrier_class bounds entries base.stamp (barrier_candidate bounds entries)

-- ---- candidates that were accepted together are repaired together

abbrev pub is_in_sets : List SetOf → ObjectId → Bool
is_in_sets sets object = list_any (λ set. (set.object).0 == object.0) sets

-- the stamp that a candidate's group lists: the members share client, act and sets
abbrev pub listed_stamp : Candidate → ObjectId × ℕ → Stamp
listed_stamp candidate member = record candidate.stamp { time = member.1 }

-- the candidate has this stamp, and this whole group
abbrev pub is_of_group : Candidate → Stamp → List (ObjectId × ℕ) → Bool
is_of_group candidate stamp group = same_stamp candidate.stamp stamp && same_group candidate.group group

-- where the latest of these entries is the object candidate, and has this stamp and this whole group
abbrev pub agrees : ℕ → List ObjectHistory → Stamp → List (ObjectId × ℕ) → Bool
agrees bounds entries stamp group =
    let base = object_base bounds entries in is_latest entries base && is_of_group base stamp group

abbrev pub all_agree : ℕ → List SetOf → Candidate → Bool
all_agree bounds sets candidate =
    list_all (λ member. agrees bounds (entries_of member.0 sets) (listed_stamp candidate member) candidate.group)
    candidate.group

-- the lowest member that is not in the sets
abbrev pub first_absent : List SetOf → List (ObjectId × ℕ) → Option ObjectId
first_absent sets group = option_map (λ member. member.0) (find (λ member. not (is_in_sets sets member.0)) group)

-- what is added as it is, if all members agree. The sets have to show all of them
unfoldable pub inline_class : ℕ → List SetOf → Candidate → Class
inline_class bounds sets base = elim (first_absent sets base.group) [
  | Some object ↦ Needs object
  | None ↦ if all_agree bounds sets base then InlineMethod base else Barrier base.stamp
]

-- no other class asks for the members
unfoldable pub with_members : ℕ → List SetOf → Class → Class
with_members bounds sets (InlineMethod base) = inline_class bounds sets base
with_members bounds sets (Method base) = Method base
with_members bounds sets Copy = Copy
with_members bounds sets (InlineBarrier barrier) = InlineBarrier barrier
with_members bounds sets (Barrier prior) = Barrier prior
with_members bounds sets (Needs object) = Needs object

-- the class of an object in the sets
unfoldable pub class_in : ℕ → List SetOf → ObjectId → Class
class_in bounds sets object = with_members bounds sets (class_of bounds (entries_of object sets))
