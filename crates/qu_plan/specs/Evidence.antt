-- The versions whose links the plan of a copy reads.
use Rattle.std.specs.Prelude.{ℕ, Bool, ◌≡◌, if◌then◌else◌, List, filter_map, Option, None, Some}
use Rattle.std.specs.Option.{option_map}
use Rattle.std.specs.List.{AllByRecursion, list_any}
use Rattle.qu_base.specs.declared.party.ObjectId.{ObjectId}
use Rattle.qu_stamp.specs.declared.stamp.Stamp.{Stamp}
use Rattle.qu_stamp.specs.declared.candidate.Candidate.{Candidate}
use Rattle.qu_history.specs.declared.sets.SetOf.{SetOf}
use Rattle.qu_history.specs.Sets.{entries_of, method_at}
use Rattle.qu_plan.specs.Linking.{Linking}
use Rattle.qu_plan.specs.Beside.{reads, is_seen}

abbrev pub if_seen : ℕ → List SetOf → ObjectId → ObjectId → Option ObjectId
if_seen bounds sets target over = if is_seen bounds sets target over then Some over else None

unfoldable pub seen_for : ℕ → List SetOf → ObjectId → List ObjectId
seen_for bounds sets target = filter_map (λ (set : SetOf). if_seen bounds sets target set.object) sets

unfoldable pub is_read : ℕ → List SetOf → ObjectId → ObjectId → Bool
is_read bounds sets target object =
    list_any (λ over. reads bounds sets over object) (seen_for bounds sets target)

-- the version of class METHOD of an object, as object and stamp
abbrev pub method_key : ℕ → List SetOf → ObjectId → Option (ObjectId × Stamp)
method_key bounds sets object =
    option_map (λ (version : Candidate). (object, version.stamp)) (method_at bounds (entries_of object sets))

abbrev pub read_key : ℕ → List SetOf → ObjectId → ObjectId → Option (ObjectId × Stamp)
read_key bounds sets target object =
    if is_read bounds sets target object then method_key bounds sets object else None

-- the versions that the plan has to know, as object and stamp: one of an object, by rising object
unfoldable pub evidence_of : ℕ → List SetOf → ObjectId → List (ObjectId × Stamp)
evidence_of bounds sets target = filter_map (λ (set : SetOf). read_key bounds sets target set.object) sets

-- they tell the same
abbrev pub AreAlike : Linking → Linking → List (ObjectId × Stamp) → Type 0
AreAlike first second keys =
    AllByRecursion (λ (key : ObjectId × Stamp). (other : ObjectId) → first key.0 key.1 other ≡ second key.0 key.1 other)
    keys
