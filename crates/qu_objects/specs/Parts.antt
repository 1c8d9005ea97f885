-- What the parts of an operation may be: one or more of them, at most `MOST_PARTS`, on objects that rise and have
-- numbers, with no content or name longer than it may be.
use Rattle.std.specs.Prelude.{ℕ, Bool, true, ◌+◌, ◌&&◌, nat_lt, nat_le, List, [], ◌∷◌, length, map}
use Rattle.std.specs.List.{list_all}
use Rattle.qu_base.specs.declared.limits.TheConstants.{OBJECT_IDS, CONTENT_LIMIT, NAME_LIMIT}
use Rattle.qu_base.specs.declared.party.ObjectId.{ObjectId}
use Rattle.qu_objects.specs.declared.limits.TheConstants.{MOST_PARTS}
use Rattle.qu_objects.specs.declared.act.Method.{Method}
use Rattle.qu_objects.specs.declared.act.Method.TheVariants.{Add, Take, Put, Append, Link, Unlink}
use Rattle.qu_objects.specs.declared.query.Ask.{Ask}
use Rattle.qu_objects.specs.declared.query.Ask.TheVariants.{Read, Cat, Find, All}

-- an object that has a number, and is not below this one
abbrev pub is_object_from : ℕ → ObjectId → Bool
is_object_from least object = nat_le least object.0 && nat_lt object.0 OBJECT_IDS

-- objects that have numbers, and rise from this number on
unfoldable pub are_objects_from : ℕ → List ObjectId → Bool
are_objects_from least [] = true
are_objects_from least (object ∷ later) = is_object_from least object && are_objects_from (object.0 + 1) later

-- an operation has one part or more, at most `MOST_PARTS`
abbrev pub is_parts_count : ℕ → Bool
is_parts_count count = nat_le 1 count && nat_le count MOST_PARTS

abbrev pub are_parts : {X : Type 0} → List (ObjectId × X) → Bool
are_parts parts = is_parts_count (length parts) && are_objects_from 0 (map (λ part. part.0) parts)

-- what an update carries is no longer than it may be
abbrev pub is_sized_method : Method → Bool
is_sized_method (Add more) = true
is_sized_method (Take fewer) = true
is_sized_method (Put content) = nat_le (length content) CONTENT_LIMIT
is_sized_method (Append more) = nat_le (length more) CONTENT_LIMIT
is_sized_method (Link name number) = nat_le (length name) NAME_LIMIT
is_sized_method (Unlink name) = nat_le (length name) NAME_LIMIT

-- what an ask carries is no longer than it may be
abbrev pub is_sized_ask : Ask → Bool
is_sized_ask Read = true
is_sized_ask Cat = true
is_sized_ask (Find name) = nat_le (length name) NAME_LIMIT
is_sized_ask All = true

abbrev pub are_sized : {X : Type 0} → (X → Bool) → List (ObjectId × X) → Bool
are_sized test parts = list_all (λ part. test part.1) parts
