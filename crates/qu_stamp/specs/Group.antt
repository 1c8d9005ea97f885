-- Groups: the objects on which one operation makes candidates together, each with the time of its candidate there.
use Rattle.std.specs.Prelude.{ℕ, Bool, true, ◌+◌, ◌==◌, ◌&&◌, ◌||◌, nat_lt, nat_le, List, [], ◌∷◌, length, Option}
use Rattle.std.specs.List.{find}
use Rattle.std.specs.declared.cmp.Ordering.{Ordering}
use Rattle.std.specs.Option.{option_map}
use Rattle.std.specs.Ordering.{nat_cmp, ordering_then, is_lt}
use Rattle.std.specs.Cmp.Lexicographic.{slice_cmp, pointwise}
use Rattle.qu_base.specs.declared.limits.TheConstants.{OBJECT_IDS}
use Rattle.qu_base.specs.declared.party.ObjectId.{ObjectId}
use Rattle.qu_stamp.specs.declared.limits.TheConstants.{LAST_TIME}

-- a candidate stands alone, or with one to three others
abbrev pub is_group_size : ℕ → Bool
is_group_size count = count == 0 || (count == 2 || (count == 3 || count == 4))

-- an object that has a number and is not below this one, and the time of a candidate
abbrev pub is_member_from : ℕ → ObjectId × ℕ → Bool
is_member_from least member =
    nat_le least (member.0).0 && (nat_lt (member.0).0 OBJECT_IDS && (nat_le 1 member.1 && nat_le member.1 LAST_TIME))

-- objects that rise from this number on
unfoldable pub are_members_from : ℕ → List (ObjectId × ℕ) → Bool
are_members_from least [] = true
are_members_from least (member ∷ later) = is_member_from least member && are_members_from ((member.0).0 + 1) later

unfoldable pub is_group : List (ObjectId × ℕ) → Bool
is_group group = is_group_size (length group) && are_members_from 0 group

-- the time that a group lists for an object
unfoldable pub listed_time : ObjectId → List (ObjectId × ℕ) → Option ℕ
listed_time object group = option_map (λ member. member.1) (find (λ member. (member.0).0 == object.0) group)

-- members compare by object, and then by time
abbrev pub member_cmp : ObjectId × ℕ → ObjectId × ℕ → Ordering
member_cmp a b = ordering_then (nat_cmp (a.0).0 (b.0).0) (nat_cmp a.1 b.1)

-- groups compare by the first members that differ, and the one that ends first is below
abbrev pub group_cmp : List (ObjectId × ℕ) → List (ObjectId × ℕ) → Ordering
group_cmp a b = slice_cmp member_cmp a b

abbrev pub is_group_below : List (ObjectId × ℕ) → List (ObjectId × ℕ) → Bool
is_group_below a b = is_lt (group_cmp a b)

abbrev pub same_member : ObjectId × ℕ → ObjectId × ℕ → Bool
same_member a b = (a.0).0 == (b.0).0 && a.1 == b.1

abbrev pub same_group : List (ObjectId × ℕ) → List (ObjectId × ℕ) → Bool
same_group a b = pointwise same_member a b
