-- The order of candidates, by stamp, then prior, then group; and the members of their groups.
use Rattle.std.specs.Prelude.{Bool, ◌&&◌, ◌||◌, [], Option}
use Rattle.std.specs.Option.{option_map}
use Rattle.qu_base.specs.declared.party.ObjectId.{ObjectId}
use Rattle.qu_stamp.specs.declared.stamp.Stamp.{Stamp}
use Rattle.qu_stamp.specs.declared.candidate.Candidate.{Candidate}
use Rattle.qu_stamp.specs.Stamp.{opening_stamp, is_below, same_stamp}
use Rattle.qu_stamp.specs.Group.{listed_time, is_group_below, same_group}

-- the candidate with which each object begins
abbrev pub opening : Candidate
opening = record { stamp = opening_stamp; prior = opening_stamp; group = [] }

-- where the stamps are one, the prior decides, and then the group
abbrev pub is_based_below : Candidate → Candidate → Bool
is_based_below a b = is_below a.prior b.prior || (same_stamp a.prior b.prior && is_group_below a.group b.group)

abbrev pub is_before : Candidate → Candidate → Bool
is_before a b = is_below a.stamp b.stamp || (same_stamp a.stamp b.stamp && is_based_below a b)

abbrev pub same : Candidate → Candidate → Bool
same a b = same_stamp a.stamp b.stamp && (same_stamp a.prior b.prior && same_group a.group b.group)

-- the stamp that its group has on an object: the members share client, act and sets
unfoldable pub member : Candidate → ObjectId → Option Stamp
member candidate object =
    option_map (λ time. record candidate.stamp { time = time }) (listed_time object candidate.group)
