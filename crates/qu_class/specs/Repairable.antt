-- The candidates of an object that so many entries hold that they may be repaired, and the greatest of them.
use Rattle.std.specs.Prelude.{ℕ, Bool, true, false, not, ◌&&◌, List, filter, Option, unwrap_or}
use Rattle.qu_base.specs.Bounds.{repair}
use Rattle.qu_stamp.specs.declared.candidate.Candidate.{Candidate}
use Rattle.qu_stamp.specs.Candidate.{opening}
use Rattle.qu_history.specs.History.{ObjectHistory}
use Rattle.qu_history.specs.Sets.{candidates_of, greatest, object_candidate}
use Rattle.qu_history.specs.Trimming.{is_held_by}

-- a candidate with a barrier, or one without
abbrev pub is_of_kind : Bool → Candidate → Bool
is_of_kind true candidate = candidate.stamp.barrier
is_of_kind false candidate = not candidate.stamp.barrier

-- and so many of the entries hold it
abbrev pub is_shown_of_kind : Bool → ℕ → List ObjectHistory → Candidate → Bool
is_shown_of_kind barrier least entries candidate = is_of_kind barrier candidate && is_held_by entries least candidate

-- the greatest of them
unfoldable pub greatest_of_kind : Bool → ℕ → List ObjectHistory → Option Candidate
greatest_of_kind barrier least entries =
    greatest (filter (is_shown_of_kind barrier least entries) (candidates_of entries))

-- the greatest barrier of an order that may be repaired
abbrev pub barrier_candidate : ℕ → List ObjectHistory → Option Candidate
barrier_candidate bounds entries = greatest_of_kind true (repair bounds) entries

-- the object candidate, upon which a barrier or a copy rests: where there is a quorum of histories there is one,
-- since all of them hold the opening one
unfoldable pub object_base : ℕ → List ObjectHistory → Candidate
object_base bounds entries = unwrap_or (object_candidate bounds entries) opening
