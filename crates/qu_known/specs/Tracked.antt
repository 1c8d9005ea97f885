-- What is tracked: candidates of objects that replicas accepted.
use Rattle.std.specs.Prelude.{Bool, ◌==◌, ◌&&◌, List, None}
use Rattle.std.specs.List.{list_any}
use Rattle.qu_base.specs.declared.party.ObjectId.{ObjectId}
use Rattle.qu_stamp.specs.declared.candidate.Candidate.{Candidate}
use Rattle.qu_stamp.specs.Candidate.{same}
use Rattle.qu_known.specs.declared.tracked.Tracked.{Tracked}

-- whether this candidate of this object is the tracked one
abbrev pub is_tracked_as : ObjectId → Candidate → Tracked → Bool
is_tracked_as object candidate tracked = (tracked.object).0 == object.0 && same tracked.candidate candidate

unfoldable pub is_tracked : ObjectId → Candidate → List Tracked → Bool
is_tracked object candidate tracked = list_any (is_tracked_as object candidate) tracked

-- a candidate of which nothing is known but that it was accepted
abbrev pub undecided : ObjectId → Candidate → Tracked
undecided object candidate = record { object = object; candidate = candidate; decided = None }
