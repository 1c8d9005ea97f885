-- The first mark of an update: the event after which a candidate of it was first decided.
use Rattle.std.specs.Prelude.{ℕ, Bool, ◌==◌, ◌&&◌, if◌then◌else◌, List, [], ◌∷◌, Option, None, Some}
use Rattle.std.specs.Option.{option_eq}
use Rattle.qu_base.specs.declared.party.ClientId.{ClientId}
use Rattle.qu_base.specs.declared.party.Digest.{Digest}
use Rattle.qu_base.specs.declared.party.ObjectId.{ObjectId}
use Rattle.qu_stamp.specs.Stamp.{same_digest}
use Rattle.qu_objects.specs.declared.act.Method.{Method}
use Rattle.qu_trace.specs.Earliest.{earlier_of}
use Rattle.qu_claims.specs.Effects.{is_on}
use Rattle.qu_known.specs.declared.tracked.Tracked.{Tracked}

-- the candidate is one of the update of this client and these parts whose digest is `act`, on one of its objects
abbrev pub is_of_update : ClientId → List (ObjectId × Method) → Digest → Tracked → Bool
is_of_update client parts act tracked =
    is_on tracked.object parts
    && ((tracked.candidate.stamp.client).0 == client.0 && option_eq same_digest tracked.candidate.stamp.act (Some act))

-- the mark of the candidate, where it is one of this update
abbrev pub mark_of : ClientId → List (ObjectId × Method) → Digest → Tracked → Option ℕ
mark_of client parts act tracked = if is_of_update client parts act tracked then tracked.decided else None

-- the first event after which a candidate of this update was decided
unfoldable pub first_mark : ClientId → List (ObjectId × Method) → Digest → List Tracked → Option ℕ
first_mark client parts act [] = None
first_mark client parts act (tracked ∷ later) =
    earlier_of (mark_of client parts act tracked) (first_mark client parts act later)
