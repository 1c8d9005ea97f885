-- What is tracked in a run: each candidate that some replica accepted, with the event after which it
-- was decided.
use Rattle.std.specs.Prelude.{◌≡◌, ℕ, Bool, ◌+◌, ◌==◌, ◌&&◌, ◌||◌, if◌then◌else◌, List, [], ◌∷◌, ◌++◌, Option, None, Some, is_some, is_none, OnSome, All, ◌<◌, nat_le, count_by, IsTrue, not}
use Rattle.std.specs.List.{list_any}
use Rattle.qu_base.specs.declared.party.ObjectId.{ObjectId}
use Rattle.qu_stamp.specs.declared.candidate.Candidate.{Candidate}
use Rattle.qu_stamp.specs.Stamp.{same_stamp}
use Rattle.qu_stamp.specs.Candidate.{same}
use Rattle.qu_trace.specs.declared.trace.Trace.{Trace}
use Rattle.qu_world.specs.State.{WorldState}
use Rattle.qu_claims.specs.Accepted.{accepts, is_accepted}
use Rattle.qu_claims.specs.Times.{world_after}
use Rattle.qu_base.specs.Bounds.{quorum}
use Rattle.qu_claims.specs.Decided.{IsDecided}
use Rattle.qu_world.specs.Run.{IsRun}
use Rattle.qu_claims.specs.RunSetting.{setting}
use Rattle.qu_known.specs.declared.tracked.Tracked.{Tracked}
use Rattle.qu_known.specs.Tracked.{is_tracked, undecided}
use Rattle.qu_known.specs.Known.{ShownRow, knows}

-- ---- what is new

-- with another one, which is tracked once
unfoldable pub with_tracked : Tracked → List Tracked → List Tracked
with_tracked new tracked = if is_tracked new.object new.candidate tracked then tracked else tracked ++ undecided
    new.object new.candidate ∷ []

unfoldable pub with_all : List Tracked → List Tracked → List Tracked
with_all [] tracked = tracked
with_all (new ∷ later) tracked = with_all later (with_tracked new tracked)

-- ---- what is decided in a world, by the rules that mark it

-- established without barrier: with b more, those that accepted it make a quorum
abbrev pub is_established : WorldState → ObjectId → Candidate → Bool
is_established world object candidate =
    not candidate.stamp.barrier
    && nat_le (quorum world.setup.bounds) (count_by (accepts object candidate) world.replicas + world.setup.bounds)

-- decided: established without barrier, or the accepted prior of a decided candidate
pub data IsDecidedIn (world : WorldState) (object : ObjectId) : Candidate → Type 0 where
  by_acceptors : (candidate : Candidate) → IsTrue (is_accepted world object candidate)
      → IsTrue (is_established world object candidate) → IsDecidedIn world object candidate
  as_prior : (candidate child : Candidate) → IsDecidedIn world object child → child.prior ≡ candidate.stamp
      → IsTrue (is_accepted world object candidate) → IsDecidedIn world object candidate

-- ---- what is marked

-- whether the other one is decided and rests upon this one
abbrev pub is_child : Tracked → Tracked → Bool
is_child tracked other =
    is_some other.decided && ((other.object).0 == (tracked.object).0 && same_stamp other.candidate.prior
    tracked.candidate.stamp)

-- whether an undecided one is to be decided by one of the rules
unfoldable pub is_next : WorldState → List Tracked → Tracked → Bool
is_next world all tracked =
    is_none tracked.decided && (is_established world tracked.object tracked.candidate || list_any
    (is_child tracked) all)

-- the same by what is known of the replicas
abbrev pub is_known_established : ℕ → List ShownRow → ObjectId → Candidate → Bool
is_known_established bounds rows object candidate =
    not candidate.stamp.barrier
    && nat_le (quorum bounds) (count_by (knows object candidate) rows + bounds)

unfoldable pub is_next_known : ℕ → List ShownRow → List Tracked → Tracked → Bool
is_next_known bounds rows all tracked =
    is_none tracked.decided
    && (is_known_established bounds rows tracked.object tracked.candidate || list_any (is_child tracked) all)

-- the mark of a candidate, after the marks of this event were made
abbrev pub SettlesTo : WorldState → ℕ → ObjectId → Candidate → Option ℕ → Option ℕ → Type 0
SettlesTo world event object candidate (Some earlier) new = new ≡ Some earlier
SettlesTo world event object candidate None None = ¬ (IsDecidedIn world object candidate)
SettlesTo world event object candidate None (Some now) = (now ≡ event) × IsDecidedIn world object candidate

pub record IsSettled (world : WorldState) (event : ℕ) (old new : Tracked) : Type 0 where
  pub object : new.object ≡ old.object
  pub candidate : new.candidate ≡ old.candidate
  pub mark : SettlesTo world event old.object old.candidate old.decided new.decided

-- what is marked is decided in this world
abbrev pub IsDecidedMark : WorldState → Tracked → Type 0
IsDecidedMark world tracked = OnSome tracked.decided (IsDecidedIn world tracked.object tracked.candidate)

-- tracked are those that some replica accepted
abbrev pub AreAccepted : WorldState → List Tracked → Type 0
AreAccepted world tracked =
    (object : ObjectId) (candidate : Candidate) → is_tracked object candidate tracked ≡ is_accepted world object
    candidate

-- ---- over a run

-- the mark of a candidate tells after which of the events before this one it was first decided
abbrev pub TellsFirst : Trace → ℕ → ObjectId → Candidate → Option ℕ → Type 0
TellsFirst trace end object candidate None =
    (event : ℕ) → event < end → ¬ (IsDecided (setting trace) event object candidate)
TellsFirst trace end object candidate (Some event) =
    (event < end) × IsDecided (setting trace) event object candidate
    × ((earlier : ℕ) → earlier < event → ¬ (IsDecided (setting trace) earlier object candidate))

abbrev pub TellsOf : Trace → ℕ → Tracked → Type 0
TellsOf trace end tracked = TellsFirst trace end tracked.object tracked.candidate tracked.decided

-- what is tracked after so many events of a run
pub record Tracks (trace : Trace) (count : ℕ) (tracked : List Tracked) : Type 0 where
  pub run : IsRun trace
  pub accepted : AreAccepted (world_after trace count) tracked
  pub marks : All (TellsOf trace (count + 1)) tracked
