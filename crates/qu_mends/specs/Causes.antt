-- Why each answer to a request to mend an object comes.
use Rattle.std.specs.Prelude.{ℕ, ◌≡◌, true, false, ◌<◌, ◌≤◌, ◌⊎◌, List, [], ◌∷◌, length, find, Option, None, Some, is_some, IsSome}
use Rattle.std.specs.List.{AllByRecursion, list_any}
use Rattle.qu_base.specs.declared.party.ObjectId.{ObjectId}
use Rattle.qu_stamp.specs.declared.stamp.Stamp.{Stamp}
use Rattle.qu_stamp.specs.declared.limits.TheConstants.{LAST_TIME}
use Rattle.qu_stamp.specs.declared.candidate.Candidate.{Candidate}
use Rattle.qu_stamp.specs.Stamp.{is_below}
use Rattle.qu_history.specs.declared.limits.TheConstants.{HISTORY_LIMIT}
use Rattle.qu_history.specs.History.{latest, holds}
use Rattle.qu_history.specs.declared.sets.SetOf.{SetOf}
use Rattle.qu_history.specs.Sets.{entries_of, latest_of}
use Rattle.qu_objects.specs.declared.state.ObjState.{ObjState}
use Rattle.qu_kept.specs.Performing.{copied_state}
use Rattle.qu_verdicts.specs.declared.verdict.Refusal.{Refusal}
use Rattle.qu_verdicts.specs.declared.verdict.Refusal.TheVariants.{HistoryFull, Thin, Needs, Stale, NotCurrent, NotMethod, Spent, TimeSpent, UnknownObject, Sound}
use Rattle.qu_kept.specs.declared.remedy.Remedy.{Remedy}
use Rattle.qu_kept.specs.declared.remedy.Remedy.TheVariants.{Nothing, Shown, Fresh, Unshown, Unplanned, Outdated}
use Rattle.qu_mends.specs.declared.mend.Mend.{Mend}
use Rattle.qu_mends.specs.declared.mending.Mending.{Mending}
use Rattle.qu_mends.specs.declared.mending.Mending.TheVariants.{Mends, Holds, Refuses, Waits}
use Rattle.qu_mends.specs.declared.accepted.Accepted.{Accepted}
use Rattle.qu_mends.specs.Remedy.{MendPart, fresh_repair, missing_key}
use Rattle.qu_mends.specs.Table.{has_no_room}
use Rattle.qu_mends.specs.Mending.{is_late, is_spent, missing_in}

-- a candidate may be made on the object, above all that the sets show of it
abbrev pub HasTime : List SetOf → ObjectId × ℕ → Type 0
HasTime sets member = (latest_of (entries_of member.0 sets)).time < LAST_TIME

-- what may be added at the end of the own candidates, above which the sets show the latest
pub record MayBeAdded (part : MendPart) (candidate : Candidate) : Type 0 where
  pub current : is_below part.latest (latest part.own) ≡ false
  pub above : is_below (latest part.own) candidate.stamp ≡ true
  pub room : length part.own < HISTORY_LIMIT

-- the remedy makes this candidate: one that is shown is left as it is, and no other has a time after the last
abbrev pub MakesCandidate : Mend → Stamp → Remedy → Candidate → Type 0
MakesCandidate mend latest (Shown shown) candidate = (candidate ≡ shown) × (shown.stamp.time ≤ LAST_TIME)
MakesCandidate mend latest (Fresh barrier prior) candidate = (candidate ≡ fresh_repair mend latest barrier prior)
    × (latest.time < LAST_TIME)
MakesCandidate mend latest _ candidate = ⊥

-- what is added to the object has a version, if the replica is to have one: that which was found under the wanted
-- stamp, or a copy's, which is made of it
abbrev pub AddsVersion : ObjectId → Candidate → Remedy → Option ObjState → Option ObjState → Type 0
AddsVersion object candidate (Shown shown) version stored =
    (shown.stamp.barrier ≡ false → IsSome version) × (stored ≡ None)
AddsVersion object candidate (Fresh true prior) version stored = stored ≡ None
AddsVersion object candidate (Fresh false prior) version stored =
    (before : ObjState) × (version ≡ Some before) × (stored ≡ Some (copied_state object candidate before))
AddsVersion object candidate _ version stored = ⊥

-- the replica's latest candidate is above the sets, or what would be added is not above it
abbrev pub IsBehind : Mend → MendPart → Type 0
IsBehind mend part =
    (is_below part.latest (latest part.own) ≡ true)
    ⊎ ((candidate : Candidate) × MakesCandidate mend part.latest part.remedy candidate
    × (is_below (latest part.own) candidate.stamp ≡ false))

-- what would be added would have a time after the last
abbrev pub IsSpent : Stamp → Remedy → Type 0
IsSpent latest (Shown shown) = LAST_TIME < shown.stamp.time
IsSpent latest (Fresh barrier prior) = LAST_TIME ≤ latest.time
IsSpent latest _ = ⊥

-- the remedy adds a candidate, and makes no barrier
abbrev pub AddsPlain : Remedy → Type 0
AddsPlain (Shown candidate) = Unit {0}
AddsPlain (Fresh barrier prior) = barrier ≡ false
AddsPlain _ = ⊥

-- the target is mended alone, or a candidate is added to each object
abbrev pub ArePartsOf : Mend → List MendPart → Type 0
ArePartsOf mend parts = AllByRecursion (λ part. (part.remedy ≡ mend.remedy) ⊎ AddsPlain part.remedy) parts

-- no other refusal answers a request to mend an object that is known, with a quorum of histories. The first object is
-- named to which it applies.
abbrev pub RefusesFor : Mend → List MendPart → Refusal → Type 0
RefusesFor mend parts (NotCurrent object stamp) =
    (part : MendPart) × (find (is_late mend) parts ≡ Some part) × (object ≡ part.object) × (stamp ≡ latest part.own)
    × IsBehind mend part
RefusesFor mend parts (Sound object) = (object ≡ mend.target) × (mend.remedy ≡ Nothing)
RefusesFor mend parts (TimeSpent object) =
    ((part : MendPart) × (find (is_spent mend) parts ≡ Some part) × (object ≡ part.object)
    × IsSpent part.latest part.remedy)
    ⊎ ((object ≡ mend.target) × IsSpent mend.latest mend.remedy)
RefusesFor mend parts (HistoryFull object) =
    (part : MendPart) × (find (λ it. has_no_room it.own) parts ≡ Some part) × (object ≡ part.object)
    × (HISTORY_LIMIT ≤ length part.own)
RefusesFor mend parts (Thin object) = ⊥
RefusesFor mend parts (Needs object) = (mend.remedy ≡ Unshown object) ⊎ (mend.remedy ≡ Unplanned object)
RefusesFor mend parts (Stale object) = mend.remedy ≡ Outdated object
RefusesFor mend parts (NotMethod object class) = ⊥
RefusesFor mend parts (Spent object number) = ⊥
RefusesFor mend parts (UnknownObject object) = ⊥

-- what is accepted on the object is made by its remedy, may be added, and has its version
pub record IsPartAdded (mend : Mend) (part : MendPart) (accepted : Accepted) : Type 0 where
  pub object : accepted.object ≡ part.object
  pub makes : MakesCandidate mend part.latest part.remedy accepted.candidate
  pub may : MayBeAdded part accepted.candidate
  pub version : AddsVersion part.object accepted.candidate part.remedy part.version accepted.state

-- on each object
abbrev pub ArePartsAdded : Mend → List MendPart → List Accepted → Type 0
ArePartsAdded mend [] [] = Unit {0}
ArePartsAdded mend [] (accepted ∷ more) = ⊥
ArePartsAdded mend (part ∷ parts) [] = ⊥
ArePartsAdded mend (part ∷ parts) (accepted ∷ more) = IsPartAdded mend part accepted × ArePartsAdded mend parts more

-- what the remedy makes of the object is held
abbrev pub IsPartHeld : Mend → MendPart → Type 0
IsPartHeld mend part =
    (candidate : Candidate) × MakesCandidate mend part.latest part.remedy candidate × (holds candidate part.own ≡ true)

-- the stamp is of what is made of the target
abbrev pub IsToldOf : Mend → Stamp → Type 0
IsToldOf mend stamp =
    (candidate : Candidate) × MakesCandidate mend mend.latest mend.remedy candidate × (candidate.stamp ≡ stamp)

abbrev pub HasCause : Mend → List MendPart → Mending → Type 0
HasCause mend parts (Mends stamp accepted) = IsToldOf mend stamp × ArePartsAdded mend parts accepted
HasCause mend parts (Holds stamp) = IsToldOf mend stamp × AllByRecursion (IsPartHeld mend) parts
HasCause mend parts (Refuses why) = RefusesFor mend parts why
HasCause mend parts (Waits missing) =
    (missing ≡ missing_in parts) × (list_any (λ part. is_some (missing_key part)) parts ≡ true)
