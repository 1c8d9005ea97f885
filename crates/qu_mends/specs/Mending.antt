-- What a replica makes of a request to mend an object, row by row (Query/Update: repair).
use Rattle.std.specs.Prelude.{Bool, false, not, ◌||◌, if◌then◌else◌, List, [], ◌∷◌, find, Option, None, Some, is_none, is_some, option_map}
use Rattle.std.specs.List.{list_all, list_any, filter_map}
use Rattle.qu_base.specs.declared.party.ObjectId.{ObjectId}
use Rattle.qu_stamp.specs.declared.stamp.Stamp.{Stamp}
use Rattle.qu_stamp.specs.declared.candidate.Candidate.{Candidate}
use Rattle.qu_stamp.specs.Stamp.{is_below}
use Rattle.qu_history.specs.History.{latest, holds}
use Rattle.qu_verdicts.specs.declared.verdict.Refusal.{Refusal}
use Rattle.qu_verdicts.specs.declared.verdict.Refusal.TheVariants.{Needs, Stale, NotCurrent, Sound, TimeSpent, HistoryFull}
use Rattle.qu_mends.specs.declared.accepted.Accepted.{Accepted}
use Rattle.qu_kept.specs.declared.remedy.Remedy.{Remedy}
use Rattle.qu_kept.specs.declared.remedy.Remedy.TheVariants.{Nothing, Unshown, Unplanned, Outdated}
use Rattle.qu_mends.specs.declared.mend.Mend.{Mend}
use Rattle.qu_mends.specs.declared.mending.Mending.{Mending}
use Rattle.qu_mends.specs.declared.mending.Mending.TheVariants.{Mends, Holds, Refuses, Waits}
use Rattle.qu_mends.specs.Table.{first_given, has_no_room}
use Rattle.qu_kept.specs.Remedy.{stored_by}
use Rattle.qu_mends.specs.Remedy.{MendPart, addition_of, part_addition, missing_key}

-- there is no plan of the copy before more is known of an object, or of the target
abbrev pub unplanned_by : Remedy → Option Refusal
unplanned_by (Unplanned object) = Some (Needs object)
unplanned_by (Outdated object) = Some (Stale object)
unplanned_by _ = None

unfoldable pub mend_row_plan : Mend → Option Mending
mend_row_plan mend = option_map (λ why. Refuses why) (unplanned_by mend.remedy)

-- what would be added is held already
abbrev pub is_held_in : List Candidate → Option Candidate → Bool
is_held_in own None = false
is_held_in own (Some candidate) = holds candidate own

abbrev pub is_held_part : Mend → MendPart → Bool
is_held_part mend part = is_held_in part.own (part_addition mend part)

-- on all objects
unfoldable pub mend_row_held : Mend → List MendPart → Option Mending
mend_row_held mend parts =
    if list_all (is_held_part mend) parts then option_map (λ candidate. Holds candidate.stamp) (addition_of mend)
    else None

-- what would be added is not above what the replica has
abbrev pub is_overtaken : List Candidate → Option Candidate → Bool
is_overtaken own None = false
is_overtaken own (Some candidate) = not (is_below (latest own) candidate.stamp)

-- the replica has a later candidate than the sets show, or than what would be added
abbrev pub is_late : Mend → MendPart → Bool
is_late mend part = is_below part.latest (latest part.own) || is_overtaken part.own (part_addition mend part)

unfoldable pub mend_row_current : Mend → List MendPart → Option Mending
mend_row_current mend parts =
    option_map (λ part. Refuses (NotCurrent part.object (latest part.own))) (find (is_late mend) parts)

-- there is nothing to mend
abbrev pub sound_by : ObjectId → Remedy → Option Refusal
sound_by target Nothing = Some (Sound target)
sound_by target _ = None

unfoldable pub mend_row_sound : Mend → Option Mending
mend_row_sound mend = option_map (λ why. Refuses why) (sound_by mend.target mend.remedy)

-- the sets do not have a member of the group of what would be added
abbrev pub unshown_by : Remedy → Option Refusal
unshown_by (Unshown member) = Some (Needs member)
unshown_by _ = None

unfoldable pub mend_row_members : Mend → Option Mending
mend_row_members mend = option_map (λ why. Refuses why) (unshown_by mend.remedy)

-- the versions upon which the mend rests and that are missing
abbrev pub missing_in : List MendPart → List (ObjectId × Stamp)
missing_in parts = filter_map missing_key parts

unfoldable pub mend_row_version : List MendPart → Option Mending
mend_row_version parts =
    if list_any (λ part. is_some (missing_key part)) parts then Some (Waits (missing_in parts)) else None

-- what would be added would have a time after the last; no sets that are sent show such a candidate
abbrev pub is_spent : Mend → MendPart → Bool
is_spent mend part = is_none (part_addition mend part)

unfoldable pub mend_row_time : Mend → List MendPart → Option Mending
mend_row_time mend parts = option_map (λ part. Refuses (TimeSpent part.object)) (find (is_spent mend) parts)

-- the history of an object is full
unfoldable pub mend_row_full : List MendPart → Option Mending
mend_row_full parts =
    option_map (λ part. Refuses (HistoryFull part.object)) (find (λ part. has_no_room part.own) parts)

-- what is added on an object, with the version that is stored with it
abbrev pub accepted_part : Mend → MendPart → Option Accepted
accepted_part mend part =
    option_map (λ (candidate : Candidate).
    record {
      object = part.object;
      candidate = candidate;
      state = stored_by part.object candidate part.remedy part.version;
    })
    (part_addition mend part)

abbrev pub accepted_parts : Mend → List MendPart → List Accepted
accepted_parts mend parts = filter_map (accepted_part mend) parts

-- the candidates are added on all objects
unfoldable pub mend_row_mended : Mend → List MendPart → Option Mending
mend_row_mended mend parts =
    option_map (λ candidate. Mends candidate.stamp (accepted_parts mend parts)) (addition_of mend)

-- upon what the replica has of each object that is mended. Where no row fits, what is told of the target would have a
-- time after the last.
unfoldable pub decide_mend : Mend → List MendPart → Mending
decide_mend mend parts = first_given (Refuses (TimeSpent mend.target)) (
    mend_row_plan mend
    ∷ mend_row_held mend parts
    ∷ mend_row_current mend parts
    ∷ mend_row_sound mend
    ∷ mend_row_members mend
    ∷ mend_row_version parts
    ∷ mend_row_time mend parts
    ∷ mend_row_full parts
    ∷ mend_row_mended mend parts
    ∷ [])
