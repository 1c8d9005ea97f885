-- What is told of versions that replicas fetch: which requests wait, and whether what another replica sends counts.
use Rattle.std.specs.Prelude.{ℕ, Bool, true, false, ◌&&◌, if◌then◌else◌, List, [], ◌∷◌, ◌++◌, slice_get, Option, None, Some, is_some, Result, Ok, codes}
use Rattle.qu_base.specs.declared.party.ObjectId.{ObjectId}
use Rattle.qu_base.specs.declared.party.Party.{Party}
use Rattle.qu_base.specs.declared.party.Party.TheVariants as party
use Rattle.qu_base.specs.declared.bad_text.BadText.{BadText}
use Rattle.qu_stamp.specs.declared.stamp.Stamp.{Stamp}
use Rattle.qu_frames.specs.declared.frame.Frame.{Frame}
use Rattle.qu_frames.specs.declared.frame.Frame.TheVariants as frame
use Rattle.qu_frames.specs.declared.frame.Letter.{Letter}
use Rattle.qu_frames.specs.Decoding.{decoded}
use Rattle.qu_versions.specs.Versions.{version_at}
use Rattle.qu_rows.specs.State.{ReplicaState}
use Rattle.qu_waiting.specs.Waiting.{Waiting}
use Rattle.qu_waiting.specs.Slots.{first_waiting}
use Rattle.qu_waiting.specs.declared.counting.Counting.{Counting}
use Rattle.qu_waiting.specs.declared.counting.Counting.TheVariants.{NotFetched, OtherKind, Twice, Counted, Found}
use Rattle.qu_replica.specs.Step.{counting}
use Rattle.qu_trace.specs.declared.trace.Setup.{Setup}
use Rattle.qu_trace.specs.Faulty.{is_replica}
use Rattle.qu_print.specs.Words.{name_text}
use Rattle.qu_listed.specs.Receivers.{frame_taken}

-- ---- a request that waits

abbrev pub is_fetch_frame : Result Frame BadText → Bool
is_fetch_frame (Ok (frame.Fetch replica object stamp mac)) = true
is_fetch_frame _ = false

-- one replica asks another for a version
abbrev pub is_fetch : Letter → Bool
is_fetch letter = is_replica letter.from && is_replica letter.to && is_fetch_frame (decoded letter.text)

-- a request waits exactly where versions are fetched for it
abbrev pub waits_text : List Letter → List ℕ
waits_text [] = []
waits_text (letter ∷ later) = if is_fetch letter then codes ", waits" else []

-- ---- a version that is sent

-- the request that waits for the version is named by its client and number
abbrev pub wakes_text : Option Waiting → List ℕ
wakes_text None = []
wakes_text (Some waiting) = codes ", wakes " ++ name_text (waiting.request).client (waiting.request).number

-- what is found is stored where no version is held
abbrev pub found_text : ReplicaState → ObjectId → Stamp → List ℕ
found_text state object stamp =
    (if is_some (version_at object stamp state.versions) then codes ", counted, found, held"
    else codes ", counted, found")
    ++ wakes_text (first_waiting object stamp state.waiting)

abbrev pub counting_text : Counting → ReplicaState → ObjectId → Stamp → List ℕ
counting_text NotFetched state object stamp = codes ", not counted, not fetched"
counting_text OtherKind state object stamp = codes ", not counted, another kind"
counting_text Twice state object stamp = codes ", not counted, answered before"
counting_text Counted state object stamp = codes ", counted"
counting_text Found state object stamp = found_text state object stamp

-- what a replica in this state makes of a frame, beside its letters
abbrev pub frame_noted : ReplicaState → Option Frame → List ℕ
frame_noted state (Some (frame.Fetched replica object stamp version mac)) =
    counting_text (counting state replica object stamp version) state object stamp
frame_noted state _ = []

abbrev pub replica_noted : Option ReplicaState → Option Frame → List ℕ
replica_noted None taken = []
replica_noted (Some state) taken = frame_noted state taken

-- what a party makes of the text that it is offered
abbrev pub noted_text : Setup → List ReplicaState → Option (Party × List ℕ) → List ℕ
noted_text setup states None = []
noted_text setup states (Some (party.Client me, text)) = []
noted_text setup states (Some (party.Replica me, text)) =
    replica_noted (slice_get states me.0) (frame_taken setup (party.Replica me) text)
