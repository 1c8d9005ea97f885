-- How frames are told.
use Rattle.std.specs.Prelude.{ℕ, List, [], ◌∷◌, ◌++◌, length, Result, Ok, Err, codes}
use Rattle.std.specs.List.{flat_map}
use Rattle.std.specs.Fmt.{decimal}
use Rattle.qu_base.specs.declared.bad_text.BadText.{BadText}
use Rattle.qu_base.specs.declared.party.ClientId.{ClientId}
use Rattle.qu_base.specs.declared.party.ObjectId.{ObjectId}
use Rattle.qu_base.specs.declared.party.ReplicaId.{ReplicaId}
use Rattle.qu_base.specs.declared.party.Party.TheVariants.{Replica}
use Rattle.qu_stamp.specs.declared.stamp.Stamp.{Stamp}
use Rattle.qu_objects.specs.declared.state.ObjState.{ObjState}
use Rattle.qu_history.specs.declared.sealed.Sealed.{Sealed}
use Rattle.qu_history.specs.declared.sets.SetOf.{SetOf}
use Rattle.qu_frames.specs.declared.frame.Body.{Body}
use Rattle.qu_frames.specs.declared.frame.Body.TheVariants.{Act, Ask, Mend}
use Rattle.qu_frames.specs.declared.frame.Frame.{Frame}
use Rattle.qu_frames.specs.declared.frame.Frame.TheVariants.{Request, Reply, Fetch, Fetched}
use Rattle.qu_print.specs.Words.{name_text, value_text}
use Rattle.qu_listed.specs.Names.{party_text, object_text, count_text}
use Rattle.qu_listed.specs.Verdicts.{stamp_text, verdict_text}

-- ---- what a request shows

abbrev pub body_text : Body → List ℕ
body_text (Act act) = codes "act"
body_text (Ask query) = codes "query"
body_text (Mend target) = codes "mend " ++ object_text target

abbrev pub shower_text : Sealed → List ℕ
shower_text sealed = codes " " ++ decimal ((sealed.history).replica).0

-- the replicas whose histories a set has
abbrev pub showers_text : List Sealed → List ℕ
showers_text [] = codes " none"
showers_text (first ∷ later) = flat_map shower_text (first ∷ later)

abbrev pub set_text : SetOf → List ℕ
set_text set = codes ", " ++ object_text set.object ++ codes " shown by" ++ showers_text set.entries

-- ---- what a reply tells beside its verdict

abbrev pub culled_text : ObjectId × ReplicaId → List ℕ
culled_text pair = codes ", culled " ++ object_text pair.0 ++ codes " of " ++ party_text (Replica pair.1)

abbrev pub shown_text : Sealed → List ℕ
shown_text sealed =
    codes ", shows " ++ object_text (sealed.history).object
    ++ codes " with " ++ count_text (length (sealed.history).candidates) (codes "candidate")

-- ---- versions

abbrev pub version_text : ObjectId → Stamp → List ℕ
version_text object stamp = object_text object ++ codes " at " ++ stamp_text stamp

-- the value, of how many clients something is kept, and how many links there are
abbrev pub state_text : ObjState → List ℕ
state_text state =
    codes ", " ++ value_text state.value
    ++ codes ", " ++ count_text (length state.kept) (codes "client")
    ++ codes ", " ++ count_text (length state.links) (codes "link")

-- ---- frames

-- operation and round
abbrev pub asked_text : ClientId → ℕ → ℕ → List ℕ
asked_text client number round = name_text client number ++ codes " round " ++ decimal round ++ codes ", "

unfoldable pub frame_text : Frame → List ℕ
frame_text (Request client number round sets body mac) =
    codes "request " ++ asked_text client number round ++ body_text body ++ flat_map set_text sets
frame_text (Reply replica client number round verdict culled shown mac) =
    codes "reply " ++ asked_text client number round ++ verdict_text verdict
    ++ flat_map culled_text culled ++ flat_map shown_text shown
frame_text (Fetch replica object stamp mac) = codes "fetch " ++ version_text object stamp
frame_text (Fetched replica object stamp state mac) =
    codes "fetched " ++ version_text object stamp ++ state_text state

-- what a text is decoded to
abbrev pub carried_text : Result Frame BadText → List ℕ
carried_text (Ok frame) = frame_text frame
carried_text (Err bad) = codes "no frame"
