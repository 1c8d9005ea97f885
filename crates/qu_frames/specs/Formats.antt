-- The formats of what is asked for, and of frames.
use Rattle.std.specs.Prelude.{ℕ, Bool, true, ◌==◌, ◌&&◌, ◌||◌, ◌-◌, ◌^◌, ◌+◌, nat_lt, nat_le, List, ◌++◌, map, Option, None, Some}
use Rattle.std.specs.Int.{w8, w64}
use Rattle.qu_base.specs.declared.bad_text.Why.TheVariants.{Kind, Order, Range}
use Rattle.qu_base.specs.declared.party.ClientId.{ClientId}
use Rattle.qu_base.specs.declared.party.ObjectId.{ObjectId}
use Rattle.qu_base.specs.declared.party.ReplicaId.{ReplicaId}
use Rattle.qu_base.specs.Format.{Format, number, bytes, both, tested, made, either, items, counted, tagged, object_form, replica_form, client_form}
use Rattle.qu_stamp.specs.declared.stamp.Stamp.{Stamp}
use Rattle.qu_stamp.specs.Formats.{plain_stamp_form}
use Rattle.qu_objects.specs.declared.act.Method.{Method}
use Rattle.qu_objects.specs.declared.query.Ask.{Ask}
use Rattle.qu_objects.specs.declared.state.ObjState.{ObjState}
use Rattle.qu_base.specs.Texts.{word_form}
use Rattle.qu_objects.specs.Formats.{is_one_of, act_form, query_form}
use Rattle.qu_objects.specs.States.{state_form}
use Rattle.qu_history.specs.declared.sealed.Sealed.{Sealed}
use Rattle.qu_history.specs.declared.sets.SetOf.{SetOf}
use Rattle.qu_history.specs.Formats.{sets_form, shown_form}
use Rattle.qu_frames.specs.declared.frame.Body.{Body}
use Rattle.qu_frames.specs.declared.frame.Body.TheVariants as body
use Rattle.qu_frames.specs.declared.frame.Frame.{Frame}
use Rattle.qu_frames.specs.declared.frame.Frame.TheVariants.{Request, Reply, Fetch, Fetched}
use Rattle.qu_frames.specs.declared.limits.TheConstants.{LAST_ROUND, CULLED_LIMIT}
use Rattle.qu_verdicts.specs.declared.verdict.Verdict.{Verdict}
use Rattle.qu_verdicts.specs.Formats.{verdict_form}

-- ---- what is asked for

abbrev pub body_code : Body → ℕ
body_code (body.Act parts) = 1
body_code (body.Ask parts) = 2
body_code (body.Mend target) = 3

abbrev pub is_body_code : ℕ → Bool
is_body_code code = nat_le 1 code && nat_le code 3

abbrev pub act_parts : Body → Option (List (ObjectId × Method))
act_parts (body.Act parts) = Some parts
act_parts (body.Ask parts) = None
act_parts (body.Mend target) = None

abbrev pub ask_parts : Body → Option (List (ObjectId × Ask))
ask_parts (body.Act parts) = None
ask_parts (body.Ask parts) = Some parts
ask_parts (body.Mend target) = None

abbrev pub mend_target : Body → Option ObjectId
mend_target (body.Act parts) = None
mend_target (body.Ask parts) = None
mend_target (body.Mend target) = Some target

abbrev pub objects_in_sets : List SetOf → List ObjectId
objects_in_sets sets = map (λ set. set.object) sets

-- the object that is to be mended, one of these
abbrev pub target_form : List ObjectId → Format ObjectId
target_form objects = tested (is_one_of objects) Range object_form

abbrev pub body_of_code : List ObjectId → ℕ → Format Body
body_of_code objects code =
    either (code == 1) (made body.Act act_parts (act_form (is_one_of objects)))
    (either (code == 2) (made body.Ask ask_parts (query_form (is_one_of objects)))
    (made body.Mend mend_target (target_form objects)))

-- 1: an act; 2: a query; 3: a repair; of these objects
unfoldable pub body_form : List ObjectId → Format Body
body_form objects = tagged is_body_code body_code (body_of_code objects)

-- ---- frames

abbrev pub round_form : Format ℕ
round_form = number w8 1 LAST_ROUND

-- what was culled: an object and a replica
abbrev pub is_after_pair : Option (ObjectId × ReplicaId) → ObjectId × ReplicaId → Bool
is_after_pair None pair = true
is_after_pair (Some before) pair =
    nat_lt (before.0).0 (pair.0).0 || ((before.0).0 == (pair.0).0 && nat_lt (before.1).0 (pair.1).0)

abbrev pub spelled_pair : ObjectId × ReplicaId → List ℕ
spelled_pair pair = object_form.spell pair.0 ++ replica_form.spell pair.1

abbrev pub pair_after : Option (ObjectId × ReplicaId) → Format (ObjectId × ReplicaId)
pair_after before = tested (is_after_pair before) Order (both object_form (λ object. replica_form))

abbrev pub some_culled : Option (ObjectId × ReplicaId) → ℕ → Format (List (ObjectId × ReplicaId))
some_culled before count = items spelled_pair pair_after (λ pair. Some pair) before count

-- pairs that rise
unfoldable pub culled_form : Format (List (ObjectId × ReplicaId))
culled_form = counted (number w8 0 CULLED_LIMIT) spelled_pair pair_after (λ pair. Some pair) None

abbrev pub RequestFields : Type 0
RequestFields = ClientId × (ℕ × (ℕ × (List SetOf × (Body × List ℕ))))

abbrev pub request_fields : Frame → Option RequestFields
request_fields (Request client number round sets body mac) = Some (client, (number, (round, (sets, (body, mac)))))
request_fields _ = None

abbrev pub request_made : RequestFields → Frame
request_made (client, (number, (round, (sets, (body, mac))))) = Request client number round sets body mac

-- client, number from 1 on, round, sets, what is asked for, HMAC
abbrev pub request_form : Format RequestFields
request_form =
    both client_form (λ client. both (number w64 1 (2 ^ 64 - 1)) (λ number. both round_form (λ round.
    both sets_form (λ sets. both (body_form (objects_in_sets sets)) (λ body. bytes 32)))))

unfoldable pub request_frame : Format Frame
request_frame = made request_made request_fields request_form

abbrev pub ReplyFields : Type 0
ReplyFields = ReplicaId × (ClientId × (ℕ × (ℕ × (Verdict × (List (ObjectId × ReplicaId) × (List Sealed × List ℕ))))))

abbrev pub reply_fields : Frame → Option ReplyFields
reply_fields (Reply replica client number round verdict culled shown mac) =
    Some (replica, (client, (number, (round, (verdict, (culled, (shown, mac)))))))
reply_fields _ = None

abbrev pub reply_of : ReplyFields → Frame
reply_of (replica, (client, (number, (round, (verdict, (culled, (shown, mac))))))) =
    Reply replica client number round verdict culled shown mac

-- replica, client, number, round, verdict, what was culled, what is shown, HMAC
abbrev pub reply_form : Format ReplyFields
reply_form =
    both replica_form (λ replica. both client_form (λ client. both word_form (λ number. both round_form (λ round.
    both verdict_form (λ verdict. both culled_form (λ culled. both (shown_form replica) (λ shown. bytes 32)))))))

unfoldable pub reply_frame : Format Frame
reply_frame = made reply_of reply_fields reply_form

abbrev pub FetchFields : Type 0
FetchFields = ReplicaId × (ObjectId × (Stamp × List ℕ))

abbrev pub fetch_fields : Frame → Option FetchFields
fetch_fields (Fetch replica object stamp mac) = Some (replica, (object, (stamp, mac)))
fetch_fields _ = None

abbrev pub fetch_of : FetchFields → Frame
fetch_of (replica, (object, (stamp, mac))) = Fetch replica object stamp mac

-- replica, object, stamp of no barrier, HMAC
abbrev pub fetch_form : Format FetchFields
fetch_form =
    both replica_form (λ replica. both object_form (λ object. both plain_stamp_form (λ stamp. bytes 32)))

unfoldable pub fetch_frame : Format Frame
fetch_frame = made fetch_of fetch_fields fetch_form

abbrev pub FetchedFields : Type 0
FetchedFields = ReplicaId × (ObjectId × (Stamp × (ObjState × List ℕ)))

abbrev pub fetched_fields : Frame → Option FetchedFields
fetched_fields (Fetched replica object stamp state mac) = Some (replica, (object, (stamp, (state, mac))))
fetched_fields _ = None

abbrev pub fetched_of : FetchedFields → Frame
fetched_of (replica, (object, (stamp, (state, mac)))) = Fetched replica object stamp state mac

-- replica, object, stamp of no barrier, the object's state under this stamp, HMAC
abbrev pub fetched_form : Format FetchedFields
fetched_form =
    both replica_form (λ replica. both object_form (λ object. both plain_stamp_form (λ stamp.
    both state_form (λ state. bytes 32))))

unfoldable pub fetched_frame : Format Frame
fetched_frame = made fetched_of fetched_fields fetched_form

abbrev pub frame_kind : Frame → ℕ
frame_kind (Request client number round sets body mac) = 1
frame_kind (Reply replica client number round verdict culled shown mac) = 2
frame_kind (Fetch replica object stamp mac) = 3
frame_kind (Fetched replica object stamp state mac) = 4

abbrev pub is_version : ℕ → Bool
is_version version = version == 1

abbrev pub is_frame_kind : ℕ → Bool
is_frame_kind kind = nat_le 1 kind && nat_le kind 4

abbrev pub frame_body : ℕ → Format Frame
frame_body kind =
    either (kind == 1) request_frame
    (either (kind == 2) reply_frame
    (either (kind == 3) fetch_frame fetched_frame))

-- the kind, and a frame of it
unfoldable pub kind_form : Format Frame
kind_form =
    made (λ found. found.1) (λ frame. Some (frame_kind frame, frame))
    (both (tested is_frame_kind Kind (number w8 0 255)) frame_body)

-- the version, which is 1, and a frame of some kind
unfoldable pub frame_form : Format Frame
frame_form =
    made (λ found. found.1) (λ frame. Some (1, frame))
    (both (tested is_version Kind (number w8 0 255)) (λ version. kind_form))
