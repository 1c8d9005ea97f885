-- The fields of a frame, put one behind the other.
use Rattle.std.proofs.Common.{◌≡◌, ℕ, List, ◌++◌, append_assoc, ap, ◌∙◌}
use Rattle.std.specs.Int.{w8, w16, w64, to_be_bytes}
use Rattle.qu_base.specs.declared.party.ClientId.{ClientId}
use Rattle.qu_base.specs.declared.party.ObjectId.{ObjectId}
use Rattle.qu_base.specs.declared.party.ReplicaId.{ReplicaId}
use Rattle.qu_stamp.specs.declared.stamp.Stamp.{Stamp}
use Rattle.qu_stamp.specs.Formats.{plain_stamp_form}
use Rattle.qu_objects.specs.declared.state.ObjState.{ObjState}
use Rattle.qu_objects.specs.States.{state_form}
use Rattle.qu_history.specs.declared.sealed.Sealed.{Sealed}
use Rattle.qu_history.specs.declared.sets.SetOf.{SetOf}
use Rattle.qu_history.specs.Formats.{sets_form, shown_form}
use Rattle.qu_frames.specs.declared.frame.Body.{Body}
use Rattle.qu_frames.specs.declared.frame.Frame.{Frame}
use Rattle.qu_frames.specs.declared.frame.Frame.TheVariants.{Request, Reply, Fetch, Fetched}
use Rattle.qu_verdicts.specs.declared.verdict.Verdict.{Verdict}
use Rattle.qu_frames.specs.Formats.{objects_in_sets, body_form, culled_form, request_frame, reply_frame, fetch_frame, fetched_frame, kind_form, frame_form}
use Rattle.qu_verdicts.specs.Formats.{verdict_form}
use Rattle.qu_frames.specs.Signing.{mac_of}

pub three_pieces : (a b c start one two end : List ℕ) → one ≡ start ++ a → two ≡ one ++ b → end ≡ two ++ c
    → end ≡ start ++ (a ++ (b ++ c))
three_pieces a b c start one two end first second third = rw (third, second, first) (simp append_assoc)

-- a kind, three fields together, and three more
request_pieces : (a b c d e f g start one two three end : List ℕ) → one ≡ start ++ a → two ≡ one ++ (b ++ (c ++ d))
    → three ≡ two ++ e → end ≡ three ++ f → end ++ g ≡ start ++ (a ++ (b ++ (c ++ (d ++ (e ++ (f ++ g))))))
request_pieces a b c d e f g start one two three end first second third fourth =
    rw (fourth, third, second, first) (simp append_assoc)

-- a kind and one field, three fields together, and four more
reply_pieces : (a b c d e f g h i start one two three four five end : List ℕ) → one ≡ start ++ a → two ≡ one ++ b
    → three ≡ two ++ (c ++ (d ++ e)) → four ≡ three ++ f → five ≡ four ++ g → end ≡ five ++ h
    → end ++ i ≡ start ++ (a ++ (b ++ (c ++ (d ++ (e ++ (f ++ (g ++ (h ++ i))))))))
reply_pieces a b c d e f g h i start one two three four five end first second third fourth fifth sixth =
    rw (sixth, fifth, fourth, third, second, first) (simp append_assoc)

pub request_written : (client : ClientId) (number round : ℕ) (sets : List SetOf) (asked : Body)
    (mac start one two three end : List ℕ) → one ≡ start ++ to_be_bytes w8 1
    → two ≡ one ++ (to_be_bytes w16 client.0 ++ (to_be_bytes w64 number ++ to_be_bytes w8 round))
    → three ≡ two ++ sets_form.spell sets → end ≡ three ++ (body_form (objects_in_sets sets)).spell asked
    → end ++ mac ≡ start ++ kind_form.spell (Request client number round sets asked mac)
unfolding kind_form request_frame
request_written client number round sets asked mac start one two three end first second third fourth =
    request_pieces (to_be_bytes w8 1) (to_be_bytes w16 client.0) (to_be_bytes w64 number) (to_be_bytes w8 round)
    (sets_form.spell sets) ((body_form (objects_in_sets sets)).spell asked) mac start one two three end first second
    third fourth

pub reply_written : (replica : ReplicaId) (client : ClientId) (number round : ℕ) (verdict : Verdict)
    (culled : List (ObjectId × ReplicaId)) (shown : List Sealed) (mac start one two three four five end : List ℕ)
    → one ≡ start ++ to_be_bytes w8 2 → two ≡ one ++ to_be_bytes w8 replica.0
    → three ≡ two ++ (to_be_bytes w16 client.0 ++ (to_be_bytes w64 number ++ to_be_bytes w8 round))
    → four ≡ three ++ verdict_form.spell verdict → five ≡ four ++ culled_form.spell culled
    → end ≡ five ++ (shown_form replica).spell shown
    → end ++ mac ≡ start ++ kind_form.spell (Reply replica client number round verdict culled shown mac)
unfolding kind_form reply_frame
reply_written replica client number round verdict culled shown mac start one two three four five end first second
    third fourth fifth sixth =
    reply_pieces (to_be_bytes w8 2) (to_be_bytes w8 replica.0) (to_be_bytes w16 client.0) (to_be_bytes w64 number)
    (to_be_bytes w8 round) (verdict_form.spell verdict) (culled_form.spell culled) ((shown_form replica).spell shown)
    mac start one two three four five end first second third fourth fifth sixth

-- four fields
pub four_pieces : (a b c d start one two three end : List ℕ) → one ≡ start ++ a → two ≡ one ++ b → three ≡ two ++ c
    → end ≡ three ++ d → end ≡ start ++ (a ++ (b ++ (c ++ d)))
four_pieces a b c d start one two three end first second third fourth =
    rw (fourth, third, second, first) (simp append_assoc)

-- four fields together, and one more
fetch_pieces : (a b c d e start end : List ℕ) → end ≡ start ++ (a ++ (b ++ (c ++ d)))
    → end ++ e ≡ start ++ (a ++ (b ++ (c ++ (d ++ e))))
fetch_pieces a b c d e start end first = rw first (simp append_assoc)

-- four fields together, and two more
fetched_pieces : (a b c d e f start one end : List ℕ) → one ≡ start ++ (a ++ (b ++ (c ++ d))) → end ≡ one ++ e
    → end ++ f ≡ start ++ (a ++ (b ++ (c ++ (d ++ (e ++ f)))))
fetched_pieces a b c d e f start one end first second = rw (second, first) (simp append_assoc)

-- a kind, a replica, an object and a stamp
abbrev pub version_with : ℕ → ReplicaId → ObjectId → Stamp → List ℕ
version_with kind replica object stamp =
    to_be_bytes w8 kind ++ (to_be_bytes w8 replica.0 ++ (to_be_bytes w16 object.0 ++ plain_stamp_form.spell stamp))

pub fetch_written : (replica : ReplicaId) (object : ObjectId) (stamp : Stamp) (mac start end : List ℕ)
    → end ≡ start ++ version_with 3 replica object stamp
    → end ++ mac ≡ start ++ kind_form.spell (Fetch replica object stamp mac)
unfolding kind_form fetch_frame
fetch_written replica object stamp mac start end written =
    fetch_pieces (to_be_bytes w8 3) (to_be_bytes w8 replica.0) (to_be_bytes w16 object.0)
    (plain_stamp_form.spell stamp) mac start end written

pub fetched_written : (replica : ReplicaId) (object : ObjectId) (stamp : Stamp) (state : ObjState)
    (mac start one end : List ℕ) → one ≡ start ++ version_with 4 replica object stamp
    → end ≡ one ++ state_form.spell state
    → end ++ mac ≡ start ++ kind_form.spell (Fetched replica object stamp state mac)
unfolding kind_form fetched_frame
fetched_written replica object stamp state mac start one end first second =
    fetched_pieces (to_be_bytes w8 4) (to_be_bytes w8 replica.0) (to_be_bytes w16 object.0)
    (plain_stamp_form.spell stamp) (state_form.spell state) mac start one end first second

-- the version, and what comes behind it
pub frame_written : (frame : Frame) (start one two end : List ℕ) → one ≡ start ++ to_be_bytes w8 1
    → two ++ mac_of frame ≡ one ++ kind_form.spell frame → end ≡ two ++ mac_of frame
    → end ≡ start ++ frame_form.spell frame
unfolding frame_form
frame_written frame start one two end first second third =
    third ∙ second ∙ ap (λ (text : List ℕ). text ++ kind_form.spell frame) first
    ∙ append_assoc start (to_be_bytes w8 1) (kind_form.spell frame)
