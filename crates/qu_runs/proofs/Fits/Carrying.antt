-- What is sent fits its format, and then what a letter carries is what was sent. A reply is decoded to no
-- request, and a request to no reply, whether they fit or not.
use Rattle.std.proofs.Common.{◌≡◌, ℕ, ◌+◌, ◌≤◌, ◌^◌, Bool, true, List, ◌++◌, length, Option, Some, Ok, refl, sym, ap, ◌∙◌, arith}
use Rattle.std.specs.Prelude.{slice_get}
use Rattle.std.specs.Int.{w8, to_be_bytes}
use Rattle.qu_base.specs.declared.bad_text.Why.TheVariants.{Kind}
use Rattle.qu_base.specs.declared.party.ClientId.{ClientId}
use Rattle.qu_base.specs.declared.party.ObjectId.{ObjectId}
use Rattle.qu_base.specs.declared.party.Party.{Party}
use Rattle.qu_base.specs.declared.party.Party.TheVariants as party
use Rattle.qu_base.specs.declared.party.ReplicaId.{ReplicaId}
use Rattle.qu_base.specs.Cursor.{Front}
use Rattle.qu_base.specs.Format.{Format, front_of, and_then, number, both, tested, made}
use Rattle.qu_base.proofs.Formats.{wide8, number-exact, tested-exact, and_then-ok}
use Rattle.qu_seal.specs.Keys.{Ring}
use Rattle.qu_history.specs.declared.sealed.Sealed.{Sealed}
use Rattle.qu_history.specs.declared.sets.SetOf.{SetOf}
use Rattle.qu_frames.specs.declared.frame.Body.{Body}
use Rattle.qu_frames.specs.declared.frame.Frame.{Frame}
use Rattle.qu_frames.specs.declared.frame.Frame.TheVariants as frame
use Rattle.qu_frames.specs.declared.frame.Letter.{Letter}
use Rattle.qu_verdicts.specs.declared.verdict.Verdict.{Verdict}
use Rattle.qu_frames.specs.Formats.{is_version, is_frame_kind, frame_kind, frame_body, request_form, request_fields, request_made, request_frame, reply_form, reply_fields, reply_of, reply_frame, kind_form, frame_form, fetch_fields, fetch_of, fetch_form, fetch_frame, fetched_fields, fetched_of, fetched_form, fetched_frame}
use Rattle.qu_frames.specs.Decoding.{decoded}
use Rattle.qu_frames.specs.Signing.{mac_of, with_mac, signature, signed}
use Rattle.qu_frames.proofs.Decoded.{decoded_is_read, one_frame}
use Rattle.qu_frames.proofs.Signed.{text_with, signed_is_spelled, brought_is_decoded}
use Rattle.qu_mends.specs.declared.accepted.Accepted.{Accepted}
use Rattle.qu_rows.specs.declared.decision.Decision.TheVariants.{Answers}
use Rattle.qu_rows.specs.Rows.{asked_at, decision_on}
use Rattle.qu_rows.specs.State.{ReplicaState}
use Rattle.qu_fitting.specs.Holding.{accept_all}
use Rattle.qu_replica.specs.Step.{answer_frame, handled, learned}
use Rattle.qu_client.specs.declared.state.ClientState.{ClientState}
use Rattle.qu_client.specs.declared.work.Work.{Work}
use Rattle.qu_client.specs.Rounds as rounds
use Rattle.qu_world.specs.State.{WorldState, numbered, letter_of}
use Rattle.qu_claims.specs.Carried.{Carries, Brings, Asks, Tells}
use Rattle.qu_waiting.specs.Waiting.{TakenRequest}

-- ---- a letter carries what was sent

-- a letter that was spelled of a frame that fits carries no other
pub carried_is : (letter : Letter) (sent other : Frame) → frame_form.Fits sent
    → letter.text ≡ frame_form.spell sent → Carries letter other → other ≡ sent
carried_is letter sent other fits spelled carries =
    one_frame sent other fits (ap decoded (sym spelled) ∙ carries)

-- nor one that was signed, but for the HMAC
pub signed_carries : (letter : Letter) (keys : Ring) (to : Party) (sent other : Frame) → frame_form.Fits sent
    → letter.text ≡ signed keys to sent → Carries letter other → other ≡ with_mac sent (signature keys to sent)
signed_carries letter keys to sent other fits spelled carries =
    let made = signed_is_spelled keys to sent fits in
    carried_is letter (with_mac sent (signature keys to sent)) other made.0 (spelled ∙ made.1) carries

-- a frame that is signed in the place of 32 bytes is spelled with its signature
pub signed_spelled : (keys : Ring) (to : Party) (sent : Frame) → length (mac_of sent) ≡ 32
    → signed keys to sent ≡ frame_form.spell (with_mac sent (signature keys to sent))
unfolding signed
signed_spelled keys to sent size = text_with sent (signature keys to sent) size

-- what is brought to a replica is decoded
pub brings_decoded : (state : ReplicaState) (text : List ℕ) (sent : Frame) → Brings state text sent
    → decoded text ≡ Ok sent
brings_decoded state text sent brings = brought_is_decoded state.keys (party.Replica state.me) text sent brings

-- what carries a request asks it
pub asks_so : (letter : Letter) (carried : Frame) (client : ClientId) (number round : ℕ) (sets : List SetOf)
    (body : Body) (mac : List ℕ)
    → Carries letter carried → carried ≡ frame.Request client number round sets body mac
    → Asks letter client number round sets body
asks_so letter carried client number round sets body mac carries is = record { mac = mac; carries = carries ∙ ap Ok is }

-- with equal fields
pub asks_as : (letter : Letter) (client other : ClientId) (number second round turn : ℕ) (sets : List SetOf)
    (body besides : Body)
    → client ≡ other → number ≡ second → round ≡ turn → body ≡ besides → Asks letter client number round sets body
    → Asks letter other second turn sets besides
asks_as letter client other number second round turn sets body besides same_client same_number same_round
    same_body asks = record {
      mac = asks.mac;
      carries = asks.carries
          ∙ (λ i. Ok (frame.Request (same_client i) (same_number i) (same_round i) sets (same_body i) asks.mac));
    }

pub tells_as : (letter : Letter) (replica : ReplicaId) (client other : ClientId) (number second round turn : ℕ)
    (verdict besides : Verdict) (shown : List Sealed)
    → client ≡ other → number ≡ second → round ≡ turn → verdict ≡ besides
    → Tells letter replica client number round verdict shown → Tells letter replica other second turn besides shown
tells_as letter replica client other number second round turn verdict besides shown same_client same_number
    same_round same_verdict tells = record {
      culled = tells.culled;
      mac = tells.mac;
      carries = tells.carries
          ∙ (λ i. Ok (frame.Reply replica (same_client i) (same_number i) (same_round i) (same_verdict i) tells.culled
          shown tells.mac));
    }

-- ---- what fits

-- what the client asks in the round under way, or asked in the last one where it rests, fits
abbrev pub AsksFit : ClientState → Type 0
AsksFit state = (work : Work) → state.work ≡ Some work → frame_form.Fits (rounds.request_of state.me work)

-- what the replica answers to a frame fits
abbrev pub AnswersFit : ReplicaState → Frame → Type 0
AnswersFit state received =
    (request : TakenRequest) → handled state received ≡ Some request → (verdict : Verdict) (accepted : List Accepted)
    → decision_on (learned state received)
    (asked_at (learned state received) request.client request.number request.sets request.body) request.body
    ≡ Answers verdict accepted
    → frame_form.Fits (answer_frame (accept_all (learned state received) accepted) request.client request.number
    request.round request.sets verdict)

-- what an event makes the parties send fits
pub record IsFitStep (old new : WorldState) : Type 0 where
  pub asks : (number : ℕ) (state : ClientState) → numbered new.clients number ≡ Some state → AsksFit state
  pub answers : (me : ReplicaId) (state : ReplicaState) → slice_get old.replicas me.0 ≡ Some state
      → (sent : Frame) → frame_form.Fits sent → AnswersFit state sent
  pub carried : (number : ℕ) (letter : Letter) (sent : Frame) → letter_of old number ≡ Some letter
      → Carries letter sent → frame_form.Fits sent

-- ---- kinds

-- the front behind a tag of one byte
abbrev behind_tag : ℕ → ℕ → List ℕ → Front
behind_tag tag place rest = record { place = place + length (to_be_bytes w8 tag); rest = rest }

tag_read : (test : ℕ → Bool) (tag : ℕ) (rest : List ℕ) (place : ℕ) → tag ≤ 255 → test tag ≡ true
    → (tested test Kind (number w8 0 255)).read (record { place = place; rest = to_be_bytes w8 tag ++ rest }) ≡ Ok
    (tag, behind_tag tag place rest)
tag_read test tag rest place few passes =
    (tested-exact test Kind (number w8 0 255) (number-exact w8 (2 ^ 8) 0 255 wide8 (omega arith))).only
    (record { place = place; rest = to_be_bytes w8 tag ++ rest }) (behind_tag tag place rest) tag
    (record { fits = ((omega arith, few), passes); takes = record { bytes = refl; place = refl } })

-- what is read behind a first field
both_after : {V W : Type 0} (first : Format V) (second : V → Format W) (front next : Front) (one : V)
    (found : (V × W) × Front)
    → first.read front ≡ Ok (one, next) → (both first second).read front ≡ Ok found → (second one).read next ≡ Ok
    ((found.0).1, found.1)
both_after {V = V} {W = W} first second front next one found read_first read_both =
    let after : and_then ((second one).read next) (λ two end. Ok ((one, two), end)) ≡ Ok found =
    ap (λ it. and_then it (λ (left : V) (rest : Front). and_then ((second left).read rest)
    (λ two end. Ok ((left, two), end)))) (sym read_first) ∙ read_both in
    let inner = and_then-ok ((second one).read next) (λ (two : W) (end : Front). Ok ((one, two), end)) found after in
    let same : ((one, (inner.0).0), (inner.0).1) ≡ found =
    (let is : Ok ((one, (inner.0).0), (inner.0).1) ≡ Ok found = inner.2 in cc) in
    inner.1 ∙ ap (λ (it : (V × W) × Front). Ok ((it.0).1, it.1)) same

-- what a value that was read is made of
record IsMade {V W : Type 0} (make : V → W) (form : Format V) (front : Front) (value : W) (end : Front) : Type 0 where
  found : V
  read : form.read front ≡ Ok (found, end)
  is : make found ≡ value

made_after : {V W : Type 0} (make : V → W) (part : W → Option V) (form : Format V) (front end : Front) (value : W)
    → (made make part form).read front ≡ Ok (value, end) → IsMade make form front value end
made_after {V = V} {W = W} make part form front end value given =
    let inner = and_then-ok (form.read front) (λ (found : V) (rest : Front). Ok (make found, rest))
    (value, end) given in
    let same : (make (inner.0).0, (inner.0).1) ≡ (value, end) =
    (let is : Ok (make (inner.0).0, (inner.0).1) ≡ Ok (value, end) = inner.2 in cc) in
    record {
      found = (inner.0).0;
      read = inner.1 ∙ ap (λ (it : W × Front). Ok ((inner.0).0, it.1)) same;
      is = ap (λ (it : W × Front). it.0) same;
    }

request_kind : (front end : Front) (other : Frame) → request_frame.read front ≡ Ok (other, end) → frame_kind other ≡ 1
unfolding request_frame
request_kind front end other read =
    ap frame_kind (sym (made_after request_made request_fields request_form front end other read).is)

reply_kind : (front end : Front) (other : Frame) → reply_frame.read front ≡ Ok (other, end) → frame_kind other ≡ 2
unfolding reply_frame
reply_kind front end other read =
    ap frame_kind (sym (made_after reply_of reply_fields reply_form front end other read).is)

fetch_kind : (front end : Front) (other : Frame) → fetch_frame.read front ≡ Ok (other, end) → frame_kind other ≡ 3
unfolding fetch_frame
fetch_kind front end other read =
    ap frame_kind (sym (made_after fetch_of fetch_fields fetch_form front end other read).is)

fetched_kind : (front end : Front) (other : Frame) → fetched_frame.read front ≡ Ok (other, end)
    → frame_kind other ≡ 4
unfolding fetched_frame
fetched_kind front end other read =
    ap frame_kind (sym (made_after fetched_of fetched_fields fetched_form front end other read).is)

-- a frame is read by the kind that stands before it
kind_read : (tag : ℕ) (rest : List ℕ) (end : Front) (other : Frame) → tag ≤ 255 → is_frame_kind tag ≡ true
    → frame_form.read (front_of (to_be_bytes w8 1 ++ (to_be_bytes w8 tag ++ rest))) ≡ Ok (other, end)
    → (frame_body tag).read (behind_tag tag (0 + length (to_be_bytes w8 1)) rest) ≡ Ok (other, end)
unfolding frame_form kind_form
kind_read tag rest end other few passes given =
    let text : List ℕ = to_be_bytes w8 tag ++ rest in
    let next : Front = behind_tag 1 0 text in
    let all : IsMade (λ (found : ℕ × Frame). found.1)
    (both (tested is_version Kind (number w8 0 255)) (λ version. kind_form))
    (front_of (to_be_bytes w8 1 ++ text)) other end =
    made_after (λ (found : ℕ × Frame). found.1) (λ frame. Some (1, frame))
    (both (tested is_version Kind (number w8 0 255)) (λ version. kind_form))
    (front_of (to_be_bytes w8 1 ++ text)) end other given in
    let of_kind : kind_form.read next ≡ Ok (other, end) =
    both_after (tested is_version Kind (number w8 0 255)) (λ version. kind_form)
    (front_of (to_be_bytes w8 1 ++ text)) next 1 (all.found, end)
    (tag_read is_version 1 text 0 (omega arith) refl) all.read ∙
    ap (λ (it : Frame). Ok (it, end)) all.is in
    let kinds : IsMade (λ (found : ℕ × Frame). found.1)
    (both (tested is_frame_kind Kind (number w8 0 255)) frame_body) next other end =
    made_after (λ (found : ℕ × Frame). found.1) (λ frame. Some (frame_kind frame, frame))
    (both (tested is_frame_kind Kind (number w8 0 255)) frame_body) next end other of_kind in
    both_after (tested is_frame_kind Kind (number w8 0 255)) frame_body next
    (behind_tag tag (0 + length (to_be_bytes w8 1)) rest) tag (kinds.found, end)
    (tag_read is_frame_kind tag rest (0 + length (to_be_bytes w8 1)) few passes) kinds.read ∙
    ap (λ (it : Frame). Ok (it, end)) kinds.is

-- what is decoded has the kind of what was spelled
pub same_kind : (sent other : Frame) → decoded (frame_form.spell sent) ≡ Ok other → frame_kind other ≡ frame_kind sent
unfolding frame_form kind_form
same_kind (frame.Request client number round sets body mac) other given =
    let read = decoded_is_read (frame_form.spell (frame.Request client number round sets body mac)) other given in
    request_kind _ read.0 other
    (kind_read 1 (request_frame.spell (frame.Request client number round sets body mac)) read.0 other
    (omega arith) refl read.1)
same_kind (frame.Reply replica client number round verdict culled shown mac) other given =
    let read = decoded_is_read
    (frame_form.spell (frame.Reply replica client number round verdict culled shown mac)) other given in
    reply_kind _ read.0 other
    (kind_read 2 (reply_frame.spell (frame.Reply replica client number round verdict culled shown mac)) read.0
    other (omega arith) refl read.1)
same_kind (frame.Fetch replica object stamp mac) other given =
    let read = decoded_is_read (frame_form.spell (frame.Fetch replica object stamp mac)) other given in
    fetch_kind _ read.0 other
    (kind_read 3 (fetch_frame.spell (frame.Fetch replica object stamp mac)) read.0 other (omega arith) refl read.1)
same_kind (frame.Fetched replica object stamp state mac) other given =
    let read = decoded_is_read (frame_form.spell (frame.Fetched replica object stamp state mac)) other given in
    fetched_kind _ read.0 other
    (kind_read 4 (fetched_frame.spell (frame.Fetched replica object stamp state mac)) read.0 other (omega arith)
    refl read.1)

not_one_kind : (left right : ℕ) → left ≡ 1 → right ≡ 2 → left ≡ right → ⊥
not_one_kind left right one two same = omega arith

other_kind : (left right : ℕ) → left ≡ 2 → right ≡ 1 → left ≡ right → ⊥
other_kind left right two one same = omega arith

pub no_request : (letter : Letter) (replica : ReplicaId) (to : ClientId) (number round : ℕ) (verdict : Verdict)
    (culled : List (ObjectId × ReplicaId)) (shown : List Sealed) (mac : List ℕ)
    → letter.text ≡ frame_form.spell (frame.Reply replica to number round verdict culled shown mac)
    → (client : ClientId) (asked turn : ℕ) (sets : List SetOf) (body : Body)
    → Asks letter client asked turn sets body → ⊥
no_request letter replica to number round verdict culled shown mac spelled client asked turn sets body asks =
    not_one_kind 1 2 refl refl (same_kind (frame.Reply replica to number round verdict culled shown mac)
    (frame.Request client asked turn sets body asks.mac) (ap decoded (sym spelled) ∙ asks.carries))

pub no_reply : (letter : Letter) (client : ClientId) (asked turn : ℕ) (sets : List SetOf) (body : Body) (mac : List ℕ)
    → letter.text ≡ frame_form.spell (frame.Request client asked turn sets body mac)
    → (replica : ReplicaId) (to : ClientId) (number round : ℕ) (verdict : Verdict) (shown : List Sealed)
    → Tells letter replica to number round verdict shown → ⊥
no_reply letter client asked turn sets body mac spelled replica to number round verdict shown tells =
    other_kind 2 1 refl refl
    (same_kind (frame.Request client asked turn sets body mac)
    (frame.Reply replica to number round verdict tells.culled shown tells.mac)
    (ap decoded (sym spelled) ∙ tells.carries))
