-- What one text of a request says, each text with the same bytes before its HMAC says.
use Rattle.std.proofs.Common.{◌≡◌, ℕ, Bool, cond, ◌+◌, ◌-◌, ◌<◌, ◌≤◌, List, ◌++◌, length, take, None, Some, Ok, refl, sym, ap, subst, ◌∙◌, arith}
use Rattle.std.specs.Int.{w8, to_be_bytes}
use Rattle.std.proofs.lemmas.Bool.{ltb-false}
use Rattle.std.proofs.lemmas.List.{length-append, length-drop, length-take-le, take-append-drop}
use Rattle.qu_base.specs.declared.party.ClientId.{ClientId}
use Rattle.qu_base.specs.declared.party.Digest.{Digest}
use Rattle.qu_base.specs.declared.party.Party.{Party}
use Rattle.qu_base.specs.declared.party.Party.TheVariants as party
use Rattle.qu_base.specs.Format.{AreBytes}
use Rattle.qu_base.proofs.Formats.{not_refused}
use Rattle.qu_seal.specs.declared.constants.TheConstants.{FRAME_TAG}
use Rattle.qu_seal.specs.Digesting.{digest_of}
use Rattle.qu_seal.specs.Keys.{Ring, verifies}
use Rattle.qu_history.specs.declared.sets.SetOf.{SetOf}
use Rattle.qu_frames.specs.declared.limits.TheConstants.{TEXT_LIMIT}
use Rattle.qu_frames.specs.declared.frame.Body.{Body}
use Rattle.qu_frames.specs.declared.frame.Frame.{Frame}
use Rattle.qu_frames.specs.declared.frame.Frame.TheVariants.{Request, Reply, Fetch, Fetched}
use Rattle.qu_frames.specs.Formats.{frame_form}
use Rattle.qu_frames.specs.Decoding.{decoded}
use Rattle.qu_frames.specs.Signing.{mac_of, with_mac, before_mac, text_digest, is_signed, if_signed, brought}
use Rattle.qu_frames.specs.Reading.{own_mac, ReadRequest, request_with, IsReadRequest}
use Rattle.qu_frames.proofs.Decoded.{decoded_is_spelled, spelled_is_decoded}
use Rattle.qu_frames.proofs.Signed.{fields_of, spelled_fields, without, text_with, fits_with, mac_fits}

decoded_few : (text : List ℕ) (frame : Frame) → decoded text ≡ Ok frame → length text ≤ TEXT_LIMIT
unfolding decoded
decoded_few text frame given = ltb-false _ _ (not_refused _ _ _ frame given).0

-- a frame begins with its version
version_first : (frame : Frame) → (rest : List ℕ) × (fields_of frame ≡ to_be_bytes w8 1 ++ rest)
unfolding fields_of
version_first (Request client number round sets body mac) = (_, refl)
version_first (Reply replica client number round verdict culled shown mac) = (_, refl)
version_first (Fetch replica object stamp mac) = (_, refl)
version_first (Fetched replica object stamp state mac) = (_, refl)

fields_some : (frame : Frame) → 0 < length (fields_of frame)
fields_some frame =
    let first = version_first frame in
    let all : length (fields_of frame) ≡ length (to_be_bytes w8 1) + length first.0 =
    ap length first.1 ∙ length-append (to_be_bytes w8 1) first.0 in
    let one : length (to_be_bytes w8 1) ≡ 1 = refl in
    omega (arith, all, one)

module _ (text : List ℕ) (frame : Frame) (fit : AreBytes text) (given : decoded text ≡ Ok frame) where
  front_is : before_mac text ≡ fields_of frame
  front_is =
      let spelled = decoded_is_spelled text frame fit given in
      ap before_mac (spelled.1 ∙ spelled_fields frame)
      ∙ without (fields_of frame) (mac_of frame) (mac_fits frame spelled.0)

  front_some : 0 < length (before_mac text)
  front_some = subst (λ (it : List ℕ). 0 < length it) (sym front_is) (fields_some frame)

  text_sized : length text ≡ length (fields_of frame) + 32
  text_sized =
      let spelled = decoded_is_spelled text frame fit given in
      let all : length text ≡ length (fields_of frame) + length (mac_of frame) =
      ap length (spelled.1 ∙ spelled_fields frame) ∙ length-append (fields_of frame) (mac_of frame) in
      let size : length (mac_of frame) ≡ 32 = mac_fits frame spelled.0 in
      omega (arith, all, size)

  -- a text with the same bytes before its HMAC is as long
  same_sized : (other : List ℕ) → before_mac other ≡ before_mac text → length other ≡ length (fields_of frame) + 32
  same_sized other same =
      let count : length (take (length other - 32) other) ≡ length other - 32 =
      length-take-le (length other - 32) other (omega arith) in
      let fields : length (take (length other - 32) other) ≡ length (fields_of frame) = ap length (same ∙ front_is) in
      let some : 0 < length (fields_of frame) = fields_some frame in
      omega (arith, count, fields, some)

  pub said_long : (other : List ℕ) → before_mac other ≡ before_mac text → 32 ≤ length other
  said_long other same = omega (arith, same_sized other same)

  -- and is decoded to the frame with its own HMAC
  pub said_again : (other : List ℕ) → before_mac other ≡ before_mac text
      → decoded other ≡ Ok (with_mac frame (own_mac other))
  said_again other same =
      let spelled = decoded_is_spelled text frame fit given in
      let long : length other ≡ length (fields_of frame) + 32 = same_sized other same in
      let dropped : length (own_mac other) ≡ length other - (length other - 32) =
      length-drop (length other - 32) other in
      let size : length (own_mac other) ≡ 32 = omega (arith, long, dropped) in
      let is : other ≡ frame_form.spell (with_mac frame (own_mac other)) =
      sym (take-append-drop (length other - 32) other)
      ∙ ap (λ (front : List ℕ). front ++ own_mac other) (same ∙ ap before_mac spelled.1)
      ∙ text_with frame (own_mac other) (mac_fits frame spelled.0) in
      let sized : length text ≡ length (fields_of frame) + 32 = text_sized in
      let text_few : length text ≤ TEXT_LIMIT = decoded_few text frame given in
      let few : length other ≤ TEXT_LIMIT = omega (arith, long, sized, text_few) in
      ap decoded is
      ∙ spelled_is_decoded (with_mac frame (own_mac other)) (fits_with frame (own_mac other) spelled.0 size)
      (subst (λ (it : List ℕ). length it ≤ TEXT_LIMIT) is few)

-- a text that is decoded to a request is read, and so is what is made of the text's parts
pub request_is_read : (text front : List ℕ) (digest : Digest) (client : ClientId) (number round : ℕ)
    (sets others : List SetOf) (body : Body) (mac : List ℕ) → AreBytes text
    → decoded text ≡ Ok (Request client number round sets body mac) → front ≡ before_mac text
    → digest ≡ text_digest text → others ≡ sets
    → (digest ≡ record { 0 = digest_of FRAME_TAG front }) × IsReadRequest (record {
      front = front;
      client = client;
      number = number;
      round = round;
      sets = others;
      body = body;
    })
unfolding text_digest
request_is_read text front digest client number round sets others body mac fit given front_is digest_is sets_are =
    let frame : Frame = Request client number round sets body mac in
    let whole : IsReadRequest (record {
      front = before_mac text;
      client = client;
      number = number;
      round = round;
      sets = sets;
      body = body;
    }) =
    record { some = front_some text frame fit given; decoded = said_again text frame fit given } in (
      digest_is ∙ ap (λ (it : List ℕ). record { 0 = digest_of FRAME_TAG it }) (sym front_is),
      subst (λ (it : List ℕ × List SetOf). IsReadRequest (record {
        front = it.0;
        client = client;
        number = number;
        round = round;
        sets = it.1;
        body = body;
      })) (λ i. (sym front_is i, sym sets_are i)) whole,
    )

-- a text that says the request brings it where its own HMAC is right
pub brought_by : (ring : Ring) (me : Party) (read : ReadRequest) (digest : Digest) (text : List ℕ) (right : Bool)
    → IsReadRequest read → digest ≡ record { 0 = digest_of FRAME_TAG read.front } → before_mac text ≡ read.front
    → right ≡ verifies ring (party.Client read.client) me digest (own_mac text)
    → brought ring me text ≡ cond right (Some (request_with read (own_mac text))) None
unfolding brought is_signed text_digest
brought_by ring me read digest text right is digest_is same right_is =
    let frame : Frame = request_with read (own_mac text) in
    let digested : text_digest text ≡ digest =
    ap (λ (front : List ℕ). record { 0 = digest_of FRAME_TAG front }) same ∙ sym digest_is in
    let signed : is_signed ring me text frame ≡ right =
    ap (λ (it : Digest). verifies ring (party.Client read.client) me it (own_mac text)) digested ∙ sym right_is in
    ap (if_signed ring me text) (is.decoded text same)
    ∙ ap (λ (it : Bool). cond it (Some frame) None) signed
