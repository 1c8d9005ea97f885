-- A signed text is that of the frame with its signature, and is decoded to it.
use Rattle.std.proofs.Common.{◌≡◌, ℕ, Bool, true, false, cond, ◌+◌, ◌-◌, ◌≤◌, List, ◌++◌, length, None, Some, Result, Ok, Err, refl, sym, ap, subst, ◌∙◌, arith, append_assoc}
use Rattle.std.specs.Int.{w8, w16, w64, to_be_bytes}
use Rattle.std.specs.Cmp.Lexicographic.{bytes_decides}
use Rattle.std.proofs.lemmas.Bool.{and_from, and_parts}
use Rattle.std.proofs.lemmas.List.{length-append, take_at}
use Rattle.std.proofs.lemmas.Option.{none-some, same_Some}
use Rattle.qu_base.specs.declared.bad_text.BadText.{BadText}
use Rattle.qu_seal.specs.declared.constants.TheConstants.{FRAME_TAG}
use Rattle.qu_base.specs.declared.party.Party.{Party}
use Rattle.qu_seal.specs.Digesting.{digest_of}
use Rattle.qu_seal.specs.Keys.{Ring, have_key, has_party, seal_of, verifies}
use Rattle.qu_seal.proofs.Lengths.{length-hmac}
use Rattle.qu_stamp.specs.Formats.{plain_stamp_form}
use Rattle.qu_objects.specs.States.{state_form}
use Rattle.qu_history.specs.Formats.{sets_form, shown_form}
use Rattle.qu_frames.specs.declared.limits.TheConstants.{TEXT_LIMIT}
use Rattle.qu_frames.specs.declared.frame.Frame.{Frame}
use Rattle.qu_frames.specs.declared.frame.Frame.TheVariants.{Request, Reply, Fetch, Fetched}
use Rattle.qu_frames.specs.Formats.{objects_in_sets, body_form, culled_form, request_frame, reply_frame, fetch_frame, fetched_frame, kind_form, frame_form}
use Rattle.qu_verdicts.specs.Formats.{verdict_form}
use Rattle.qu_frames.specs.Decoding.{decoded}
use Rattle.qu_frames.specs.Signing.{sender, mac_of, with_mac, before_mac, text_digest, signature, signed, is_signed, if_signed, brought}
use Rattle.qu_frames.proofs.Decoded.{spelled_is_decoded}

-- the bytes before the HMAC
unfoldable pub fields_of : Frame → List ℕ
fields_of (Request client number round sets asked mac) =
    to_be_bytes w8
    1 ++ (to_be_bytes w8
    1 ++ (to_be_bytes w16
    client.0 ++ (to_be_bytes w64
    number ++ (to_be_bytes w8 round ++ (sets_form.spell sets ++ (body_form (objects_in_sets sets)).spell asked)))))
fields_of (Reply replica client number round verdict culled shown mac) =
    to_be_bytes w8
    1 ++ (to_be_bytes w8
    2 ++ (to_be_bytes w8
    replica.0 ++ (to_be_bytes w16 client.0 ++ (to_be_bytes w64 number ++ (to_be_bytes w8 round ++
    (verdict_form.spell verdict ++ (culled_form.spell culled ++ (shown_form replica).spell shown)))))))
fields_of (Fetch replica object stamp mac) =
    to_be_bytes w8
    1 ++ (to_be_bytes w8
    3 ++ (to_be_bytes w8 replica.0 ++ (to_be_bytes w16 object.0 ++ plain_stamp_form.spell stamp)))
fields_of (Fetched replica object stamp state mac) =
    to_be_bytes w8
    1 ++ (to_be_bytes w8
    4 ++ (to_be_bytes w8
    replica.0 ++ (to_be_bytes w16 object.0 ++ (plain_stamp_form.spell stamp ++ state_form.spell state))))

five : (a b c d e f : List ℕ) → a ++ (b ++ (c ++ (d ++ (e ++ f)))) ≡ (a ++ (b ++ (c ++ (d ++ e)))) ++ f
five a b c d e f = simp append_assoc

six : (a b c d e f g : List ℕ)
    → a ++ (b ++ (c ++ (d ++ (e ++ (f ++ g))))) ≡ (a ++ (b ++ (c ++ (d ++ (e ++ f))))) ++ g
six a b c d e f g = simp append_assoc

seven : (a b c d e f g h : List ℕ)
    → a ++ (b ++ (c ++ (d ++ (e ++ (f ++ (g ++ h)))))) ≡ (a ++ (b ++ (c ++ (d ++ (e ++ (f ++ g)))))) ++ h
seven a b c d e f g h = simp append_assoc

nine : (a b c d e f g h i j : List ℕ) → a ++ (b ++ (c ++ (d ++ (e ++ (f ++ (g ++ (h ++ (i ++ j))))))))
    ≡ (a ++ (b ++ (c ++ (d ++ (e ++ (f ++ (g ++ (h ++ i)))))))) ++ j
nine a b c d e f g h i j = simp append_assoc

pub spelled_fields : (frame : Frame) → frame_form.spell frame ≡ fields_of frame ++ mac_of frame
unfolding frame_form kind_form request_frame reply_frame fetch_frame fetched_frame fields_of
spelled_fields (Request client number round sets asked mac) =
    seven (to_be_bytes w8 1) (to_be_bytes w8 1) (to_be_bytes w16 client.0) (to_be_bytes w64 number)
    (to_be_bytes w8 round) (sets_form.spell sets) ((body_form (objects_in_sets sets)).spell asked) mac
spelled_fields (Reply replica client number round verdict culled shown mac) =
    nine (to_be_bytes w8 1) (to_be_bytes w8 2) (to_be_bytes w8 replica.0) (to_be_bytes w16 client.0)
    (to_be_bytes w64 number) (to_be_bytes w8 round)
    (verdict_form.spell verdict) (culled_form.spell culled) ((shown_form replica).spell shown) mac
spelled_fields (Fetch replica object stamp mac) =
    five (to_be_bytes w8 1) (to_be_bytes w8 3) (to_be_bytes w8 replica.0) (to_be_bytes w16 object.0)
    (plain_stamp_form.spell stamp) mac
spelled_fields (Fetched replica object stamp state mac) =
    six (to_be_bytes w8 1) (to_be_bytes w8 4) (to_be_bytes w8 replica.0) (to_be_bytes w16 object.0)
    (plain_stamp_form.spell stamp) (state_form.spell state) mac

fields_with : (frame : Frame) (mac : List ℕ) → fields_of (with_mac frame mac) ≡ fields_of frame
unfolding fields_of
fields_with (Request client number round sets asked mac) other = refl
fields_with (Reply replica client number round verdict culled shown mac) other = refl
fields_with (Fetch replica object stamp mac) other = refl
fields_with (Fetched replica object stamp state mac) other = refl

mac_with : (frame : Frame) (mac : List ℕ) → mac_of (with_mac frame mac) ≡ mac
mac_with (Request client number round sets asked mac) other = refl
mac_with (Reply replica client number round verdict culled shown mac) other = refl
mac_with (Fetch replica object stamp mac) other = refl
mac_with (Fetched replica object stamp state mac) other = refl

pub without : (fields mac : List ℕ) → length mac ≡ 32 → before_mac (fields ++ mac) ≡ fields
without fields mac size =
    let all : length (fields ++ mac) ≡ length fields + length mac = length-append fields mac in
    take_at fields mac (length (fields ++ mac) - 32) (omega arith)

-- the text with another HMAC is that of the frame with this HMAC
pub text_with : (frame : Frame) (mac : List ℕ) → length (mac_of frame) ≡ 32
    → before_mac (frame_form.spell frame) ++ mac ≡ frame_form.spell (with_mac frame mac)
text_with frame mac size =
    ap (λ (text : List ℕ). before_mac text ++ mac) (spelled_fields frame) ∙
    ap (λ (text : List ℕ). text ++ mac) (without (fields_of frame) (mac_of frame) size) ∙
    sym (spelled_fields (with_mac frame mac) ∙ (λ i. fields_with frame mac i ++ mac_with frame mac i))

-- a frame that fits does so with another HMAC of 32 bytes
pub fits_with : (frame : Frame) (mac : List ℕ) → frame_form.Fits frame → length mac ≡ 32
    → frame_form.Fits (with_mac frame mac)
unfolding frame_form kind_form request_frame reply_frame fetch_frame fetched_frame
fits_with (Request client number round sets asked mac) other fits size =
    let f = fits.1.1 in
    (fits.0, (fits.1.0, (f.0, (f.1.0, (f.1.1.0, (f.1.1.1.0, (f.1.1.1.1.0, size)))))))
fits_with (Reply replica client number round verdict culled shown mac) other fits size =
    let f = fits.1.1 in (
      fits.0,
      (
        fits.1.0,
        (f.0, (f.1.0, (f.1.1.0, (f.1.1.1.0, (f.1.1.1.1.0, (f.1.1.1.1.1.0, (f.1.1.1.1.1.1.0, size))))))),
      ),
    )
fits_with (Fetch replica object stamp mac) other fits size =
    let f = fits.1.1 in (fits.0, (fits.1.0, (f.0, (f.1.0, (f.1.1.0, size)))))
fits_with (Fetched replica object stamp state mac) other fits size =
    let f = fits.1.1 in (fits.0, (fits.1.0, (f.0, (f.1.0, (f.1.1.0, (f.1.1.1.0, size))))))

pub mac_fits : (frame : Frame) → frame_form.Fits frame → length (mac_of frame) ≡ 32
unfolding frame_form kind_form request_frame reply_frame fetch_frame fetched_frame
mac_fits (Request client number round sets asked mac) fits = fits.1.1.1.1.1.1.1
mac_fits (Reply replica client number round verdict culled shown mac) fits = fits.1.1.1.1.1.1.1.1.1
mac_fits (Fetch replica object stamp mac) fits = fits.1.1.1.1.1
mac_fits (Fetched replica object stamp state mac) fits = fits.1.1.1.1.1.1

-- what is decoded of a signed text: the frame with the signature
pub signed_is_decoded : (ring : Ring) (to : Party) (frame : Frame) → frame_form.Fits frame
    → length (signature ring to frame) ≡ 32 → length (signed ring to frame) ≤ TEXT_LIMIT
    → decoded (signed ring to frame) ≡ Ok (with_mac frame (signature ring to frame))
unfolding signed
signed_is_decoded ring to frame fits size few =
    let text : signed ring to frame ≡ frame_form.spell (with_mac frame (signature ring to frame)) =
    text_with frame (signature ring to frame) (mac_fits frame fits) in
    ap decoded text ∙
    spelled_is_decoded (with_mac frame (signature ring to frame))
    (fits_with frame (signature ring to frame) fits size) (subst (λ (it : List ℕ). length it ≤ TEXT_LIMIT) text few)

sender_with : (frame : Frame) (mac : List ℕ) → sender (with_mac frame mac) ≡ sender frame
sender_with (Request client number round sets asked mac) other = refl
sender_with (Reply replica client number round verdict culled shown mac) other = refl
sender_with (Fetch replica object stamp mac) other = refl
sender_with (Fetched replica object stamp state mac) other = refl

-- and its signature is right for the receiver
pub signed_is_right : (ring : Ring) (to : Party) (frame : Frame) → length (signature ring to frame) ≡ 32
    → have_key ring (sender frame) to ≡ true
    → is_signed ring to (signed ring to frame) (with_mac frame (signature ring to frame)) ≡ true
unfolding signed is_signed text_digest verifies
signed_is_right ring to frame size key =
    let mac : List ℕ = signature ring to frame in
    let text : List ℕ = before_mac (frame_form.spell frame) in
    let front : before_mac (text ++ mac) ≡ text = without text mac size in
    (λ i. verifies ring (sender_with frame mac i) to (record { 0 = digest_of FRAME_TAG (front i) })
    (mac_with frame mac i)) ∙
    and_from _ _ key ((bytes_decides mac mac).1 refl)

pub signature_sized : (ring : Ring) (to : Party) (frame : Frame) → length (signature ring to frame) ≡ 32
unfolding seal_of
signature_sized ring to frame = length-hmac _ _

-- a signed text is the spelling of a frame that fits
pub signed_is_spelled : (ring : Ring) (to : Party) (frame : Frame) → frame_form.Fits frame
    → frame_form.Fits (with_mac frame (signature ring to frame))
    × (signed ring to frame ≡ frame_form.spell (with_mac frame (signature ring to frame)))
unfolding signed
signed_is_spelled ring to frame fits = (
  fits_with frame (signature ring to frame) fits (signature_sized ring to frame),
  text_with frame
      (signature ring to frame) (mac_fits frame fits),
)

abbrev read_so : Frame → Result Frame BadText
read_so frame = Ok frame

-- what is received of a text is decoded of it
pub brought_is_decoded : (ring : Ring) (to : Party) (text : List ℕ) (frame : Frame)
    → brought ring to text ≡ Some frame → decoded text ≡ Ok frame
unfolding brought
brought_is_decoded ring to text frame is = decoded_if (decoded text) is
  where
    decoded_if : (read : Result Frame BadText) → if_signed ring to text read ≡ Some frame → read ≡ Ok frame
    decoded_if (Err bad) found = absurd (none-some frame found)
    decoded_if (Ok other) found =
        elim (is_signed ring to text other) as (λ (right : Bool). cond right (Some other) None ≡ Some frame
        → read_so other ≡ read_so frame) [
          | true ↦ λ same. ap read_so (same_Some other frame same)
          | false ↦ λ none. absurd (none-some frame none)
        ] found

-- and its HMAC is right
pub brought_is_signed : (ring : Ring) (to : Party) (text : List ℕ) (frame : Frame)
    → brought ring to text ≡ Some frame → is_signed ring to text frame ≡ true
unfolding brought
brought_is_signed ring to text frame is = signed_if (decoded text) is
  where
    signed_if : (read : Result Frame BadText) → if_signed ring to text read ≡ Some frame
        → is_signed ring to text frame ≡ true
    signed_if (Err bad) found = absurd (none-some frame found)
    signed_if (Ok other) found =
        elim (is_signed ring to text other) as (λ (right : Bool). is_signed ring to text other ≡ right
        → cond right (Some other) None ≡ Some frame → is_signed ring to text frame ≡ true) [
          | true ↦ λ right same. ap (is_signed ring to text) (sym (same_Some other frame same)) ∙ right
          | false ↦ λ wrong none. absurd (none-some frame none)
        ] refl found

-- whoever is brought a frame shares a key with its sender
pub sender_known : (ring : Ring) (to : Party) (text : List ℕ) (taken : Frame) → brought ring to text ≡ Some taken
    → has_party ring (sender taken) ≡ true
unfolding is_signed verifies
sender_known ring to text taken brings =
    (and_parts _ _ (and_parts _ _ (brought_is_signed ring to text taken brings)).0).0

-- a signed text is received as the frame with the signature
pub signed_is_brought : (ring : Ring) (to : Party) (frame : Frame) → frame_form.Fits frame
    → have_key ring (sender frame) to ≡ true → length (signed ring to frame) ≤ TEXT_LIMIT
    → brought ring to (signed ring to frame) ≡ Some (with_mac frame (signature ring to frame))
unfolding brought
signed_is_brought ring to frame fits key few =
    let size : length (signature ring to frame) ≡ 32 = signature_sized ring to frame in
    let made : Frame = with_mac frame (signature ring to frame) in
    ap (if_signed ring to (signed ring to frame)) (signed_is_decoded ring to frame fits size few) ∙
    ap (λ (right : Bool). cond right (Some made) None) (signed_is_right ring to frame size key)
