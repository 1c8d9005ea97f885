-- What is decoded is the one frame whose spelling the text is.
use Rattle.std.proofs.Common.{◌≡◌, ◌≤◌, ℕ, ltb, List, [], ◌∷◌, ◌++◌, length, Result, Ok, Err, refl, sym, ap, ◌∙◌, append-nil, arith}
use Rattle.std.proofs.lemmas.Bool.{le-ltb, ltb-false}
use Rattle.qu_base.specs.declared.bad_text.BadText.{BadText}
use Rattle.qu_base.specs.Cursor.{Front}
use Rattle.qu_base.specs.Format.{front_of, AreBytes}
use Rattle.qu_base.proofs.Formats.{not_refused}
use Rattle.qu_frames.specs.declared.limits.TheConstants.{TEXT_LIMIT}
use Rattle.qu_frames.specs.declared.frame.Frame.{Frame}
use Rattle.qu_frames.specs.Formats.{frame_form}
use Rattle.qu_frames.specs.Decoding.{whole, decoded}
use Rattle.qu_frames.proofs.Forms.{frame-exact}

-- a value that is read of a whole text stands before its end
whole_ok : {V : Type 0} (read : Result (V × Front) BadText) (value : V) → whole read ≡ Ok value → (end : Front)
    × (read ≡ Ok (value, end)) × (length end.rest ≡ 0)
whole_ok (Ok found) value given =
    let tests = not_refused (ltb 0 (length found.1.rest)) _ _ value given in
    let value_is : found.0 ≡ value = (let is : Ok found.0 ≡ Ok value = tests.1 in cc) in (
      found.1,
      ap (λ it. Ok (it, found.1)) value_is,
      (let none : length found.1.rest ≤ 0 = ltb-false _ _ tests.0 in
          omega arith),
    )
whole_ok (Err bad) value given = absurd cc

no_bytes : (rest : List ℕ) → length rest ≡ 0 → rest ≡ []
no_bytes [] none = refl
no_bytes (byte ∷ rest) none = absurd (omega arith)

-- what was decoded was read, to the end of the text
pub decoded_is_read : (text : List ℕ) (frame : Frame) → decoded text ≡ Ok frame → (end : Front)
    × (frame_form.read (front_of text) ≡ Ok (frame, end)) × (length end.rest ≡ 0)
unfolding decoded
decoded_is_read text frame given =
    whole_ok (frame_form.read (front_of text)) frame (not_refused (ltb TEXT_LIMIT (length text)) _ _ frame given).1

pub decoded_is_spelled : (text : List ℕ) (frame : Frame) → AreBytes text → decoded text ≡ Ok frame
    → frame_form.Fits frame × (text ≡ frame_form.spell frame)
decoded_is_spelled text frame fit given =
    let read = decoded_is_read text frame given in
    let spelled = frame-exact.found (front_of text) read.0 frame fit read.1 in (
      spelled.fits,
      spelled.takes.bytes ∙ ap (λ (rest : List ℕ). frame_form.spell frame ++ rest)
          (no_bytes read.0.rest read.2) ∙ append-nil (frame_form.spell frame),
    )

-- the spelling of a frame is read to its end
spelled_is_read : (frame : Frame) → frame_form.Fits frame
    → frame_form.read (front_of (frame_form.spell frame)) ≡ Ok
    (frame, record { place = length (frame_form.spell frame); rest = [] })
spelled_is_read frame fits =
    frame-exact.only (front_of (frame_form.spell frame))
    (record { place = length (frame_form.spell frame); rest = [] }) frame
    (record { fits = fits; takes = record { bytes = sym (append-nil (frame_form.spell frame)); place = omega arith } })

pub spelled_is_decoded : (frame : Frame) → frame_form.Fits frame → length (frame_form.spell frame) ≤ TEXT_LIMIT
    → decoded (frame_form.spell frame) ≡ Ok frame
unfolding decoded
spelled_is_decoded frame fits few =
    rw (le-ltb TEXT_LIMIT (length (frame_form.spell frame)) few, spelled_is_read frame fits) refl

one_pair : {A B E : Type 0} (one other : A) (left right : B) (read : Result (A × B) E) → read ≡ Ok (one, left)
    → read ≡ Ok (other, right) → other ≡ one
one_pair {A = A} {B = B} one other left right read first second =
    let pairs : (other, right) ≡ (one, left) =
    (let is : Ok (other, right) ≡ Ok (one, left) = sym second ∙ first in cc) in
    ap (λ (pair : A × B). pair.0) pairs

-- the spelling of a frame is decoded to no other one
pub one_frame : (frame other : Frame) → frame_form.Fits frame → decoded (frame_form.spell frame) ≡ Ok other
    → other ≡ frame
one_frame frame other fits given =
    let read = decoded_is_read (frame_form.spell frame) other given in
    one_pair frame other _ read.0 _ (spelled_is_read frame fits) read.1

-- a text is decoded to one frame
pub one_decoded : (text : List ℕ) (first second : Frame) → decoded text ≡ Ok first → decoded text ≡ Ok second
    → first ≡ second
one_decoded text first second one other =
    let same : Ok first ≡ Ok second = sym one ∙ other in
    cc
