-- What a whole text is decoded to: a frame that takes all of it, or the first field that fails.
use Rattle.std.specs.Prelude.{◌≡◌, ℕ, nat_lt, if◌then◌else◌, List, length, Result, Ok, Err, MatchResult}
use Rattle.qu_base.specs.declared.bad_text.BadText.{BadText}
use Rattle.qu_base.specs.declared.bad_text.Why.TheVariants.{Range, Rest}
use Rattle.qu_base.specs.declared.bad_text.ReadFail.{ReadFail}
use Rattle.qu_base.specs.Cursor.{Front}
use Rattle.qu_base.specs.Format.{front_of}
use Rattle.qu_base.specs.Reading.{FailsAs}
use Rattle.qu_frames.specs.declared.limits.TheConstants.{TEXT_LIMIT}
use Rattle.qu_frames.specs.declared.frame.Frame.{Frame}
use Rattle.qu_frames.specs.Formats.{frame_form}

-- nothing is left behind a value
abbrev pub at_end : {V : Type 0} → V → Front → Result V BadText
at_end value end = if nat_lt 0 (length end.rest) then Err (record { place = end.place; why = Rest }) else Ok value

abbrev pub whole : {V : Type 0} → Result (V × Front) BadText → Result V BadText
whole (Ok found) = at_end found.0 found.1
whole (Err bad) = Err bad

unfoldable pub decoded : List ℕ → Result Frame BadText
decoded text =
    if nat_lt TEXT_LIMIT (length text) then Err (record { place = 0; why = Range }) else whole
    (frame_form.read (front_of text))

-- what decoding a text tells: a frame, or why there is none, which may be want of memory
abbrev pub IsDecoded : Result Frame ReadFail → List ℕ → Type 0
IsDecoded result text = MatchResult result (λ frame. decoded text ≡ Ok frame) (λ why. FailsAs why (decoded text))
