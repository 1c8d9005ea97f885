-- What bytes are decoded to, by the frame that they are, and that an event brings the same at all times.
use Rattle.std.proofs.Common.{◌≡◌, ℕ, List, [], ◌++◌, take, drop, Option, None, Some, Result, Ok, Err, refl, sym, ap, subst, ◌∙◌}
use Rattle.std.specs.Prelude.{option_map, slice_get}
use Rattle.std.proofs.lemmas.Grind.{flat_map-append}
use Rattle.std.proofs.lemmas.List.{take-append-drop}
use Rattle.std.proofs.lemmas.Option.{none-some}
use Rattle.qu_base.specs.declared.bad_text.BadText.{BadText}
use Rattle.qu_base.specs.declared.party.Party.{Party}
use Rattle.qu_seal.specs.Keys.{Ring}
use Rattle.qu_frames.specs.declared.frame.Frame.{Frame}
use Rattle.qu_frames.specs.declared.frame.Letter.{Letter}
use Rattle.qu_frames.specs.Signing.{if_signed}
use Rattle.qu_trace.specs.declared.event.Event.{Event}
use Rattle.qu_trace.specs.declared.event.Event.TheVariants.{Invoke, Deliver, Tick, Inject}
use Rattle.qu_trace.specs.declared.trace.Entry.{Entry}
use Rattle.qu_trace.specs.declared.trace.Setup.{Setup}
use Rattle.qu_trace.specs.Letters.{letters_of, numbered, offered_by}
use Rattle.qu_trace.proofs.LetterLaws.{numbered-append}
use Rattle.qu_claims.proofs.Handled.{none_shown}
use Rattle.qu_trace.specs.Decoded.{frame_found, frame_offered, frame_offered_at, IsFrameOf}
use Rattle.qu_trace.proofs.DecodedLaws.{decoded_to}
use Rattle.qu_audit.specs.Texts.{decoded_texts}

-- ---- what bytes are decoded to

pub none_signed : (ring : Ring) (to : Party) (text : List ℕ) (found : Result Frame BadText)
    → frame_found found ≡ None → if_signed ring to text found ≡ None
none_signed ring to text (Ok it) is = absurd (none-some it (sym is))
none_signed ring to text (Err bad) is = refl

pub none_digested : (setup : Setup) (to : Party) (text : List ℕ) (found : Result Frame BadText)
    → frame_found found ≡ None → decoded_texts setup to text found ≡ []
none_digested setup to text (Ok it) is = absurd (none-some it (sym is))
none_digested setup to text (Err bad) is = refl

pub ruleset frame_laws = (decoded_to, none_signed, none_digested)

-- ---- what letters show

pub ruleset shown_laws = (decoded_to, none_shown)

-- ---- what an event brings

letters_parts : (entries : List Entry) (index : ℕ)
    → letters_of (take index entries) ++ letters_of (drop index entries) ≡ letters_of entries
unfolding letters_of
letters_parts entries index =
    sym (flat_map-append (λ (it : Entry). it.letters) (take index entries) (drop index entries))
    ∙ ap (λ (it : List Entry). letters_of it) (take-append-drop index entries)

abbrev offered_of : Option Letter → Option (Party × List ℕ)
offered_of found = option_map (λ (letter : Letter). (letter.to, letter.text)) found

frame_before : (letters more : List Letter) (number : ℕ) (frame : Option Frame)
    → frame ≡ frame_offered (offered_of (numbered (letters ++ more) number)) → (found : Option Letter)
    → numbered letters number ≡ found → IsFrameOf frame (offered_of found)
frame_before letters more number frame is None found = tt
frame_before letters more number frame is (Some letter) found =
    is ∙ ap (λ (it : Option Letter). frame_offered (offered_of it)) (numbered-append letters more number letter found)

-- the frame that an event offers is that of the bytes, where the entries before it have sent them
pub frame_upon : (entries : List Entry) (index : ℕ) (event : Event) (frame : Option Frame)
    → frame ≡ frame_offered (offered_by entries event) → IsFrameOf frame (offered_by (take index entries) event)
frame_upon entries index (Invoke client op) frame is = tt
frame_upon entries index (Deliver number) frame is =
    frame_before (letters_of (take index entries)) (letters_of (drop index entries)) number frame
    (is ∙ ap (λ (it : List Letter). frame_offered (offered_of (numbered it number)))
    (sym (letters_parts entries index)))
    (numbered (letters_of (take index entries)) number) refl
frame_upon entries index (Tick client) frame is = tt
frame_upon entries index (Inject to text) frame is = is

-- the same of the event of an entry, and those before it
pub frame_before_entry : (entries before : List Entry) (index : ℕ) (entry : Entry) (frame : Option Frame)
    → slice_get entries index ≡ Some entry → before ≡ take index entries
    → frame ≡ frame_offered_at entries (slice_get entries index) → IsFrameOf frame (offered_by before entry.event)
frame_before_entry entries before index entry frame found first is =
    subst (λ (it : List Entry). IsFrameOf frame (offered_by it entry.event)) (sym first)
    (frame_upon entries index entry.event frame (is ∙ ap (frame_offered_at entries) found))
