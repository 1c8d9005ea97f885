-- What a faulty party takes of a text, and what a correct one takes.
use Rattle.std.proofs.Common.{◌≡◌, ℕ, Bool, true, false, cond, List, None, Some, Result, Ok, refl, ap, ◌∙◌}
use Rattle.std.specs.Prelude.{not, is_none}
use Rattle.qu_base.specs.declared.bad_text.BadText.{BadText}
use Rattle.qu_base.specs.declared.party.Party.{Party}
use Rattle.qu_frames.specs.declared.frame.Frame.{Frame}
use Rattle.qu_frames.specs.Decoding.{decoded}
use Rattle.qu_frames.specs.Signing.{is_signed, if_signed, brought}
use Rattle.qu_trace.specs.declared.trace.Setup.{Setup}
use Rattle.qu_trace.specs.Faulty.{is_faulty}
use Rattle.qu_listed.specs.Receivers.{keys_of, frame_taken}

pub faulty_takes : (setup : Setup) (to : Party) (text : List ℕ) → is_faulty setup to ≡ true
    → frame_taken setup to text ≡ None
unfolding frame_taken
faulty_takes setup to text faulty = ap (λ (test : Bool). cond test None (brought (keys_of setup) to text)) faulty

pub correct_takes : (setup : Setup) (to : Party) (text : List ℕ) → is_faulty setup to ≡ false
    → frame_taken setup to text ≡ brought (keys_of setup) to text
unfolding frame_taken
correct_takes setup to text correct = ap (λ (test : Bool). cond test None (brought (keys_of setup) to text)) correct

none_unless : (test : Bool) (frame : Frame) → is_none (cond test (Some frame) None) ≡ not test
none_unless true frame = refl
none_unless false frame = refl

pub faulty_ignores : (setup : Setup) (to : Party) (text : List ℕ) → is_faulty setup to ≡ true
    → is_none (frame_taken setup to text) ≡ true
faulty_ignores setup to text faulty = ap is_none (faulty_takes setup to text faulty)

pub correct_ignores : (setup : Setup) (to : Party) (text : List ℕ) (frame : Frame)
    → is_faulty setup to ≡ false → decoded text ≡ Ok frame
    → is_none (frame_taken setup to text) ≡ not (is_signed (keys_of setup) to text frame)
unfolding brought
correct_ignores setup to text frame correct is =
    ap is_none (correct_takes setup to text correct)
    ∙ ap (λ (found : Result Frame BadText). is_none (if_signed (keys_of setup) to text found)) is
    ∙ none_unless (is_signed (keys_of setup) to text frame) frame
