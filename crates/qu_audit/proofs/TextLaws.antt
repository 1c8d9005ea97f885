-- The texts that are digested at an event are those of the bytes that reach a correct party, and of what it sends.
use Rattle.std.proofs.Common.{◌≡◌, ℕ, Bool, true, false, cond, List, [], ◌∷◌, ◌++◌, Option, None, Some, Result, Ok, Err, refl, sym, ap, ◌∙◌, append_assoc}
use Rattle.std.specs.Prelude.{◌&&◌, not, nat_lt, map, option_map}
use Rattle.std.specs.List.{flat_map}
use Rattle.qu_base.specs.declared.bad_text.BadText.{BadText}
use Rattle.qu_base.specs.declared.party.Party.{Party}
use Rattle.qu_base.specs.declared.party.Party.TheVariants as party
use Rattle.qu_base.specs.declared.party.ReplicaId.{ReplicaId}
use Rattle.qu_base.specs.Bounds.{replicas}
use Rattle.qu_frames.specs.declared.frame.Frame.{Frame}
use Rattle.qu_frames.specs.declared.frame.Letter.{Letter}
use Rattle.qu_frames.specs.Decoding.{decoded}
use Rattle.qu_frames.specs.Signing.{brought, if_signed, is_signed}
use Rattle.qu_trace.specs.declared.event.Event.{Event}
use Rattle.qu_trace.specs.declared.event.Event.TheVariants.{Invoke, Deliver, Tick, Inject}
use Rattle.qu_trace.specs.declared.trace.Entry.{Entry}
use Rattle.qu_trace.specs.declared.trace.Setup.{Setup}
use Rattle.qu_trace.specs.declared.trace.Trace.{Trace}
use Rattle.qu_trace.specs.Faulty.{is_faulty}
use Rattle.qu_trace.specs.Letters.{letters_of}
use Rattle.qu_world.specs.State.{ring_of, numbered}
use Rattle.qu_world.specs.Step.{is_to_faulty}
use Rattle.qu_claims.specs.Carried.{offered_by, handed_by}
use Rattle.qu_claims.specs.Digested.{Text, signed_text, history_text, texts_of, taken_texts, handed_texts, sent_texts, texts_at}
use Rattle.qu_claims.specs.Handled.{Request, is_handler, request_brought, request_to, request_by, handled_by, entries_brought}
use Rattle.qu_audit.specs.Texts.{frame_texts, decoded_texts, reached_texts}

-- ---- a frame

-- the request that a replica takes of what was brought to it, where it handles requests
abbrev request_when : Setup → ReplicaId → Bool → Option Frame → Option Request
request_when setup me handles found = cond handles (request_brought setup me found) None

abbrev handed_when : Setup → List ℕ → Frame → Bool → Option Frame → List Text
handed_when setup text frame handles found =
    signed_text text ∷ [] ++ map history_text (cond handles (entries_brought setup found) [])

frame_cases : (setup : Setup) (me : ReplicaId) (text : List ℕ) (frame : Frame) (handles signed : Bool)
    → texts_of (request_when setup me handles (cond signed (Some frame) None))
    ++ handed_when setup text frame handles (cond signed (Some frame) None)
    ≡ frame_texts setup text frame (cond (handles && signed) (Some me) None)
frame_cases setup me text frame true true = refl
frame_cases setup me text frame true false = refl
frame_cases setup me text frame false true = refl
frame_cases setup me text frame false false = refl

none_handled : (setup : Setup) (me : ReplicaId) (handles : Bool)
    → texts_of (request_when setup me handles None) ++ map history_text (cond handles (entries_brought setup None) [])
    ≡ []
none_handled setup me true = refl
none_handled setup me false = refl

-- ---- bytes

-- what a correct party digests of bytes that were decoded so, as the definition has it
abbrev texts_by_parts : Setup → Party → List ℕ → Result Frame BadText → List Text
texts_by_parts setup (party.Replica me) text found =
    let given : Option Frame = if_signed (ring_of setup) (party.Replica me) text found in
    texts_of (request_when setup me (is_handler setup me) given)
    ++ (taken_texts text found ++ map history_text (cond (is_handler setup me) (entries_brought setup given) []))
texts_by_parts setup (party.Client me) text found = taken_texts text found ++ []

by_parts : (setup : Setup) (to : Party) (text : List ℕ) (found : Result Frame BadText)
    → texts_by_parts setup to text found ≡ decoded_texts setup to text found
by_parts setup (party.Replica me) text (Ok frame) =
    frame_cases setup me text frame (is_handler setup me) (is_signed (ring_of setup) (party.Replica me) text frame)
by_parts setup (party.Replica me) text (Err bad) = none_handled setup me (is_handler setup me)
by_parts setup (party.Client me) text (Ok frame) = refl
by_parts setup (party.Client me) text (Err bad) = refl

given_parts : (setup : Setup) (to : Party) (text : List ℕ) → texts_of (request_to setup text to)
    ++ handed_texts setup (Some (to, text)) ≡ decoded_texts setup to text (decoded text)
unfolding brought
given_parts setup (party.Replica me) text = by_parts setup (party.Replica me) text (decoded text)
given_parts setup (party.Client me) text = by_parts setup (party.Client me) text (decoded text)

-- a faulty party handles nothing
not_handled : (setup : Setup) (to : Party) (text : List ℕ) → is_faulty setup to ≡ true → request_to setup text to ≡ None
not_handled setup (party.Replica me) text faulty =
    ap (λ (it : Bool). cond (nat_lt me.0 (replicas setup.bounds) && not it)
    (request_brought setup me (brought (ring_of setup) (party.Replica me) text)) None) faulty
    ∙ neither (nat_lt me.0 (replicas setup.bounds)) _
  where
    neither : (known : Bool) (found : Option Request) → cond (known && not true) found None ≡ None
    neither true found = refl
    neither false found = refl
not_handled setup (party.Client me) text faulty = refl

text_parts : (setup : Setup) (to : Party) (text : List ℕ) (faulty : Bool) → is_faulty setup to ≡ faulty
    → texts_of (request_to setup text to) ++ handed_texts setup (cond faulty None (Some (to, text)))
    ≡ cond faulty [] (decoded_texts setup to text (decoded text))
text_parts setup to text true is =
    ap (λ (it : Option Request). texts_of it ++ []) (not_handled setup to text is)
text_parts setup to text false is = given_parts setup to text

-- ---- events

nothing_given : (setup : Setup) (faulty : Bool) → handed_texts setup (cond faulty None None) ≡ []
nothing_given setup true = refl
nothing_given setup false = refl

abbrev offered_letter : Option Letter → Option (Party × List ℕ)
offered_letter found = option_map (λ (letter : Letter). (letter.to, letter.text)) found

abbrev handed_letter : Setup → Option Letter → Option (Party × List ℕ)
handed_letter setup found = cond (is_to_faulty setup found) None (offered_letter found)

letter_parts : (setup : Setup) (found : Option Letter) → texts_of (request_by setup found)
    ++ handed_texts setup (handed_letter setup found) ≡ reached_texts setup (offered_letter found)
letter_parts setup None = refl
letter_parts setup (Some letter) = text_parts setup letter.to letter.text (is_faulty setup letter.to) refl

event_parts : (trace : Trace) (event : Event) → texts_of (handled_by trace event)
    ++ handed_texts trace.setup (handed_by trace.setup trace.entries event)
    ≡ reached_texts trace.setup (offered_by trace.entries event)
event_parts trace (Invoke client op) = nothing_given trace.setup (is_faulty trace.setup (party.Client client))
event_parts trace (Deliver number) = letter_parts trace.setup (numbered (letters_of trace.entries) number)
event_parts trace (Tick client) = nothing_given trace.setup (is_faulty trace.setup (party.Client client))
event_parts trace (Inject to text) = text_parts trace.setup to text (is_faulty trace.setup to) refl

-- in both
pub texts_at_parts : (trace : Trace) (entry : Entry) → texts_at trace entry ≡ reached_texts trace.setup
    (offered_by trace.entries entry.event) ++ flat_map sent_texts entry.letters
unfolding texts_at
texts_at_parts trace entry =
    sym (append_assoc (texts_of (handled_by trace entry.event))
    (handed_texts trace.setup (handed_by trace.setup trace.entries entry.event)) (flat_map sent_texts entry.letters))
    ∙ ap (λ (it : List Text). it ++ flat_map sent_texts entry.letters) (event_parts trace entry.event)
