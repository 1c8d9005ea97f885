-- The texts that are digested at an event, as an audit finds them: bytes that reach a party are decoded once.
use Rattle.std.specs.Prelude.{ℕ, ◌&&◌, if◌then◌else◌, List, [], ◌∷◌, ◌++◌, map, Option, None, Some, Result, Ok, Err}
use Rattle.qu_base.specs.declared.bad_text.BadText.{BadText}
use Rattle.qu_base.specs.declared.party.Party.{Party}
use Rattle.qu_base.specs.declared.party.Party.TheVariants as party
use Rattle.qu_base.specs.declared.party.ReplicaId.{ReplicaId}
use Rattle.qu_frames.specs.declared.frame.Frame.{Frame}
use Rattle.qu_frames.specs.Decoding.{decoded}
use Rattle.qu_frames.specs.Signing.{is_signed}
use Rattle.qu_trace.specs.declared.trace.Setup.{Setup}
use Rattle.qu_trace.specs.Faulty.{is_faulty}
use Rattle.qu_world.specs.State.{ring_of}
use Rattle.qu_claims.specs.Digested.{Text, signed_text, history_text, texts_of}
use Rattle.qu_claims.specs.Handled.{is_handler, request_in, entries_in}

-- the replica that handles the frame of these bytes
abbrev pub handler_of : Setup → Party → List ℕ → Frame → Option ReplicaId
handler_of setup (party.Replica me) text frame =
    if is_handler setup me && is_signed (ring_of setup) (party.Replica me) text frame then Some me else None
handler_of setup (party.Client me) text frame = None

abbrev pub request_texts : Setup → Frame → Option ReplicaId → List Text
request_texts setup frame None = []
request_texts setup frame (Some me) = texts_of (request_in setup me frame)

abbrev pub entry_texts : Setup → Frame → Option ReplicaId → List Text
entry_texts setup frame None = []
entry_texts setup frame (Some me) = map history_text (entries_in setup frame)

-- what is digested of a frame
abbrev pub frame_texts : Setup → List ℕ → Frame → Option ReplicaId → List Text
frame_texts setup text frame handler =
    request_texts setup frame handler ++ signed_text text ∷ entry_texts setup frame handler

-- what is digested of bytes that were decoded so
abbrev pub decoded_texts : Setup → Party → List ℕ → Result Frame BadText → List Text
decoded_texts setup to text (Ok frame) = frame_texts setup text frame (handler_of setup to text frame)
decoded_texts setup to text (Err bad) = []

-- what a party digests of bytes that reach it, where it is correct
abbrev pub reached_texts : Setup → Option (Party × List ℕ) → List Text
reached_texts setup None = []
reached_texts setup (Some (to, text)) =
    if is_faulty setup to then [] else decoded_texts setup to text (decoded text)
