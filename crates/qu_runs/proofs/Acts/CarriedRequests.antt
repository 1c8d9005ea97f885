-- What a text brings to a replica that handles a request, and the letter that carried it.
use Rattle.std.proofs.Common.{◌≡◌, ℕ, Bool, true, false, cond, List, Option, None, Some, refl, ap}
use Rattle.std.specs.List.{list_all}
use Rattle.std.proofs.lemmas.Option.{none-some, cond_some}
use Rattle.qu_base.specs.declared.party.Party.{Party}
use Rattle.qu_base.specs.declared.party.Party.TheVariants as party
use Rattle.qu_base.specs.declared.party.ReplicaId.{ReplicaId}
use Rattle.qu_history.specs.declared.sets.SetOf.{SetOf}
use Rattle.qu_history.specs.Culling.{culled}
use Rattle.qu_frames.specs.declared.frame.Frame.{Frame}
use Rattle.qu_frames.specs.declared.frame.Frame.TheVariants as frame
use Rattle.qu_frames.specs.declared.frame.Letter.{Letter}
use Rattle.qu_frames.specs.Signing.{brought}
use Rattle.qu_frames.proofs.Signed.{brought_is_decoded}
use Rattle.qu_trace.specs.declared.trace.Setup.{Setup}
use Rattle.qu_trace.specs.declared.trace.Trace.{Trace}
use Rattle.qu_trace.specs.Letters.{letters_of}
use Rattle.qu_world.specs.State.{numbered, ring_of}
use Rattle.qu_claims.specs.Carried.{Asks}
use Rattle.qu_claims.specs.Handled.{Request, is_handler, is_of_setup, request_in, request_to, request_by, request_brought}
use Rattle.qu_runs.proofs.Fits.Carrying.{asks_so}

cond_given : {X : Type 0} (test : Bool) (found : Option X) (it : X) → cond test found None ≡ Some it → found ≡ Some it
cond_given true found it given = given
cond_given false found it given = absurd (none-some it given)

-- a letter of the trace with the request, before its sets are culled
pub record IsSent (trace : Trace) (request : Request) : Type 0 where
  pub number : ℕ
  pub letter : Letter
  pub is_letter : numbered (letters_of trace.entries) number ≡ Some letter
  pub round : ℕ
  pub sets : List SetOf
  pub is_request : Asks letter request.client request.number round sets request.body

carried : (setup : Setup) (me : ReplicaId) (sent : Frame) (request : Request) → request_in setup me sent ≡ Some request
    → (round : ℕ) × (sets : List SetOf) × (mac : List ℕ)
    × (sent ≡ frame.Request request.client request.number round sets request.body mac)
carried setup me (frame.Request client number round sets asked mac) request is =
    let it : Request =
    record { client = client; number = number; sets = culled (ring_of setup) me sets; body = asked } in
    let same : it ≡ request = (cond_some (list_all (is_of_setup setup) sets) it request is).1 in
    (round, sets, mac, ap (λ (one : Request). frame.Request one.client one.number round sets one.body mac) same)
carried setup me _ request is = absurd (none-some request is)

pub carried_to : (setup : Setup) (text : List ℕ) (to : Party) (request : Request)
    → request_to setup text to ≡ Some request
    → (me : ReplicaId) × (request_brought setup me (brought (ring_of setup) to text) ≡ Some request)
carried_to setup text (party.Replica me) request is = (
  me,
  cond_given (is_handler setup me)
      (request_brought setup me (brought (ring_of setup) (party.Replica me) text)) request is,
)
carried_to setup text (party.Client me) request is = absurd (none-some request is)

-- a frame was brought that is this request
pub carried_so : (setup : Setup) (me : ReplicaId) (letter : Letter) (read : Option Frame) (request : Request)
    → brought (ring_of setup) letter.to letter.text ≡ read → request_brought setup me read ≡ Some request
    → (round : ℕ) × (sets : List SetOf) × Asks letter request.client request.number round sets request.body
carried_so setup me letter (Some sent) request brings is =
    let it = carried setup me sent request is in (
      it.0,
      it.1,
      asks_so letter sent request.client request.number it.0 it.1 request.body it.2
          (brought_is_decoded (ring_of setup) letter.to letter.text sent brings) it.3,
    )
carried_so setup me letter None request brings is = absurd (none-some request is)

pub sent_by : (trace : Trace) (number : ℕ) (found : Option Letter) (request : Request)
    → numbered (letters_of trace.entries) number ≡ found → request_by trace.setup found ≡ Some request
    → IsSent trace request
sent_by trace number None request found is = absurd (none-some request is)
sent_by trace number (Some letter) request found is =
    let to = carried_to trace.setup letter.text letter.to request is in
    let it = carried_so trace.setup to.0 letter (brought (ring_of trace.setup) letter.to letter.text) request refl
    to.1 in
    record { number = number; letter = letter; is_letter = found; round = it.0; sets = it.1; is_request = it.2 }
