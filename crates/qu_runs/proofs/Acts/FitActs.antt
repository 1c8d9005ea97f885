-- The numbers of an act that a replica handled fit their bytes, since it decoded them.
use Rattle.std.proofs.Common.{◌≡◌, ℕ, ◌<◌, ◌≤◌, ◌-◌, ◌^◌, Bool, List, [], ◌∷◌, length, Option, None, Some, refl, ap, subst, ◌∙◌, arith}
use Rattle.std.proofs.lemmas.List.{take_all}
use Rattle.std.proofs.lemmas.Option.{none-some}
use Rattle.qu_base.specs.declared.limits.TheConstants.{LAST_CLIENT}
use Rattle.qu_base.specs.declared.party.ClientId.{ClientId}
use Rattle.qu_base.specs.declared.party.ObjectId.{ObjectId}
use Rattle.qu_history.specs.declared.sets.SetOf.{SetOf}
use Rattle.qu_objects.specs.declared.act.Method.{Method}
use Rattle.qu_objects.specs.declared.op.Op.TheVariants as op
use Rattle.qu_objects.specs.Digesting.{PartsFit}
use Rattle.qu_base.specs.Format.{FitsFrom}
use Rattle.qu_objects.specs.Formats.{method_form, part_form, act_form}
use Rattle.qu_frames.specs.declared.frame.Body.TheVariants as body
use Rattle.qu_frames.specs.declared.frame.Frame.{Frame}
use Rattle.qu_frames.specs.declared.frame.Frame.TheVariants as frame
use Rattle.qu_frames.specs.declared.frame.Letter.{Letter}
use Rattle.qu_frames.specs.Formats.{body_form, frame_form, objects_in_sets}
use Rattle.qu_frames.specs.Signing.{brought}
use Rattle.qu_frames.proofs.Decoded.{decoded_is_spelled}
use Rattle.qu_fitting.proofs.FitRequests.{RequestFits, request-fits}
use Rattle.qu_trace.specs.declared.event.Event.{Event}
use Rattle.qu_trace.specs.declared.event.Event.TheVariants.{Invoke, Deliver, Tick, Inject}
use Rattle.qu_trace.specs.declared.trace.Entry.{Entry}
use Rattle.qu_trace.specs.declared.trace.Trace.{Trace}
use Rattle.qu_trace.specs.Letters.{letters_of}
use Rattle.qu_world.specs.State.{numbered, ring_of}
use Rattle.qu_world.specs.Run.{IsRun}
use Rattle.qu_world.proofs.Each.{each_at}
use Rattle.qu_claims.specs.Handled.{Request, handled_by, IsHandled}
use Rattle.qu_fitting.proofs.FitValues.{method_numbers}
use Rattle.qu_runs.specs.Plain.{HasOpParts, HasEventParts, ArePlain}
use Rattle.qu_claims.specs.Times.{world_after}
use Rattle.qu_runs.proofs.Fits.FitParts.{fits_parts}
use Rattle.qu_runs.proofs.Fits.Fitting.{carried_in_run}
use Rattle.qu_runs.proofs.Events.Recording.{entries_after}
use Rattle.qu_runs.proofs.Acts.CarriedRequests.{IsSent, carried_to, carried_so, sent_by}

-- ---- what fits a format

part_numbers : (known : ObjectId → Bool) (before : Option ObjectId) (parts : List (ObjectId × Method))
    → FitsFrom (part_form method_form known) (λ part. Some part.0) before parts → PartsFit parts
part_numbers known before [] fits = tt
part_numbers known before (part ∷ later) fits =
    (method_numbers part.1 fits.0.1, part_numbers known (Some part.0) later fits.1)

act_numbers : (objects : List ObjectId) (parts : List (ObjectId × Method))
    → (body_form objects).Fits (body.Act parts) → PartsFit parts
unfolding body_form act_form
act_numbers objects parts fits = part_numbers _ None parts fits.1.1.1

-- ---- what a replica handled

-- a frame that fits has the request
record FitsFrame (request : Request) : Type 0 where
  round : ℕ
  sets : List SetOf
  mac : List ℕ
  fits : frame_form.Fits (frame.Request request.client request.number round sets request.body mac)

module _ (trace : Trace) (is_run : IsRun trace) (have : ArePlain trace) where
  -- a letter of the trace fits
  sent_fits : (request : Request) → IsSent trace request → FitsFrame request
  sent_fits request it =
      let last : ℕ = length trace.entries in
      let all : (world_after trace last).entries ≡ trace.entries =
      entries_after trace is_run last (omega arith) ∙ take_all last trace.entries (omega arith) in
      record {
        round = it.round;
        sets = it.sets;
        mac = (it.is_request).mac;
        fits = carried_in_run trace is_run have.typed last (omega arith) it.number it.letter
            (ap (λ (entries : List Entry). numbered (letters_of entries) it.number) all ∙ it.is_letter)
            (frame.Request request.client request.number it.round it.sets request.body (it.is_request).mac)
            (it.is_request).carries;
      }

  -- and so does what is decoded of injected bytes
  handled_fits : (event : Event) → HasEventParts event → (request : Request)
      → handled_by trace event ≡ Some request → FitsFrame request
  handled_fits (Invoke client op) parts request is = absurd (none-some request is)
  handled_fits (Deliver number) parts request is =
      sent_fits request (sent_by trace number (numbered (letters_of trace.entries) number) request refl is)
  handled_fits (Tick client) parts request is = absurd (none-some request is)
  handled_fits (Inject to text) parts request is =
      let given = carried_to trace.setup text to request is in
      let letter : Letter = record { from = to; to = to; text = text } in
      let it = carried_so trace.setup given.0 letter (brought (ring_of trace.setup) to text) request refl given.1 in
      record {
        round = it.0;
        sets = it.1;
        mac = (it.2).mac;
        fits = (decoded_is_spelled text
            (frame.Request request.client request.number it.0 it.1 request.body (it.2).mac) parts (it.2).carries).0;
      }

-- client, number and parts of an act fit their bytes
pub record IsFit (who : ClientId) (turn : ℕ) (these : List (ObjectId × Method)) : Type 0 where
  pub client : who.0 < 2 ^ 16
  pub number : turn < 2 ^ 64
  pub parts : HasOpParts (op.Act these)

pub fit : (trace : Trace) → IsRun trace → ArePlain trace → (client : ClientId) (number : ℕ)
    (parts : List (ObjectId × Method)) → IsHandled trace client number parts → IsFit client number parts
fit trace is_run have client number parts it =
    let among = it.of_trace in
    let request : Request = record { client = client; number = number; sets = it.sets; body = body.Act parts } in
    let event : HasEventParts (it.entry).event =
    subst (λ (entry : Entry). HasEventParts entry.event) among.2
    (each_at (λ (entry : Entry). HasEventParts entry.event) trace.entries among.0 it.entry (have.typed).parts among.1)
    in
    let came : FitsFrame request = handled_fits trace is_run have (it.entry).event event request it.handled in
    let sent : Frame = frame.Request client number came.round came.sets (body.Act parts) came.mac in
    let within : RequestFits client number came.round came.sets (body.Act parts) =
    request-fits client number came.round came.sets (body.Act parts) came.mac came.fits in
    let high : client.0 ≤ LAST_CLIENT = within.high in
    let word : number ≤ 2 ^ 64 - 1 = within.word in
    record {
      client = omega (arith, high);
      number = omega (arith, word);
      parts = (fits_parts sent came.fits, act_numbers (objects_in_sets came.sets) parts within.asked);
    }
