-- A request of a correct client that was handled was sent, and belongs to an operation.
use Rattle.std.proofs.Common.{◌≡◌, ℕ, ◌<◌, ◌≤◌, true, false, List, length, Option, None, Some, refl, sym, ap, subst, ◌∙◌, arith, inl, inr}
use Rattle.std.specs.Prelude.{Contains}
use Rattle.std.specs.List.{list_all}
use Rattle.std.proofs.lemmas.List.{take_all}
use Rattle.std.proofs.lemmas.Option.{none-some, cond_some, same_Some}
use Rattle.qu_base.specs.declared.party.ClientId.{ClientId}
use Rattle.qu_base.specs.declared.party.ObjectId.{ObjectId}
use Rattle.qu_base.specs.declared.party.Party.{Party}
use Rattle.qu_base.specs.declared.party.Party.TheVariants as party
use Rattle.qu_base.specs.declared.party.ReplicaId.{ReplicaId}
use Rattle.qu_stamp.specs.declared.candidate.Candidate.{Candidate}
use Rattle.qu_history.specs.Culling.{culled}
use Rattle.qu_objects.specs.declared.act.Method.{Method}
use Rattle.qu_frames.specs.declared.frame.Body.{Body}
use Rattle.qu_frames.specs.declared.frame.Body.TheVariants as body
use Rattle.qu_frames.specs.declared.frame.Frame.{Frame}
use Rattle.qu_frames.specs.declared.frame.Frame.TheVariants as frame
use Rattle.qu_frames.specs.declared.frame.Letter.{Letter}
use Rattle.qu_trace.specs.declared.event.Event.{Event}
use Rattle.qu_trace.specs.declared.event.Event.TheVariants.{Invoke, Deliver, Tick, Inject}
use Rattle.qu_trace.specs.declared.trace.Entry.{Entry}
use Rattle.qu_trace.specs.declared.trace.Setup.{Setup}
use Rattle.qu_trace.specs.declared.trace.Trace.{Trace}
use Rattle.qu_trace.specs.Letters.{letters_of}
use Rattle.qu_world.specs.State.{numbered, ring_of}
use Rattle.qu_world.specs.Run.{IsRun}
use Rattle.qu_claims.specs.Handled.{Request, is_of_setup, request_to, handled_by, IsHandled, IsMadeFor, request_brought}
use Rattle.qu_rounds.specs.Invocations.{IsRequestOf}
use Rattle.qu_claims.specs.Times.{world_after}
use Rattle.qu_runs.proofs.Acts.CarriedRequests.{IsSent, carried_to, sent_by}
use Rattle.qu_values.proofs.Requests.ClientFacts.{ClientFacts}
use Rattle.qu_runs.proofs.Events.Recording.{entries_after, letter_stays}
use Rattle.qu_runs.specs.Plain.{IsPlain, ArePlain}
use Rattle.qu_frames.specs.Signing.{brought, sender}
use Rattle.qu_runs.proofs.Digests.Plain.{setup_after}
use Rattle.qu_trace.specs.Faulty.{is_faulty}
use Rattle.std.proofs.lemmas.Bool.{false≢true}

-- so it was made for the operation that the request is one of
pub made_for_operation : (trace : Trace) (count : ℕ) (candidate : Candidate) (client : ClientId) (number : ℕ)
    (parts : List (ObjectId × Method)) (asked : Body) (request : IsRequestOf trace count client number asked)
    → IsMadeFor trace candidate client number parts
    → IsMadeFor trace candidate (request.operation).client (request.operation).number parts
made_for_operation trace count candidate client number parts asked request made =
    subst (λ (who : ClientId). IsMadeFor trace candidate who (request.operation).number parts) (sym request.of_client)
    (subst (λ (it : ℕ). IsMadeFor trace candidate client it parts) (sym request.of_number) made)

-- injected bytes that are handled were sent, where the client of the request is correct
of_faulty_client : (setup : Setup) (me : ReplicaId) (read : Option Frame) (request : Request)
    → request_brought setup me read ≡ Some request → is_faulty setup (party.Client request.client) ≡ false
    → ((taken : Frame) → read ≡ Some taken → is_faulty setup (sender taken) ≡ true) → ⊥
of_faulty_client setup me None request is correct faulty = none-some request is
of_faulty_client setup me (Some (frame.Request client number round sets body mac)) request is correct faulty =
    let it : Request =
    record { client = client; number = number; sets = culled (ring_of setup) me sets; body = body } in
    let same : it ≡ request = (cond_some (list_all (is_of_setup setup) sets) it request is).1 in
    false≢true (sym (ap (λ (one : Request). is_faulty setup (party.Client one.client)) same ∙ correct)
    ∙ faulty (frame.Request client number round sets body mac) refl)
of_faulty_client setup me (Some _) request is correct faulty = none-some request is

sent_before : (trace : Trace) → IsRun trace → (time : ℕ) → time ≤ length trace.entries
    → (to : Party) (text : List ℕ) → IsPlain (world_after trace time) (Inject to text) → (request : Request)
    → is_faulty trace.setup (party.Client request.client) ≡ false
    → request_to trace.setup text to ≡ Some request → IsSent trace request
sent_before trace is_run time within to text (inl ignored) request correct is =
    let none : request_to trace.setup text to ≡ None =
    ap (λ (setup : Setup). request_to setup text to) (sym (setup_after trace time)) ∙ ignored.nothing in
    absurd (none-some request (sym none ∙ is))
sent_before trace is_run time within to text (inr (inl sent)) request correct is =
    let letter : Letter = sent.letter in
    let given : request_to trace.setup letter.text letter.to ≡ Some request =
    ap (λ (it : List ℕ). request_to trace.setup it letter.to) sent.text_is
    ∙ ap (request_to trace.setup text) sent.to_is ∙ is in
    sent_by trace sent.number (Some letter) request
    (letter_stays trace is_run time within sent.number letter sent.is_letter) given
sent_before trace is_run time within to text (inr (inr made)) request correct is =
    let given = carried_to trace.setup text to request is in
    let same : (setup : Setup) → Option Frame = λ setup. brought (ring_of setup) to text in
    absurd (of_faulty_client trace.setup given.0 (brought (ring_of trace.setup) to text) request given.1 correct
    (λ taken brings.
    let taken_is : made.taken ≡ taken =
    same_Some made.taken taken (sym made.brings ∙ ap same (setup_after trace time) ∙ brings) in
    ap (λ (setup : Setup). is_faulty setup (sender taken)) (sym (setup_after trace time))
    ∙ ap (λ (it : Frame). is_faulty (world_after trace time).setup (sender it)) (sym taken_is) ∙ made.faulty))

pub sent : (trace : Trace) → IsRun trace → (time : ℕ) → time ≤ length trace.entries → (event : Event)
    → IsPlain (world_after trace time) event → (request : Request)
    → is_faulty trace.setup (party.Client request.client) ≡ false → handled_by trace event ≡ Some request
    → IsSent trace request
sent trace is_run time within (Invoke client op) plain request correct is = absurd (none-some request is)
sent trace is_run time within (Deliver number) plain request correct is =
    sent_by trace number (numbered (letters_of trace.entries) number) request refl is
sent trace is_run time within (Tick client) plain request correct is = absurd (none-some request is)
sent trace is_run time within (Inject to text) plain request correct is =
    sent_before trace is_run time within to text plain request correct is

-- each entry of a plain trace is plain
pub plain_among : (trace : Trace) (entry : Entry) → ArePlain trace → (among : Contains trace.entries entry)
    → IsPlain (world_after trace among.0) entry.event
plain_among trace entry plain among =
    subst (λ (it : Entry). IsPlain (world_after trace among.0) it.event) among.2 (plain.plain_at among.0 entry among.1)

-- so it is one of an operation
pub asked_by : (trace : Trace) → IsRun trace → ClientFacts trace → (request : Request) → IsSent trace request
    → IsRequestOf trace (length trace.entries) request.client request.number request.body
asked_by trace is_run clients request it =
    let last : ℕ = length trace.entries in
    let all : (world_after trace last).entries ≡ trace.entries = entries_after trace is_run last (omega arith)
    ∙ take_all last trace.entries (omega arith) in
    clients.asks last it.number it.letter request.client request.number it.round it.sets request.body (record {
      within = omega arith;
      is_letter = ap (λ (entries : List Entry). numbered (letters_of entries) it.number) all ∙ it.is_letter;
      is_request = it.is_request;
    })

pub asked_by_handled : (trace : Trace) → IsRun trace → ArePlain trace → ClientFacts trace → (client : ClientId)
    (number : ℕ) (parts : List (ObjectId × Method)) → IsHandled trace client number parts
    → is_faulty trace.setup (party.Client client) ≡ false
    → IsRequestOf trace (length trace.entries) client number (body.Act parts)
asked_by_handled trace is_run have clients client number parts it correct =
    let request : Request = record { client = client; number = number; sets = it.sets; body = body.Act parts } in
    asked_by trace is_run clients request
    (sent trace is_run (it.of_trace).0
    (let below : (it.of_trace).0 < length trace.entries = (it.of_trace).1 in omega arith) (it.entry).event
    (plain_among trace it.entry have it.of_trace) request correct it.handled)
