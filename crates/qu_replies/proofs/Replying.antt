-- Only a replica that is handed a request sends a reply, and the reply's verdict is what it decided.
use Rattle.qu_world.proofs.Steps as steps
use Rattle.qu_world.proofs.Steps.{AtCorrect}
use Rattle.qu_world.specs.Step.{moved}
use Rattle.std.proofs.Common.{◌≤◌, ◌≡◌, ℕ, ◌+◌, ◌<◌, List, [], ◌∷◌, ◌++◌, length, get_or, Option, None, Some, refl, sym, subst, ap, ◌∙◌, arith, map, IsTrue, false, Ok}
use Rattle.std.specs.Prelude.{slice_get, Contains}
use Rattle.std.specs.List.{AllByRecursion}
use Rattle.std.proofs.lemmas.Option.{none-some, get_or_from_slice_get}
use Rattle.qu_base.specs.declared.party.ClientId.{ClientId}
use Rattle.qu_base.specs.declared.party.ObjectId.{ObjectId}
use Rattle.qu_base.specs.declared.party.Party.{Party}
use Rattle.qu_base.specs.declared.party.Party.TheVariants as party
use Rattle.qu_base.specs.declared.party.ReplicaId.{ReplicaId}
use Rattle.qu_base.specs.Bounds.{replicas}
use Rattle.qu_history.specs.declared.sets.SetOf.{SetOf}
use Rattle.qu_frames.specs.declared.frame.Body.{Body}
use Rattle.qu_frames.specs.declared.frame.Frame.{Frame}
use Rattle.qu_frames.specs.declared.frame.Frame.TheVariants as frame
use Rattle.qu_frames.specs.declared.frame.Letter.{Letter}
use Rattle.qu_verdicts.specs.declared.verdict.Verdict.{Verdict}
use Rattle.qu_history.specs.Sealing.{sealed_by}
use Rattle.qu_mends.specs.declared.accepted.Accepted.{Accepted}
use Rattle.qu_rows.specs.declared.decision.Decision.TheVariants.{Answers}
use Rattle.qu_rows.specs.State.{ReplicaState}
use Rattle.qu_fitting.specs.Holding.{accept_all}
use Rattle.qu_rows.specs.Rows.{asked_at, decision_on}
use Rattle.qu_rows.specs.Named.{named}
use Rattle.qu_replica.specs.Step.{answer_frame, reply, replica_on_frame, replica_on_received, replica_step, learned, handled}
use Rattle.qu_replica.specs.Step as own
use Rattle.qu_client.specs.declared.state.ClientState.{ClientState}
use Rattle.qu_client.specs.State.{Stepped}
use Rattle.qu_client.specs.declared.work.Work.{Work}
use Rattle.qu_client.specs.declared.whom.Whom.{Whom}
use Rattle.qu_client.specs.Rounds.{request_of, requests}
use Rattle.qu_client.proofs.Sent.{each_letter}
use Rattle.qu_client.specs.Steps.{client_invoke, client_step, client_tick}
use Rattle.qu_runs.proofs.Fits.ClientLetters.{step_sends as client_step_sends, tick_sends, invoke_sends}
use Rattle.qu_machine.proofs.Firsts.{at_contains}
use Rattle.qu_trace.specs.declared.event.Event.{Event}
use Rattle.qu_trace.specs.declared.event.Event.TheVariants.{Invoke, Deliver, Tick, Inject}
use Rattle.qu_trace.specs.declared.trace.Entry.{Entry}
use Rattle.qu_trace.specs.declared.trace.Trace.{Trace}
use Rattle.qu_world.specs.State.{WorldState, numbered, letter_of}
use Rattle.qu_world.specs.Step.{world_step, unchanged, at_replica, at_client, received, delivered}
use Rattle.qu_world.specs.Run.{IsRun}
use Rattle.qu_claims.specs.Times.{world_after}
use Rattle.qu_replies.specs.Replies.{IsReplyTo}
use Rattle.qu_claims.specs.Handling.{Handles}
use Rattle.qu_accepts.proofs.Happenings.{handled_fits, handles_at}
use Rattle.qu_runs.proofs.Worlds.LaterLetters.{letter_later}
use Rattle.qu_runs.specs.Plain.{ArePlain}
use Rattle.qu_world.proofs.Each.{each_found, set_here}
use Rattle.qu_runs.proofs.Events.Entries.{entry_recorded}
use Rattle.qu_shown.proofs.OwnHistories.{IsInPlace}
use Rattle.qu_shown.proofs.Views.{true_world}
use Rattle.qu_runs.proofs.Worlds.WorldGrowth.{world_after-next}
use Rattle.qu_claims.specs.Carried.{Tells, Carries, Brings, handed}
use Rattle.qu_frames.specs.Formats.{frame_form}
use Rattle.qu_history.specs.Formats.{sets_form}
use Rattle.qu_history.specs.declared.sealed.Sealed.{Sealed}
use Rattle.qu_runs.proofs.Fits.Carrying.{AnswersFit, no_reply, signed_spelled, signed_carries, brings_decoded}
use Rattle.qu_runs.proofs.Fits.StepLetters.{CarriesOther, Answered, on_frame_each, no_reply_in}
use Rattle.qu_runs.proofs.Fits.Fitting.{fit_step, handed_fits}
use Rattle.qu_frames.specs.Signing.{brought, signed, signature}
use Rattle.qu_fitting.proofs.FitRequests.{blank_sized, request-fits}
use Rattle.qu_runs.proofs.Events.Handing.{letter_handed, offered_handed}
use Rattle.qu_runs.proofs.Fits.FitParts.{fits_parts}
use Rattle.qu_rows.specs.Allowed.{has_parts}
use Rattle.qu_trace.specs.Faulty.{is_faulty}
use Rattle.qu_shown.proofs.AskedLetters.{AskedBy, asked_letter}
use Rattle.qu_frames.specs.Decoding.{decoded}
use Rattle.qu_waiting.specs.Waiting.{TakenRequest}
use Rattle.qu_replica.proofs.States.Growth.{accept_all-me}
use Rattle.qu_replica.proofs.States.Learning.{is_learned}

-- ---- clients send requests

-- the letter carries no reply
abbrev IsNoReply : Letter → Type 0
IsNoReply letter =
    (replica : ReplicaId) (client : ClientId) (number round : ℕ) (verdict : Verdict) (shown : List Sealed)
    → Tells letter replica client number round verdict shown → ⊥

abbrev SendsNoReply : Stepped → Type 0
SendsNoReply stepped = AllByRecursion IsNoReply stepped.letters

asked_no_reply : (state : ClientState) (work : Work) (whom : Whom)
    → AllByRecursion IsNoReply (requests state.keys state.me work whom)
asked_no_reply state work whom =
    let sent : Frame = request_of state.me work in
    each_letter state.keys state.me work whom IsNoReply (replicas state.keys.bounds) 0
    (λ replica below asked.
    let to : Party = party.Replica (record { 0 = replica }) in
    no_reply (record { from = party.Client state.me; to = to; text = signed state.keys to sent }) state.me work.number
    work.round work.sets work.body (signature state.keys to sent) (signed_spelled state.keys to sent blank_sized))

-- ---- who sends a reply

-- the letter at this place among those that a step sends is a replica's, upon a text that is handed to it
record IsAnswer (old new : WorldState) (event : Event) (place : ℕ) (sent : Letter) : Type 0 where
  text : List ℕ
  me : ReplicaId
  is_handed : handed old event ≡ Some (party.Replica me, text)
  state : ReplicaState
  is_state : slice_get old.replicas me.0 ≡ Some state
  is_new : slice_get new.replicas me.0 ≡ Some (replica_step state text).0
  sent_by : slice_get (replica_step state text).1 place ≡ Some sent

-- what a step records, and whose the replies are
record Sends (old new : WorldState) (event : Event) : Type 0 where
  entry : Entry
  of_event : entry.event ≡ event
  made : new.entries ≡ old.entries ++ entry ∷ []
  replies : (place : ℕ) (sent : Letter) → slice_get entry.letters place ≡ Some sent
      → (replica : ReplicaId) (client : ClientId) (number round : ℕ) (verdict : Verdict) (shown : List Sealed)
      → Tells sent replica client number round verdict shown → IsAnswer old new event place sent

unchanged_sends : (world : WorldState) (event : Event) → Sends world (unchanged world event) event
unchanged_sends world event = record {
  entry = record { event = event; letters = []; ended = None };
  of_event = refl;
  made = refl;
  replies = λ place sent found _ _ _ _ _ _ tells. absurd (none-some sent found);
}

client_sends : (world : WorldState) (event : Event) (me : ClientId) (move : ClientState → Stepped)
    (found : Option ClientState) → ((state : ClientState) → SendsNoReply (move state))
    → Sends world (at_client world event me move found) event
client_sends world event me move None moves = unchanged_sends world event
client_sends world event me move (Some state) moves = record {
  entry = _;
  of_event = refl;
  made = refl;
  replies = λ place sent found replica client number round verdict shown tells. absurd
      (each_found IsNoReply (move state).letters place sent (moves state) found replica client number round
      verdict shown tells);
}

replica_sends : (world : WorldState) (event : Event) (text : List ℕ) (me : ReplicaId)
    (found : Option ReplicaState) → handed world event ≡ Some (party.Replica me, text)
    → slice_get world.replicas me.0 ≡ found → Sends world (at_replica world event me text found) event
replica_sends world event text me None hands is = unchanged_sends world event
replica_sends world event text me (Some state) hands is = record {
  entry = _;
  of_event = refl;
  made = refl;
  replies = λ place sent found _ _ _ _ _ _ tells. record {
    text = text;
    me = me;
    is_handed = hands;
    state = state;
    is_state = is;
    is_new = set_here world.replicas me.0 state (replica_step state text).0 is;
    sent_by = found;
  };
}

received_sends : (world : WorldState) (event : Event) (to : Party) (text : List ℕ)
    → handed world event ≡ Some (to, text) → Sends world (received world event to text) event
received_sends world event (party.Replica me) text hands =
    replica_sends world event text me (slice_get world.replicas me.0) hands refl
received_sends world event (party.Client me) text hands =
    client_sends world event me (λ (state : ClientState). client_step state text)
    (numbered world.clients me.0)
    (λ state. client_step_sends state (AllByRecursion IsNoReply) tt (asked_no_reply state) text)

delivered_sends : (world : WorldState) (asked : ℕ) → AtCorrect world (Deliver asked) → (found : Option Letter)
    → letter_of world asked ≡ found → Sends world (delivered world (Deliver asked) found) (Deliver asked)
delivered_sends world asked correct None is = unchanged_sends world (Deliver asked)
delivered_sends world asked correct (Some letter) is =
    received_sends world (Deliver asked) letter.to letter.text (letter_handed world asked letter correct is)

step_sent : (world : WorldState) (event : Event) → (AtCorrect world event → Sends world (moved world event) event)
    → Sends world (world_step world event) event
step_sent world event step =
    steps.step_cases (λ (made : WorldState). Sends world made event) world event (unchanged_sends world event) step

step_sends : (world : WorldState) (event : Event) → Sends world (world_step world event) event
step_sends world (Invoke client op) =
    step_sent world (Invoke client op) (λ correct.
    client_sends world (Invoke client op) client (λ (state : ClientState). client_invoke state op)
    (numbered world.clients client.0)
    (λ state. invoke_sends state (AllByRecursion IsNoReply) tt (asked_no_reply state) op))
step_sends world (Inject to text) =
    step_sent world (Inject to text) (λ correct.
    received_sends world (Inject to text) to text (offered_handed world (Inject to text) to text correct refl))
step_sends world (Deliver asked) =
    step_sent world (Deliver asked) (λ correct. delivered_sends world asked correct (letter_of world asked) refl)
step_sends world (Tick client) =
    step_sent world (Tick client) (λ correct.
    client_sends world (Tick client) client client_tick (numbered world.clients client.0)
    (λ state. tick_sends state (AllByRecursion IsNoReply) tt (asked_no_reply state)))

-- ---- what a reply is

-- the verdict is what the replica decided upon a request of this client, number and round, with what the frame tells
record IsDecidedOn (state : ReplicaState) (taken : Frame) (replica : ReplicaId) (client : ClientId)
    (number round : ℕ) (verdict : Verdict) : Type 0 where
  request : TakenRequest
  handles : handled state taken ≡ Some request
  client_is : request.client ≡ client
  number_is : request.number ≡ number
  round_is : request.round ≡ round
  accepted : List Accepted
  decided : decision_on (learned state taken)
      (asked_at (learned state taken) request.client request.number request.sets request.body) request.body
      ≡ Answers verdict accepted
  from : replica ≡ state.me

module _ (replica : ReplicaId) (client : ClientId) (number round : ℕ) (verdict : Verdict)
    (culled : List (ObjectId × ReplicaId)) (shown : List Sealed) (seal : List ℕ) where
  -- the fields of a reply are those of its request
  same_reply : (me : ReplicaId) (other : ClientId) (asked turn : ℕ) (given : Verdict)
      (none : List (ObjectId × ReplicaId)) (histories : List Sealed) (mac : List ℕ)
      → frame.Reply me other asked turn given none histories mac ≡ frame.Reply replica client number round verdict
      culled shown seal
      → (me ≡ replica) × (other ≡ client) × (asked ≡ number) × (turn ≡ round) × (given ≡ verdict)
  same_reply me other asked turn given none histories mac same = (cc, cc, cc, cc, cc)

  -- a letter that carries the reply is one to such a request
  abbrev RepliesSo : ReplicaState → Frame → Letter → Type 0
  RepliesSo state taken sent = Carries sent (frame.Reply replica client number round verdict culled shown seal)
      → IsDecidedOn state taken replica client number round verdict

  others : (state : ReplicaState) (taken : Frame) (letter : Letter) → CarriesOther letter
      → RepliesSo state taken letter
  others state taken letter other carries =
      absurd (no_reply_in letter other replica client number round verdict shown
      (record { culled = culled; mac = seal; carries = carries }))

  answer_decided : (state : ReplicaState) (taken : Frame) → AnswersFit state taken → (request : TakenRequest)
      → handled state taken ≡ Some request
      → Answered (RepliesSo state taken) (others state taken) (learned state taken) request
  answer_decided state taken fits request handles = λ given accepted is is_reply.
      let mid : ReplicaState = learned state taken in
      let new : ReplicaState = accept_all mid accepted in
      let to : Party = party.Client request.client in
      let made : Frame = answer_frame new request.client request.number request.round request.sets given in
      let same = same_reply new.me request.client request.number request.round given (named new request.sets)
      (map (sealed_by new.keys) (own.shown new request.sets)) (signature new.keys to made)
      (sym (signed_carries (reply new request.client request.number request.round request.sets given) new.keys to made
      (frame.Reply replica client number round verdict culled shown seal) (fits request handles given accepted is)
      refl is_reply)) in
      record {
        request = request;
        handles = handles;
        client_is = same.1;
        number_is = same.2;
        round_is = same.3;
        accepted = accepted;
        decided = is ∙ ap (λ (it : Verdict). Answers it accepted) same.4;
        from = sym same.0 ∙ accept_all-me mid accepted ∙ (is_learned state taken).me;
      }

  reply_decided : (state : ReplicaState) (taken : Frame) → AnswersFit state taken → (place : ℕ) (sent : Letter)
      → slice_get (replica_on_frame state taken).1 place ≡ Some sent
      → Carries sent (frame.Reply replica client number round verdict culled shown seal)
      → IsDecidedOn state taken replica client number round verdict
  reply_decided state taken fits place sent found is_reply =
      each_found (RepliesSo state taken) (replica_on_frame state taken).1 place sent
      (on_frame_each (RepliesSo state taken) (others state taken) state taken (answer_decided state taken fits)) found
      is_reply

-- the same of a text
record IsDecidedUpon (state : ReplicaState) (text : List ℕ) (replica : ReplicaId) (client : ClientId)
    (number round : ℕ) (verdict : Verdict) : Type 0 where
  taken : Frame
  brings : Brings state text taken
  on : IsDecidedOn state taken replica client number round verdict

decided_upon : (state : ReplicaState) (text : List ℕ) (replica : ReplicaId) (client : ClientId)
    (number round : ℕ) (verdict : Verdict) (shown : List Sealed) (read : Option Frame)
    → brought state.keys (party.Replica state.me) text ≡ read
    → ((taken : Frame) → decoded text ≡ Ok taken → AnswersFit state taken)
    → (place : ℕ) (sent : Letter) → slice_get (replica_step state text).1 place ≡ Some sent
    → Tells sent replica client number round verdict shown → IsDecidedUpon state text replica client number
    round verdict
decided_upon state text replica client number round verdict shown None read fits place sent found tells =
    absurd (none-some sent (ap (λ it. slice_get (replica_on_received state it).1 place) (sym read) ∙ found))
decided_upon state text replica client number round verdict shown (Some taken) read fits place sent found tells =
    record {
      taken = taken;
      brings = read;
      on = reply_decided replica client number round verdict tells.culled shown tells.mac state taken
          (fits taken (brings_decoded state text taken read)) place sent
          (ap (λ it. slice_get (replica_on_received state it).1 place) (sym read) ∙ found) tells.carries;
    }

-- ---- the replies of a run

-- the replica at a place has its number
named_here : (me replica : ReplicaId) (state : ReplicaState) → replica ≡ state.me → IsInPlace me.0 state
    → me.0 ≡ replica.0
named_here me replica state from in_place = sym (ap (λ (it : ReplicaId). it.0) from ∙ in_place.me)

-- a reply that an entry sends is a replica's to a request that the event of the entry hands over
pub reply_sent : (trace : Trace) → IsRun trace → ArePlain trace → (at : ℕ) → at < length trace.entries
    → (entry : Entry) → slice_get trace.entries at ≡ Some entry → (letter : Letter) → Contains entry.letters letter
    → (replica : ReplicaId) (client : ClientId) (number round : ℕ) (verdict : Verdict) (shown : List Sealed)
    → Tells letter replica client number round verdict shown
    → IsReplyTo trace at replica.0 client number round verdict
reply_sent trace is_run have at below entry is_entry letter holding replica client number round verdict shown is =
    let old : WorldState = world_after trace at in
    let new : WorldState = world_after trace (at + 1) in
    let event_is : (get_or trace.entries at entry).event ≡ entry.event =
    ap (λ (it : Entry). it.event) (get_or_from_slice_get trace.entries at entry entry is_entry) in
    let next : world_step old entry.event ≡ new = ap (world_step old) (sym event_is)
    ∙ sym (world_after-next trace at entry below) in
    let sends : Sends old new entry.event =
    subst (λ (it : WorldState). Sends old it entry.event) next
    (step_sends old entry.event) in
    let recorded : sends.entry ≡ entry = entry_recorded trace is_run at below entry sends.entry is_entry sends.made in
    let place : ℕ = holding.0 in
    let stands : slice_get (sends.entry).letters place ≡ Some letter =
    ap (λ (it : Entry). slice_get it.letters place) recorded ∙ at_contains entry.letters letter holding in
    let answer : IsAnswer old new entry.event place letter =
    sends.replies place letter stands replica client number round verdict shown is in
    let handed_here : handed old (get_or trace.entries at entry).event ≡ Some (party.Replica answer.me, answer.text) =
    ap (handed old) event_is ∙ answer.is_handed in
    let made : IsDecidedUpon answer.state answer.text replica client number round verdict =
    decided_upon answer.state answer.text replica client number round verdict shown
    (brought (answer.state).keys (party.Replica (answer.state).me) answer.text) refl
    (λ taken decodes. (fit_step trace is_run have.typed at below).answers answer.me answer.state answer.is_state taken
    (handed_fits trace is_run have.typed at entry below (party.Replica answer.me) answer.text handed_here taken
    decodes))
    place letter answer.sent_by is in
    let in_place : IsInPlace (answer.me).0 answer.state =
    (true_world trace is_run have at (omega arith)).replicas (answer.me).0 answer.state answer.is_state in
    let here : (answer.me).0 ≡ replica.0 = named_here answer.me replica answer.state made.on.from in_place in
    let request : TakenRequest = made.on.request in
    let mid : ReplicaState = learned answer.state made.taken in
    subst (λ (it : ℕ). IsReplyTo trace at it client number round verdict) here
    (record {
      old = answer.state;
      new = (replica_step answer.state answer.text).0;
      handles = handles_at trace is_run have at below (answer.me).0 answer.state
          (replica_step answer.state answer.text).0 answer.is_state answer.is_new (record {
            takes = record {
              entry = entry;
              is_entry = is_entry;
              text = answer.text;
              is_handed = answer.is_handed;
              steps = refl;
            };
            taken = made.taken;
            brings = made.brings;
          }) request made.on.handles;
      sets = request.sets;
      body = request.body;
      mac = request.mac;
      is_request = λ i. frame.Request (made.on.client_is i) (made.on.number_is i) (made.on.round_is i) request.sets
          request.body request.mac;
      accepted = made.on.accepted;
      decided =
          ap (λ (it : ClientId). decision_on mid (asked_at mid it number request.sets request.body) request.body)
          (sym made.on.client_is)
          ∙ ap (λ (it : ℕ). decision_on mid (asked_at mid request.client it request.sets request.body) request.body)
          (sym made.on.number_is) ∙ made.on.decided;
    })

-- ---- its request

-- what was asked by a time was asked by a later one
asked_later : (trace : Trace) (past later : ℕ) → past ≤ later → later ≤ length trace.entries
    → (client : ClientId) (number round : ℕ) (sets : List SetOf) (body : Body)
    → AskedBy trace past client number round sets body → AskedBy trace later client number round sets body
asked_later trace past later order within client number round sets body it = record {
  asked = it.asked;
  letter = it.letter;
  is_letter = letter_later trace past later it.asked it.letter order within it.is_letter;
  is_request = it.is_request;
}

-- a correct client sent the request that is handled
pub handled_letter : (trace : Trace) → ArePlain trace → (at : ℕ) → at < length trace.entries → (place : ℕ)
    (old new : ReplicaState) (handles : Handles trace at place old new) (client : ClientId) (number round : ℕ)
    (sets : List SetOf) (body : Body) (mac : List ℕ)
    → handles.carried ≡ frame.Request client number round sets body mac
    → is_faulty trace.setup (party.Client client) ≡ false → AskedBy trace at client number round sets body
handled_letter trace have at below place old new handles client number round sets body mac is_request correct =
    asked_later trace handles.since at handles.came (omega (arith, below)) client number round sets body
    (asked_letter trace have handles.since (omega (arith, below, handles.came)) handles.entry place handles.receiver
    handles.is_receiver handles.text
    (ap (λ (it : Entry). handed (world_after trace handles.since) it.event)
    (get_or_from_slice_get trace.entries handles.since handles.entry handles.entry handles.is_entry)
    ∙ handles.is_handed) client number round sets body mac
    (handles.brings ∙ ap (λ (it : Frame). Some it) is_request) correct)

module _ (trace : Trace) (is_run : IsRun trace) (have : ArePlain trace) (at : ℕ) (below : at < length trace.entries)
    (replica : ℕ) (client : ClientId) (number round : ℕ) (verdict : Verdict)
    (reply : IsReplyTo trace at replica client number round verdict) where
  -- it fits its format
  reply_fits : frame_form.Fits (frame.Request client number round reply.sets reply.body reply.mac)
  reply_fits =
      subst (λ (it : Frame). frame_form.Fits it) reply.is_request
      (handled_fits trace is_run have at below replica reply.old reply.new reply.handles)

  -- and so do its sets
  pub reply_sets : sets_form.Fits reply.sets
  reply_sets = (request-fits client number round reply.sets reply.body reply.mac reply_fits).shown

  -- it asks for what an operation may ask for
  pub reply_parts : IsTrue (has_parts reply.body)
  reply_parts = fits_parts (frame.Request client number round reply.sets reply.body reply.mac) reply_fits

  -- a correct client sent it
  pub reply_letter : is_faulty trace.setup (party.Client client) ≡ false
      → AskedBy trace at client number round reply.sets reply.body
  reply_letter correct =
      handled_letter trace have at below replica reply.old reply.new reply.handles client number round reply.sets
      reply.body reply.mac reply.is_request correct
