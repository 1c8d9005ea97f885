-- The event at which an act begins whose cached histories are current, in a run: the request that is sent, and the
-- client after it.
use Rattle.std.proofs.Common.{◌≡◌, ℕ, suc, ◌+◌, ◌<◌, false, List, [], ◌∷◌, ◌++◌, length, map, Option, None, Some, refl, sym, ap, subst, ◌∙◌, arith}
use Rattle.std.specs.Prelude.{slice_get, Contains}
use Rattle.std.proofs.lemmas.List.{length-map}
use Rattle.std.proofs.lemmas.List.Elements.{All-contains, Contains-append_right}
use Rattle.std.proofs.lemmas.Option.{slice_get_within, slice_get-get_or, same_Some}
use Rattle.qu_base.specs.declared.party.ClientId.{ClientId}
use Rattle.qu_base.specs.declared.party.ObjectId.{ObjectId}
use Rattle.qu_base.specs.declared.party.Party.{Party}
use Rattle.qu_base.specs.declared.party.Party.TheVariants as party
use Rattle.qu_base.specs.Bounds.{quorum, replicas}
use Rattle.qu_base.proofs.ThresholdFacts.{are_thresholds}
use Rattle.qu_stamp.specs.declared.candidate.Candidate.{Candidate}
use Rattle.qu_history.specs.declared.sets.SetOf.{SetOf}
use Rattle.qu_history.specs.Sets.{entries_of, method_at}
use Rattle.qu_objects.specs.declared.act.Method.{Method}
use Rattle.qu_objects.specs.declared.op.Op.{Op}
use Rattle.qu_objects.specs.declared.op.Op.TheVariants as op
use Rattle.qu_frames.specs.declared.frame.Body.TheVariants as body
use Rattle.qu_frames.specs.declared.frame.Frame.TheVariants as frame
use Rattle.qu_frames.specs.declared.frame.Letter.{Letter}
use Rattle.qu_machine.specs.declared.record.OpRecord.{OpRecord}
use Rattle.qu_rows.specs.State.{ReplicaState}
use Rattle.qu_client.specs.declared.state.ClientState.{ClientState}
use Rattle.qu_client.specs.declared.whom.Whom.TheVariants.{Preferred}
use Rattle.qu_client.specs.declared.work.Work.{Work}
use Rattle.qu_client.specs.Whom.{first_object}
use Rattle.qu_client.specs.Rounds.{requests, request_of}
use Rattle.qu_client.specs.Rounds as rounds
use Rattle.qu_client.specs.State.{Stepped}
use Rattle.qu_question.specs.Kept.{unmarked}
use Rattle.qu_client.specs.Steps.{client_invoke, next_number}
use Rattle.qu_trace.specs.declared.event.Event.TheVariants.{Invoke}
use Rattle.qu_trace.specs.declared.trace.Entry.{Entry}
use Rattle.qu_trace.specs.declared.trace.Setup.{Setup}
use Rattle.qu_trace.specs.declared.trace.Trace.{Trace}
use Rattle.qu_trace.specs.Faulty.{is_faulty}
use Rattle.qu_trace.specs.Operation.{operations_of, outcome_in}
use Rattle.qu_trace.specs.Letters.{letters_of}
use Rattle.qu_trace.proofs.LetterLaws.{letters-push}
use Rattle.qu_world.specs.State.{numbered, letter_of}
use Rattle.qu_world.specs.Step.{world_step, at_client, ended_by}
use Rattle.qu_world.specs.Run.{IsRun}
use Rattle.qu_world.proofs.Steps.{step_moved}
use Rattle.qu_claims.specs.Carried.{Asks, Brings}
use Rattle.qu_claims.specs.Times.{world_after}
use Rattle.qu_runs.specs.Plain.{ArePlain}
use Rattle.qu_runs.proofs.Digests.Plain.{setup_after}
use Rattle.qu_runs.proofs.Fits.Carrying.{brings_decoded}
use Rattle.qu_runs.proofs.Fits.Fitting.{fit_step}
use Rattle.qu_runs.proofs.Worlds.Keyed.{clients_keyed}
use Rattle.qu_rounds.proofs.Asking.{CarriesOnly, requests_carry, IsSameRequest, asks_only}
use Rattle.qu_values.proofs.Requests.ClientFacts.{IsAskedBy}
use Rattle.qu_claims.specs.Quick.{SendsAt, first_sets, asked_first}
use Rattle.qu_points.proofs.Operations.Began.{IsBegunIn, begun_in}
use Rattle.qu_claims.specs.Parts.{Names}
use Rattle.qu_quick.proofs.FirstRound.{act, first_work, invoke_is, asked_parties, asked_first-number}
use Rattle.qu_quick.proofs.Hearing.{IsMoveAt, moved_at}
use Rattle.qu_quick.proofs.MadeBefore.{own_client}

-- ---- letters of an event

numbered_in : (letters : List Letter) (letter : Letter) → Contains letters letter
    → (number : ℕ) × (numbered letters number ≡ Some letter)
numbered_in letters letter held =
    (suc held.0, slice_get-get_or letters held.0 letter held.1 ∙ ap (λ (it : Letter). Some it) held.2)

-- a letter that an event sends has a number after it
letter_sent : (trace : Trace) (at : ℕ) (entry : Entry) (letter : Letter)
    → (world_after trace (at + 1)).entries ≡ (world_after trace at).entries ++ entry ∷ []
    → Contains entry.letters letter → (number : ℕ) × (letter_of (world_after trace (at + 1)) number ≡ Some letter)
letter_sent trace at entry letter adds held =
    let before : List Entry = (world_after trace at).entries in
    let all : letters_of (world_after trace (at + 1)).entries ≡ letters_of before ++ entry.letters =
    ap letters_of adds ∙ letters-push before entry in
    numbered_in (letters_of (world_after trace (at + 1)).entries) letter
    (subst (λ (them : List Letter). Contains them letter) (sym all)
    (Contains-append_right (letters_of before) entry.letters letter held))

none_ended : (client : ClientId) (number : ℕ) (work : Option Work) → outcome_in client number
    (ended_by client work None) ≡ None
none_ended client number None = refl
none_ended client number (Some work) = refl

module _ (trace : Trace) (is_run : IsRun trace) (have : ArePlain trace) (operation : OpRecord)
    (among : Contains (operations_of trace) operation) (begin : ℕ) (begins : operation.invoked ≡ begin + 1)
    (state : ClientState) (is_state : numbered (world_after trace begin).clients (operation.client).0
    ≡ Some state) where
  abbrev client : ClientId
  client = operation.client

  pub began : IsBegunIn trace.entries operation
  began = begun_in trace operation among

  pub index_is : began.index ≡ begin
  index_is =
      let invoked : operation.invoked ≡ began.index + 1 = ap (λ (it : OpRecord). it.invoked) began.record_is in
      omega arith

  abbrev pub first_entry : Entry
  first_entry = began.entry

  pub is_first : slice_get trace.entries begin ≡ Some first_entry
  is_first = ap (slice_get trace.entries) (sym index_is) ∙ began.is_entry

  below : begin < length trace.entries
  below = slice_get_within trace.entries begin first_entry is_first

  correct : is_faulty (world_after trace begin).setup (party.Client client) ≡ false
  correct =
      ap (λ (setup : Setup). is_faulty setup (party.Client client)) (setup_after trace begin)
      ∙ own_client trace is_run operation among

  steps : world_step (world_after trace begin) first_entry.event
      ≡ at_client (world_after trace begin) (Invoke client operation.op) client
      (λ (it : ClientState). client_invoke it operation.op) (numbered (world_after trace begin).clients client.0)
  steps =
      ap (world_step (world_after trace begin)) began.event_is
      ∙ step_moved (world_after trace begin) (Invoke client operation.op) correct

  pub first_move : IsMoveAt trace client begin state (client_invoke state operation.op) first_entry
  first_move =
      moved_at trace is_run client begin first_entry is_first state is_state (Invoke client operation.op)
      (λ (it : ClientState). client_invoke it operation.op) steps

  module _ (parts : List (ObjectId × Method)) (is_act : operation.op ≡ op.Act parts) (bases : ObjectId → Candidate)
      (current : (object : ObjectId) → Names parts object
      → method_at trace.setup.bounds (entries_of object (first_sets state operation.op)) ≡ Some (bases object)) where
    abbrev pub sets : List SetOf
    sets = first_sets state (op.Act parts)

    abbrev pub work : Work
    work = first_work state parts

    pub sets_are : first_sets state operation.op ≡ sets
    sets_are = ap (first_sets state) is_act

    pub bounds_here : state.keys.bounds ≡ trace.setup.bounds
    bounds_here =
        ap (λ keys. keys.bounds)
        (clients_keyed trace begin (omega (arith, below)) client.0 state is_state).keys_are

    pub of_method : (object : ObjectId) → Names parts object
        → method_at trace.setup.bounds (entries_of object sets) ≡ Some (bases object)
    of_method object names =
        ap (λ (them : List SetOf). method_at trace.setup.bounds (entries_of object them)) (sym sets_are)
        ∙ current object names

    pub own_method : (object : ObjectId) → Names parts object
        → method_at state.keys.bounds (entries_of object sets) ≡ Some (bases object)
    own_method object names =
        ap (λ (bounds : ℕ). method_at bounds (entries_of object sets)) bounds_here ∙ of_method object names

    abbrev first_step : Stepped
    first_step = rounds.begins (record state { kept = unmarked state.kept }) work

    begun : client_invoke state operation.op ≡ first_step
    begun =
        ap (client_invoke state) is_act
        ∙ invoke_is state parts bases own_method

    -- ---- what is sent

    letters_are : first_entry.letters
        ≡ requests state.keys state.me work (Preferred (first_object (act state parts)))
    letters_are = first_move.letters ∙ ap (λ (it : Stepped). it.letters) begun

    pub asked_parties_are : map (λ (letter : Letter). letter.to) first_entry.letters
        ≡ asked_first trace.setup.bounds (first_object operation.op)
    asked_parties_are =
        ap (λ (letters : List Letter). map (λ (letter : Letter). letter.to) letters) letters_are
        ∙ asked_parties state.keys state.me work (Preferred (first_object (act state parts))) 0
        (replicas state.keys.bounds)
        ∙ ap (λ (bounds : ℕ). asked_first bounds (first_object (act state parts))) bounds_here
        ∙ ap (λ (what : Op). asked_first trace.setup.bounds (first_object what)) (sym is_act)

    pub asks_a_quorum : length first_entry.letters ≡ quorum trace.setup.bounds
    asks_a_quorum =
        sym (length-map first_entry.letters (λ (letter : Letter). letter.to))
        ∙ ap (λ (them : List Party). length them) asked_parties_are
        ∙ asked_first-number trace.setup.bounds (first_object operation.op)
        (are_thresholds trace.setup.bounds (is_run.setup).some_faults)

    -- no end is recorded
    pub none_ends_first : outcome_in client operation.number first_entry.ended ≡ None
    none_ends_first =
        ap (outcome_in client operation.number)
        (first_move.ended ∙ ap (λ (it : Stepped). ended_by client state.work it.ended) begun)
        ∙ none_ended client operation.number state.work

    pub after_first : numbered (world_after trace (begin + 1)).clients client.0 ≡ Some first_step.state
    after_first = first_move.next ∙ ap (λ (it : Stepped). Some it.state) begun

    -- ---- one of the letters, as it is read

    module _ (request : Letter) (sent : SendsAt trace begin request) (old : ReplicaState) (mac : List ℕ)
        (brings : Brings old request.text (frame.Request client operation.number 1 sets
        (body.Act parts) mac)) where
      among_letters : Contains first_entry.letters request
      among_letters =
          subst (λ (it : Entry). Contains it.letters request)
          (same_Some sent.entry first_entry (sym sent.is_entry ∙ is_first)) sent.sent

      asks : Asks request client operation.number 1 sets (body.Act parts)
      asks = record {
        mac = mac;
        carries = brings_decoded old request.text (frame.Request client operation.number 1 sets
            (body.Act parts) mac) brings;
      }

      abbrev numbered_so : (number : ℕ) × (letter_of (world_after trace (begin + 1)) number ≡ Some request)
      numbered_so = letter_sent trace begin first_entry request first_move.adds among_letters

      -- it is a request that was sent when the operation began
      pub asked_then : (number : ℕ)
          × IsAskedBy trace operation.invoked number request client operation.number 1 sets
          (body.Act parts)
      asked_then = (
        numbered_so.0,
        record {
          within = omega (arith, below, begins);
          is_letter = subst (λ (count : ℕ). letter_of (world_after trace count) numbered_so.0 ≡ Some request)
              (sym begins) numbered_so.1;
          is_request = asks;
        },
      )

      only : CarriesOnly state.keys (request_of state.me work) request
      only =
          All-contains (CarriesOnly state.keys (request_of state.me work)) _ request
          (requests_carry state.keys state.me work (Preferred (first_object (act state parts)))
          ((fit_step trace is_run have.typed begin below).asks client.0 first_step.state after_first work refl))
          (subst (λ (letters : List Letter). Contains letters request) letters_are among_letters)

      -- so that the operation has the number that its client gave it
      pub number_is : next_number state.last_request ≡ operation.number
      number_is =
          let same : IsSameRequest client state.me operation.number work.number 1 work.round sets work.sets
          (body.Act parts) work.body =
          asks_only state.keys state.me work request only client operation.number 1 sets
          (body.Act parts) asks in
          sym same.number_is
