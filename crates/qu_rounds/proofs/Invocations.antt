-- Each request of a run is one of an operation that the trace shows, and that began before.
use Rattle.qu_world.proofs.Steps.{step_cases, step_moved}
use Rattle.qu_world.specs.Step.{unchanged, moved}
use Rattle.std.proofs.Common.{◌≡◌, Bool, true, false, cond, ℕ, zero, suc, ◌+◌, ◌<◌, ◌≤◌, ◌≢◌, List, [], ◌∷◌, ◌++◌, length, take, drop, get_or, Option, None, Some, refl, sym, ap, subst, ◌∙◌, add-one, arith, inl, inr}
use Rattle.std.specs.Prelude.{slice_get}
use Rattle.std.specs.List.{All}
use Rattle.std.proofs.lemmas.Bool.{ne_eqb, cases_Bool, cases_eq}
use Rattle.std.proofs.lemmas.List.Elements.{All-nil, All-append, All-weaker}
use Rattle.std.proofs.lemmas.Option.{same_Some, slice_get_within, get_or_from_slice_get}
use Rattle.qu_base.specs.declared.party.ClientId.{ClientId}
use Rattle.qu_base.specs.declared.party.ReplicaId.{ReplicaId}
use Rattle.qu_base.specs.declared.party.Party.{Party}
use Rattle.qu_base.specs.declared.party.Party.TheVariants as party
use Rattle.qu_base.proofs.Numbered.{client_is}
use Rattle.qu_history.specs.declared.sets.SetOf.{SetOf}
use Rattle.qu_objects.specs.declared.op.Op.{Op}
use Rattle.qu_frames.specs.declared.frame.Body.{Body}
use Rattle.qu_frames.specs.declared.frame.Frame.TheVariants as frame
use Rattle.qu_frames.specs.declared.frame.Letter.{Letter}
use Rattle.qu_frames.specs.Body.{body_of}
use Rattle.qu_rows.specs.State.{ReplicaState}
use Rattle.qu_replica.specs.Step.{replica_step}
use Rattle.qu_client.specs.declared.state.ClientState.{ClientState}
use Rattle.qu_client.specs.State.{Stepped}
use Rattle.qu_client.specs.declared.work.Work.{Work}
use Rattle.qu_client.specs.State.{client_at_start}
use Rattle.qu_client.specs.Steps.{client_step, client_invoke, client_tick}
use Rattle.qu_client.specs.Sound.{last_number}
use Rattle.qu_trace.specs.declared.event.Event.{Event}
use Rattle.qu_trace.specs.declared.event.Event.TheVariants.{Invoke, Deliver, Tick, Inject}
use Rattle.qu_trace.specs.declared.trace.Entry.{Entry}
use Rattle.qu_trace.specs.declared.trace.Setup.{Setup}
use Rattle.qu_trace.specs.declared.trace.Trace.{Trace}
use Rattle.qu_trace.specs.Faulty.{is_faulty}
use Rattle.qu_trace.specs.Letters.{letters_of}
use Rattle.qu_trace.specs.Operation.{invokes, begun_by, record_of}
use Rattle.qu_world.specs.State.{WorldState, opening_world, opening_clients, numbered, with_numbered, letter_of, ring_of}
use Rattle.qu_world.specs.Step.{world_step, at_client, at_replica, received, delivered, ended_by}
use Rattle.qu_world.specs.Run.{bar_of, IsRun}
use Rattle.qu_runs.proofs.Digests.Plain.{setup_after}
use Rattle.qu_claims.specs.Times.{world_after}
use Rattle.qu_rounds.specs.Invocations.{IsRequestOf}
use Rattle.qu_runs.proofs.Worlds.WorldGrowth.{world_after-next, world_after-none}
use Rattle.qu_runs.proofs.Events.Beginning.{operation_begun, begun_one, begun_same, happens, IsFree, may_invoke}
use Rattle.qu_rounds.proofs.Requesting.{IsAsked, asked_later, replica_asked, IsUnderWay, IsAtWork, IsClientAt, client_later, client_steps, client_step-asked, client_ticks, client_tick-asked, client_begins, client_begins-asked, op_for}
use Rattle.qu_runs.proofs.Small.{some_entry}
use Rattle.qu_world.proofs.Each.{with_cases, numbered_here}
use Rattle.qu_claims.specs.Carried.{Asks}
use Rattle.qu_runs.specs.Plain.{IsPlain, ArePlain}
use Rattle.qu_runs.proofs.Fits.Carrying.{AsksFit, IsFitStep}
use Rattle.qu_runs.proofs.Fits.Fitting.{fit_step}
use Rattle.qu_trace.proofs.LetterLaws.{letters-push}
use Rattle.qu_seal.specs.Keys.{Ring}
use Rattle.qu_runs.proofs.Events.Handing.{injected_cases}

letters_next : (trace : Trace) (count : ℕ) (entries : List Entry) (entry : Entry) → All (IsAsked trace count)
    (letters_of entries) → All (IsAsked trace (count + 1)) entry.letters → All (IsAsked trace (count + 1))
    (letters_of (entries ++ entry ∷ []))
letters_next trace count entries entry old new =
    subst (All (IsAsked trace (count + 1))) (sym (letters-push entries entry))
    (All-append (IsAsked trace (count + 1)) (letters_of entries) entry.letters
    (All-weaker (IsAsked trace count) (IsAsked trace (count + 1))
    (λ (letter : Letter) (is : IsAsked trace count letter). asked_later trace count (count + 1) letter
    (omega arith) is) (letters_of entries) old)
    new)

-- ---- worlds

-- how many operations the client with this number began in so many events, none where it is faulty
abbrev begun_at : Trace → ℕ → ℕ → ℕ
begun_at trace count number =
    let client : ClientId = record { 0 = number } in
    cond (is_faulty trace.setup (party.Client client)) 0 (begun_by client (take count trace.entries))

still_begun : (trace : Trace) (count : ℕ) (number : ℕ)
    → begun_by (record { 0 = number }) (take (count + 1) trace.entries)
    ≡ begun_by (record { 0 = number }) (take count trace.entries)
    → begun_at trace (count + 1) number ≡ begun_at trace count number
still_begun trace count number same =
    ap (λ (many : ℕ). cond (is_faulty trace.setup (party.Client (record { 0 = number }))) 0 many) same

none_begun : (trace : Trace) (count other : ℕ) (client : ClientId) → is_faulty trace.setup (party.Client client) ≡ true
    → begun_at trace count client.0 ≡ begun_at trace other client.0
none_begun trace count other client faulty =
    ap (λ (it : Bool). cond it 0 (begun_by client (take count trace.entries))) faulty
    ∙ sym (ap (λ (it : Bool). cond it 0 (begun_by client (take other trace.entries))) faulty)

begun_if_correct : (trace : Trace) (count : ℕ) (client : ClientId)
    → is_faulty trace.setup (party.Client client) ≡ false
    → begun_at trace count client.0 ≡ begun_by client (take count trace.entries)
begun_if_correct trace count client correct =
    ap (λ (it : Bool). cond it 0 (begun_by client (take count trace.entries))) correct

-- clients and letters are as the first events of the trace show
record IsShown (trace : Trace) (count : ℕ) (world : WorldState) : Type 0 where
  clients : (number : ℕ) (state : ClientState) → numbered world.clients number ≡ Some state
      → IsClientAt trace count (begun_at trace count number) number state
  letters : All (IsAsked trace count) (letters_of world.entries)

-- what one event more leaves
module _ (trace : Trace) (count : ℕ) (world : WorldState) (shown : IsShown trace count world) where
  stays_shown : (number : ℕ) (state : ClientState) → begun_at trace (count + 1) number ≡ begun_at trace count
      number → numbered world.clients number ≡ Some state → IsClientAt trace (count + 1)
      (begun_at trace (count + 1) number) number state
  stays_shown number state same found =
      subst (λ (begun : ℕ). IsClientAt trace (count + 1) begun number state) (sym same)
      (client_later trace count (count + 1) (begun_at trace count number) number state (omega arith)
      (shown.clients number state found))

  moves_shown : (me : ClientId) (new : ClientState)
      → ((number : ℕ) → number ≢ me.0 → begun_at trace (count + 1) number ≡ begun_at trace count number)
      → IsClientAt trace (count + 1) (begun_at trace (count + 1) me.0) me.0 new
      → (number : ℕ) (state : ClientState) → numbered (with_numbered world.clients me.0 new) number ≡ Some state
      → IsClientAt trace (count + 1) (begun_at trace (count + 1) number) number state
  moves_shown me new quiet here number state found =
      elim (with_cases world.clients me.0 number new state found) [
        | inl at ↦
            let same_number : number ≡ me.0 = at.0 in
            let same_state : state ≡ new = at.1 in
            rw (same_number, same_state) here
        | inr other ↦ stays_shown number state (quiet number other.0) other.1
      ]

  -- an event that no client begins an operation at
  module _ (event : Event) (quiet : (number : ℕ) → begun_at trace (count + 1) number ≡ begun_at trace count
      number) where
    idle_shown : IsShown trace (count + 1)
        (record world { entries = world.entries ++ (record { event = event; letters = []; ended = None }) ∷ [] })
    idle_shown = record {
      clients = λ number state found. stays_shown number state (quiet number) found;
      letters = letters_next trace count world.entries (record { event = event; letters = []; ended = None })
          shown.letters (All-nil (IsAsked trace (count + 1)));
    }

    client_shown : (me : ClientId) (move : ClientState → Stepped) (found : Option ClientState)
        → numbered world.clients me.0 ≡ found
        → ((state : ClientState) → IsClientAt trace (count + 1) (begun_at trace (count + 1) me.0) me.0 state
        → AsksFit (move state).state → IsClientAt trace (count + 1) (begun_at trace (count + 1) me.0) me.0
        (move state).state × All (IsAsked trace (count + 1)) (move state).letters)
        → IsFitStep world (at_client world event me move found) → IsShown trace (count + 1)
        (at_client world event me move found)
    client_shown me move None is moved fits = idle_shown
    client_shown me move (Some state) is moved fits =
        let before : IsClientAt trace (count + 1) (begun_at trace (count + 1) me.0) me.0 state =
        stays_shown me.0 state (quiet me.0) is in
        let fit : AsksFit (move state).state =
        fits.asks me.0 (move state).state (numbered_here world.clients me.0 state (move state).state is) in
        record {
          clients = moves_shown me (move state).state (λ number other. quiet number) (moved state before fit).0;
          letters = letters_next trace count world.entries
              (record {
                event = event;
                letters = (move state).letters;
                ended = ended_by me state.work
                    (move state).ended;
              }) shown.letters (moved state before fit).1;
        }

    replica_shown : (me : ReplicaId) (text : List ℕ) (found : Option ReplicaState) → IsShown trace (count + 1)
        (at_replica world event me text found)
    replica_shown me text None = idle_shown
    replica_shown me text (Some state) = record {
      clients = λ number held found. stays_shown number held (quiet number) found;
      letters = letters_next trace count world.entries
          (record { event = event; letters = (replica_step state text).1; ended = None }) shown.letters
          (replica_asked trace (count + 1) state text);
    }

    received_shown : (to : Party) (text : List ℕ) → IsFitStep world (received world event to text)
        → IsShown trace (count + 1) (received world event to text)
    received_shown (party.Replica me) text fits = replica_shown me text (slice_get world.replicas me.0)
    received_shown (party.Client me) text fits =
        client_shown me (λ (state : ClientState). client_step state text) (numbered world.clients me.0) refl
        (λ state is fit. (
          client_steps trace (count + 1) (begun_at trace (count + 1) me.0) me.0 state text is fit,
          client_step-asked trace (count + 1) (begun_at trace (count + 1) me.0) me.0 state text is fit,
        ))
        fits

    delivered_shown : (letter : Option Letter) → IsFitStep world (delivered world event letter)
        → IsShown trace (count + 1) (delivered world event letter)
    delivered_shown None fits = idle_shown
    delivered_shown (Some letter) fits = received_shown letter.to letter.text fits

    ticked_shown : (me : ClientId)
        → IsFitStep world (at_client world event me client_tick (numbered world.clients me.0))
        → IsShown trace (count + 1) (at_client world event me client_tick (numbered world.clients me.0))
    ticked_shown me fits =
        client_shown me client_tick (numbered world.clients me.0) refl
        (λ state is fit. (
          client_ticks trace (count + 1) (begun_at trace (count + 1) me.0) me.0 state is fit,
          client_tick-asked trace (count + 1) (begun_at trace (count + 1) me.0) me.0 state is fit,
        ))
        fits

  -- an event at which a client begins an operation
  invoked_shown : (client : ClientId) (what : Op) → IsFree world.clients client
      → ((number : ℕ) → number ≢ client.0 → begun_at trace (count + 1) number ≡ begun_at trace count number)
      → begun_at trace (count + 1) client.0 ≡ begun_at trace count client.0 + 1
      → IsRequestOf trace (count + 1) client (begun_at trace count client.0 + 1) (body_of what)
      → IsFitStep world (moved world (Invoke client what)) → IsShown trace (count + 1)
      (moved world (Invoke client what))
  invoked_shown client what free quiet one request fits =
      let state : ClientState = free.state in
      let begun : ℕ = begun_at trace count client.0 in
      let before : IsClientAt trace count begun client.0 state = shown.clients client.0 state free.found in
      let last : last_number state.last_request ≡ begun =
      subst (λ (work : Option Work). IsAtWork trace count begun state.me state.last_request work) free.free
      before.at_work in
      let asks : IsRequestOf trace (count + 1) state.me (begun + 1) (body_of what) =
      subst (λ (me : ClientId). IsRequestOf trace (count + 1) me (begun + 1) (body_of what))
      (client_is client state.me (sym before.named)) request in
      let fit : AsksFit (client_invoke state what).state =
      (subst (λ (found : Option ClientState). IsFitStep world
      (at_client world (Invoke client what) client (λ (it : ClientState). client_invoke it what) found))
      free.found fits).asks client.0 (client_invoke state what).state
      (numbered_here world.clients client.0 state (client_invoke state what).state free.found) in
      let begins : IsClientAt trace (count + 1) (begun_at trace (count + 1) client.0) client.0
      (client_invoke state what).state =
      subst (λ (many : ℕ). IsClientAt trace (count + 1) many client.0 (client_invoke state what).state) (sym one)
      (client_begins trace (count + 1) begun state what last asks client.0 before.named fit) in
      subst (λ (found : Option ClientState). IsShown trace (count + 1)
      (at_client world (Invoke client what) client (λ (it : ClientState). client_invoke it what) found))
      (sym free.found)
      (record {
        clients = moves_shown client (client_invoke state what).state quiet begins;
        letters =
            letters_next trace count world.entries
            (record {
              event = Invoke client what;
              letters = (client_invoke state what).letters;
              ended = ended_by client state.work (client_invoke state what).ended;
            })
            shown.letters (client_begins-asked trace (count + 1) begun state what last asks fit);
      })

  -- the next event of the trace
  module _ (default : Entry) (below : count < length trace.entries) where
    quiet_by : (event : Event) → (get_or trace.entries count default).event ≡ event → (number : ℕ)
        → invokes (record { 0 = number }) event ≡ false → begun_at trace (count + 1) number
        ≡ begun_at trace count number
    quiet_by event is number other =
        still_begun trace count number
        (begun_same trace.entries count default (record { 0 = number }) below
        (ap (invokes (record { 0 = number })) is ∙ other))

    -- an invocation at a faulty client makes nothing
    idle_invoked : (client : ClientId) (what : Op) → (get_or trace.entries count default).event ≡ Invoke client what
        → is_faulty trace.setup (party.Client client) ≡ true → world.setup ≡ trace.setup
        → IsShown trace (count + 1) (world_step world (Invoke client what))
    idle_invoked client what is faulty same =
        subst (IsShown trace (count + 1))
        (sym (ap (λ (it : Bool). cond it (unchanged world (Invoke client what)) (moved world (Invoke client what)))
        (ap (λ (setup : Setup). is_faulty setup (party.Client client)) same ∙ faulty)))
        (idle_shown (Invoke client what) quiet)
      where
        quiet : (number : ℕ) → begun_at trace (count + 1) number ≡ begun_at trace count number
        quiet number =
            elim (cases_eq number client.0) [
              | inl one ↦ subst (λ (it : ℕ). begun_at trace (count + 1) it ≡ begun_at trace count it) (sym one)
                  (none_begun trace (count + 1) count client faulty)
              | inr other ↦ quiet_by (Invoke client what) is number (ne_eqb number client.0 other)
            ]

    -- an invocation at a correct one begins an operation
    begins_shown : (client : ClientId) (what : Op) → (get_or trace.entries count default).event ≡ Invoke client what
        → bar_of world (Invoke client what) ≡ None → is_faulty trace.setup (party.Client client) ≡ false
        → world.setup ≡ trace.setup → IsFitStep world (world_step world (Invoke client what))
        → IsShown trace (count + 1) (world_step world (Invoke client what))
    begins_shown client what is may correct same fits =
        let here : is_faulty world.setup (party.Client client) ≡ false =
        ap (λ (setup : Setup). is_faulty setup (party.Client client)) same ∙ correct in
        let begun : begun_at trace count client.0 ≡ begun_by client (take count trace.entries) =
        begun_if_correct trace count client correct in
        subst (λ (made : WorldState). IsFitStep world made → IsShown trace (count + 1) made)
        (sym (step_moved world (Invoke client what) here))
        (invoked_shown client what (may_invoke world client what may here)
        (λ number other. quiet_by (Invoke client what) is number (ne_eqb number client.0 other))
        (begun_if_correct trace (count + 1) client correct
        ∙ begun_one trace.entries count default client what below is ∙ sym (ap (λ (many : ℕ). many + 1) begun))
        (record {
          operation = record_of client what (count + 1) (take count trace.entries) (drop count trace.entries);
          of_trace = operation_begun trace count default client what correct below is;
          of_client = refl;
          of_number = sym (ap (λ (many : ℕ). many + 1) begun);
          asks = inl refl;
          begun = omega arith;
        })) fits

    event_shown : (event : Event) → (get_or trace.entries count default).event ≡ event → world.setup ≡ trace.setup
        → bar_of world event ≡ None → IsPlain world event → IsFitStep world (world_step world event)
        → IsShown trace (count + 1) (world_step world event)
    event_shown (Invoke client what) is same may plain fits =
        elim (cases_Bool (is_faulty trace.setup (party.Client client))) [
          | inl faulty ↦ idle_invoked client what is faulty same
          | inr correct ↦ begins_shown client what is may correct same fits
        ]
    event_shown (Deliver number) is same may plain fits =
        let quiet : (number : ℕ) → begun_at trace (count + 1) number ≡ begun_at trace count number =
        λ it. quiet_by (Deliver number) is it refl in
        step_cases (λ (made : WorldState). IsFitStep world made → IsShown trace (count + 1) made) world
        (Deliver number) (λ fit. idle_shown (Deliver number) quiet)
        (λ correct. delivered_shown (Deliver number) quiet (letter_of world number)) fits
    event_shown (Inject to text) is same may plain fits =
        let quiet : (number : ℕ) → begun_at trace (count + 1) number ≡ begun_at trace count number =
        λ it. quiet_by (Inject to text) is it refl in
        injected_cases world to text (λ (event : Event) (new : WorldState). IsFitStep world new
        → IsShown trace (count + 1) new)
        (λ fit. idle_shown (Inject to text) quiet)
        (λ number letter sent hands fit. received_shown (Inject letter.to letter.text) quiet letter.to letter.text fit)
        (λ made hands fit. received_shown (Inject to text) quiet to text fit)
        plain fits
    event_shown (Tick client) is same may plain fits =
        let quiet : (number : ℕ) → begun_at trace (count + 1) number ≡ begun_at trace count number =
        λ it. quiet_by (Tick client) is it refl in
        step_cases (λ (made : WorldState). IsFitStep world made → IsShown trace (count + 1) made) world
        (Tick client) (λ fit. idle_shown (Tick client) quiet) (λ correct. ticked_shown (Tick client) quiet client) fits

-- ---- runs

opening_from : (trace : Trace) (first many : ℕ) (keys : Ring) (index number : ℕ) (state : ClientState)
    → number ≡ first + index → slice_get (opening_clients first many keys) index ≡ Some state
    → IsClientAt trace 0 0 number state
unfolding opening_clients
opening_from trace first zero keys index number state at found = absurd cc
opening_from trace first (suc many) keys zero number state at found =
    subst (IsClientAt trace 0 0 number) (same_Some (client_at_start (record { 0 = first }) keys keys.seed) state found)
    (record { named = omega arith; sound = tt; at_work = refl })
opening_from trace first (suc many) keys (suc index) number state at found =
    opening_from trace (first + 1) many keys index number state (omega arith) found

begun_first : (trace : Trace) (number : ℕ) → begun_at trace 0 number ≡ 0
unfolding begun_by
begun_first trace number = by (is_faulty trace.setup (party.Client (record { 0 = number })))
  where
    by : (faulty : Bool) → ◌≡◌ {A = ℕ} (cond faulty 0 0) 0
    by true = refl
    by false = refl

opening_client : (trace : Trace) (number : ℕ) (state : ClientState)
    → numbered (opening_clients 1 trace.setup.clients (ring_of trace.setup)) number ≡ Some
    state → IsClientAt trace 0 (begun_at trace 0 number) number state
opening_client trace zero state found = absurd cc
opening_client trace (suc index) state found =
    subst (λ (begun : ℕ). IsClientAt trace 0 begun (suc index) state) (sym (begun_first trace (suc index)))
    (opening_from trace 1 trace.setup.clients (ring_of trace.setup) index (suc index) state
    (omega arith) found)

opening_shown : (trace : Trace) → IsShown trace 0 (opening_world trace.setup)
unfolding letters_of
opening_shown trace = record { clients = opening_client trace; letters = All-nil (IsAsked trace 0) }

world_shown : (trace : Trace) → IsRun trace → ArePlain trace → (count : ℕ) → count ≤ length trace.entries
    → IsShown trace count (world_after trace count)
world_shown trace is have zero within = subst (IsShown trace 0) (sym (world_after-none trace)) (opening_shown trace)
world_shown trace is have (suc count) within =
    let default : Entry = some_entry trace.entries (omega arith) in
    let before : IsShown trace count (world_after trace count) = world_shown trace is have count (omega arith) in
    let after : IsShown trace (count + 1)
    (world_step (world_after trace count) (get_or trace.entries count default).event) =
    event_shown trace count (world_after trace count) before default (omega arith)
    (get_or trace.entries count default).event refl (setup_after trace count)
    (happens trace is count default (omega arith))
    (have.plain_at count default (omega arith))
    (subst (IsFitStep (world_after trace count)) (world_after-next trace count default (omega arith))
    (fit_step trace is have.typed count (omega arith))) in
    subst (λ (many : ℕ). IsShown trace many (world_after trace many)) (add-one count)
    (subst (IsShown trace (count + 1)) (sym (world_after-next trace count default (omega arith))) after)

asked_by : (trace : Trace) (count : ℕ) (letters : List Letter) (index : ℕ) (letter : Letter)
    → All (IsAsked trace count) letters → slice_get letters index ≡ Some letter → IsAsked trace count letter
asked_by trace count letters index letter all found =
    subst (IsAsked trace count) (get_or_from_slice_get letters index letter letter found)
    (all index letter (slice_get_within letters index letter found))

numbered_asked : (trace : Trace) (count number : ℕ) (letters : List Letter) (letter : Letter)
    → All (IsAsked trace count) letters → numbered letters number ≡ Some letter → IsAsked trace count letter
numbered_asked trace count zero letters letter all found = absurd cc
numbered_asked trace count (suc index) letters letter all found = asked_by trace count letters index letter all found

-- each request that was sent is one of an operation, which began before
pub request_of : (trace : Trace) → IsRun trace → ArePlain trace → (count : ℕ) → count ≤ length trace.entries
    → (number : ℕ) (letter : Letter) → letter_of (world_after trace count) number ≡ Some letter
    → (client : ClientId) (asked round : ℕ) (sets : List SetOf) (body : Body)
    → Asks letter client asked round sets body → IsRequestOf trace count client asked body
request_of trace is have count within number letter found client asked round sets body request =
    let shown : IsShown trace count (world_after trace count) = world_shown trace is have count within in
    let sent : IsAsked trace count letter =
    numbered_asked trace count number (letters_of (world_after trace count).entries) letter shown.letters found in
    sent.asked (frame.Request client asked round sets body request.mac) request.carries

-- and so is the work of each client
pub work_of : (trace : Trace) → IsRun trace → ArePlain trace → (count : ℕ) → count ≤ length trace.entries
    → (client : ClientId) (state : ClientState) → numbered (world_after trace count).clients client.0 ≡ Some state
    → (work : Work) → state.work ≡ Some work → IsRequestOf trace count client work.number (body_of work.op)
work_of trace is have count within client state found work working =
    let shown : IsShown trace count (world_after trace count) = world_shown trace is have count within in
    let at : IsClientAt trace count (begun_at trace count client.0) client.0 state =
    shown.clients client.0 state found in
    let under_way : IsUnderWay trace count (begun_at trace count client.0) state.me work =
    subst (λ (held : Option Work). IsAtWork trace count (begun_at trace count client.0) state.me
    state.last_request held) working at.at_work in
    subst (λ (me : ClientId). IsRequestOf trace count me work.number (body_of work.op))
    (client_is state.me client at.named) under_way.request

-- what asks for an operation is a request of this operation alone
pub op_of : (trace : Trace) (count : ℕ) (client : ClientId) (number : ℕ) (what : Op)
    → (request : IsRequestOf trace count client number (body_of what)) → request.operation.op ≡ what
op_of trace count client number what request = op_for what request.operation.op request.asks
