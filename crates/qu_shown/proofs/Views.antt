-- In every run each history that stands in a letter or with a client was held by its replica before, if that is
-- correct.
use Rattle.qu_world.proofs.Steps.{AtCorrect, step_cases}
use Rattle.qu_world.specs.Step.{moved, world_step, unchanged, at_replica, at_client, received, delivered}
use Rattle.std.proofs.Common.{◌≡◌, ℕ, zero, suc, ◌+◌, ◌<◌, ◌≤◌, List, [], ◌∷◌, ◌++◌, length, get_or, Option, None, Some, Ok, refl, sym, ap, subst, ◌∙◌, arith, add-one, true, false}
use Rattle.std.specs.Prelude.{slice_get, not}
use Rattle.std.specs.List.{AllByRecursion}
use Rattle.std.proofs.lemmas.List.Concat.{flat_map-append}
use Rattle.qu_base.specs.declared.party.ClientId.{ClientId}
use Rattle.qu_base.specs.declared.party.Party.{Party}
use Rattle.qu_base.specs.declared.party.Party.TheVariants as party
use Rattle.qu_base.specs.declared.party.ReplicaId.{ReplicaId}
use Rattle.qu_base.specs.Bounds.{replicas}
use Rattle.qu_history.specs.declared.sets.SetOf.{SetOf}
use Rattle.qu_history.specs.History.{ObjectHistory}
use Rattle.qu_history.specs.declared.sealed.Sealed.{Sealed}
use Rattle.qu_history.specs.Sealing.{sealed_by}
use Rattle.qu_frames.specs.declared.frame.Body.{Body}
use Rattle.qu_frames.specs.declared.frame.Frame.{Frame}
use Rattle.qu_frames.specs.declared.frame.Frame.TheVariants as frame
use Rattle.qu_frames.specs.declared.frame.Letter.{Letter}
use Rattle.qu_frames.specs.Decoding.{decoded}
use Rattle.qu_rows.specs.State.{ReplicaState}
use Rattle.qu_replica.specs.Step.{replica_step}
use Rattle.qu_client.specs.declared.state.ClientState.{ClientState}
use Rattle.qu_client.specs.State.{Stepped}
use Rattle.qu_client.specs.Steps.{client_invoke, client_step, client_tick}
use Rattle.qu_trace.specs.declared.event.Event.{Event}
use Rattle.qu_trace.specs.declared.event.Event.TheVariants.{Invoke, Deliver, Tick, Inject}
use Rattle.qu_trace.specs.declared.trace.Entry.{Entry}
use Rattle.qu_trace.specs.declared.trace.Setup.{Setup}
use Rattle.qu_trace.specs.declared.trace.Trace.{Trace}
use Rattle.qu_trace.specs.Letters.{letters_of}
use Rattle.qu_world.specs.State.{WorldState, opening_world, opening_clients, numbered, letter_of, history_at, kinds_at, ring_of}
use Rattle.qu_world.specs.Run.{IsRun}
use Rattle.qu_claims.specs.Carried.{Carries, Asks}
use Rattle.qu_claims.specs.Times.{world_after}
use Rattle.qu_shown.specs.Views.{WasHeld, HeldIfCorrect, AreHeld}
use Rattle.qu_runs.specs.Plain.{IsPlain, ArePlain, IsOfFaulty}
use Rattle.qu_runs.proofs.Worlds.WorldGrowth.{world_after-none, world_after-next}
use Rattle.qu_world.proofs.Each.{each_numbered, each_with_numbered, set_here, numbered_here}
use Rattle.qu_shown.proofs.OwnHistories.{IsInPlace, AreInPlace, step-in_place, opening-all_in_place, set-in_place, found_where_named}
use Rattle.qu_shown.proofs.TrueLetters.{IsTrueFrame, IsTrueLetter, IsTrueClient, IsTrueStep, letters-more, clients-more, client_step-true, client_tick-true, client_invoke-true, opening-true, replica_step-true, ShowsHeld, shows_held}
use Rattle.qu_runs.proofs.Small.{some_entry}
use Rattle.qu_runs.proofs.Fits.Carrying.{AsksFit, AnswersFit, IsFitStep}
use Rattle.qu_runs.proofs.Fits.Fitting.{fit_step}
use Rattle.qu_seal.specs.Keys.{Ring}
use Rattle.qu_runs.proofs.Events.Handing.{injected_cases}
use Rattle.qu_history.specs.Formats.{sealed_from, shown_form, object_after}
use Rattle.qu_trace.specs.Faulty.{is_good, is_faulty}
use Rattle.qu_frames.specs.Formats.{frame_form, kind_form, reply_frame}
use Rattle.qu_base.specs.Format.{FitsFrom}
use Rattle.qu_base.proofs.EachItem.{each_append}
use Rattle.std.proofs.lemmas.Bool.{eqb-true, false≢true}
use Rattle.qu_frames.specs.Signing.{sender}
use Rattle.qu_frames.proofs.Signed.{brought_is_decoded}
use Rattle.qu_frames.proofs.Decoded.{decoded_is_spelled, one_decoded}
use Rattle.qu_runs.proofs.Digests.Plain.{setup_after}

-- each history in a letter or with a client was held, and what the replicas have is in its place
pub record IsTrueWorld (Held : Sealed → Type 0) (world : WorldState) : Type 0 where
  pub replicas : AreInPlace world.replicas
  pub clients : AllByRecursion (IsTrueClient Held) world.clients
  pub letters : AllByRecursion (IsTrueLetter Held) (letters_of world.entries)

world-more : (Old New : Sealed → Type 0) (world : WorldState) → ((sealed : Sealed) → Old sealed → New sealed)
    → IsTrueWorld Old world → IsTrueWorld New world
world-more Old New world more before = record {
  replicas = before.replicas;
  clients = clients-more Old New more world.clients before.clients;
  letters = letters-more Old New more (letters_of world.entries) before.letters;
}

-- ---- a step of the world

-- the letters of one entry more
letters_of-push : (P : Letter → Type 0) (entries : List Entry) (entry : Entry)
    → AllByRecursion P (letters_of entries) → AllByRecursion P entry.letters
    → AllByRecursion P (letters_of (entries ++ entry ∷ []))
unfolding letters_of
letters_of-push P entries entry each here =
    subst (AllByRecursion P) (sym (flat_map-append (λ (it : Entry). it.letters) entries (entry ∷ [])))
    (each_append P (letters_of entries) (entry.letters ++ []) each (each_append P entry.letters [] here tt))

module _ (Held : Sealed → Type 0) where
  -- what the replicas have, as they seal it, counts as held
  abbrev HasHeld : WorldState → Type 0
  HasHeld world =
      (place : ℕ) (state : ReplicaState) (history : ObjectHistory) → slice_get world.replicas place ≡ Some state
      → history_at world history.replica history.object ≡ Some history → Held (sealed_by state.keys history)

  unchanged-true : (world : WorldState) (event : Event) → IsTrueWorld Held world
      → IsTrueWorld Held (unchanged world event)
  unchanged-true world event before = record {
    replicas = before.replicas;
    clients = before.clients;
    letters = letters_of-push (IsTrueLetter Held) world.entries
        (record { event = event; letters = []; ended = None }) before.letters tt;
  }

  at_client-true : (world : WorldState) (event : Event) (me : ClientId) (move : ClientState → Stepped)
      (found : Option ClientState) → numbered world.clients me.0 ≡ found
      → ((state : ClientState) → IsTrueClient Held state → AsksFit (move state).state
      → IsTrueStep Held (move state))
      → IsFitStep world (at_client world event me move found) → IsTrueWorld Held world
      → IsTrueWorld Held (at_client world event me move found)
  at_client-true world event me move None is moves fits before = unchanged-true world event before
  at_client-true world event me move (Some state) is moves fits before =
      let step : IsTrueStep Held (move state) =
      moves state (each_numbered (IsTrueClient Held) world.clients me.0 state before.clients is)
      (fits.asks me.0 (move state).state (numbered_here world.clients me.0 state (move state).state is)) in
      record {
        replicas = before.replicas;
        clients = each_with_numbered (IsTrueClient Held) world.clients me.0 (move state).state
            before.clients step.state;
        letters = letters_of-push (IsTrueLetter Held) world.entries _ before.letters step.letters;
      }

  at_replica-true : (world : WorldState) (event : Event) (me : ReplicaId) (text : List ℕ)
      (found : Option ReplicaState) → slice_get world.replicas me.0 ≡ found
      → ((state : ReplicaState) (sent : Frame) → found ≡ Some state → decoded text ≡ Ok sent
      → AnswersFit state sent) → IsTrueWorld Held world
      → HasHeld (at_replica world event me text found) → IsTrueWorld Held (at_replica world event me text found)
  at_replica-true world event me text None is fits before now = unchanged-true world event before
  at_replica-true world event me text (Some state) is fits before now =
      let new : ReplicaState = (replica_step state text).0 in
      let in_place : IsInPlace me.0 new = step-in_place me.0 state text (before.replicas me.0 state is) in
      let here : slice_get (at_replica world event me text (Some state)).replicas me.0 ≡ Some new =
      set_here world.replicas me.0 state new is in
      let has : (place : ℕ) (history : ObjectHistory) → slice_get new.histories place ≡ Some history
      → Held (sealed_by new.keys history) =
      λ place history found. now me.0 new history here
      (found_where_named (at_replica world event me text (Some state)) me.0 new place history here in_place found) in
      record {
        replicas = set-in_place world.replicas me.0 new before.replicas in_place;
        clients = before.clients;
        letters = letters_of-push (IsTrueLetter Held) world.entries _ before.letters
            (replica_step-true Held state text (λ sent is_sent. fits state sent refl is_sent) has);
      }

  received-true : (world : WorldState) (event : Event) (to : Party) (text : List ℕ)
      → ((sent : Frame) → decoded text ≡ Ok sent → ShowsHeld Held sent)
      → ((sent : Frame) → decoded text ≡ Ok sent → frame_form.Fits sent)
      → IsFitStep world (received world event to text) → IsTrueWorld Held world
      → HasHeld (received world event to text) → IsTrueWorld Held (received world event to text)
  received-true world event (party.Replica me) text shows fits_so fits before now =
      at_replica-true world event me text (slice_get world.replicas me.0) refl
      (λ state sent found is. fits.answers me state found sent (fits_so sent is)) before now
  received-true world event (party.Client me) text shows fits_so fits before now =
      at_client-true world event me (λ (state : ClientState). client_step state text) (numbered world.clients me.0) refl
      (λ state client. client_step-true Held state text shows client) fits before

  -- a letter that was sent reaches its receiver
  letter-true : (world : WorldState) (event : Event) (number : ℕ) (letter : Letter)
      → letter_of world number ≡ Some letter → IsFitStep world (received world event letter.to letter.text)
      → IsTrueWorld Held world → HasHeld (received world event letter.to letter.text)
      → IsTrueWorld Held (received world event letter.to letter.text)
  letter-true world event number letter is fits before now =
      received-true world event letter.to letter.text
      (λ sent carries. shows_held Held sent (each_numbered (IsTrueLetter Held) (letters_of world.entries)
      number letter before.letters is sent carries))
      (λ sent carries. fits.carried number letter sent is carries) fits before now

  delivered-true : (world : WorldState) (event : Event) (number : ℕ) (letter : Option Letter)
      → letter_of world number ≡ letter → IsFitStep world (delivered world event letter)
      → IsTrueWorld Held world
      → HasHeld (delivered world event letter) → IsTrueWorld Held (delivered world event letter)
  delivered-true world event number None is fits before now = unchanged-true world event before
  delivered-true world event number (Some letter) is fits before now =
      letter-true world event number letter is fits before now

  step_true : (world : WorldState) (event : Event) → IsTrueWorld Held world
      → (AtCorrect world event → IsFitStep world (moved world event) → HasHeld (moved world event)
      → IsTrueWorld Held (moved world event))
      → IsFitStep world (world_step world event) → HasHeld (world_step world event)
      → IsTrueWorld Held (world_step world event)
  step_true world event before step =
      step_cases (λ (made : WorldState). IsFitStep world made → HasHeld made → IsTrueWorld Held made) world event
      (λ fits now. unchanged-true world event before) step

  -- `now` says that what the replicas have after the step counts as held, and `of_faulty` so of what faulty ones show
  world_step-true : (world : WorldState) (event : Event) → IsPlain world event
      → ((to : Party) (text : List ℕ) → IsOfFaulty world to text → (sent : Frame) → decoded text ≡ Ok sent
      → ShowsHeld Held sent)
      → IsFitStep world (world_step world event) → IsTrueWorld Held world
      → HasHeld (world_step world event) → IsTrueWorld Held (world_step world event)
  world_step-true world (Invoke client op) parts of_faulty fits before now =
      step_true world (Invoke client op) before (λ correct fits has.
      at_client-true world (Invoke client op) client (λ (state : ClientState). client_invoke state op)
      (numbered world.clients client.0) refl
      (λ state is. client_invoke-true Held state op is) fits before) fits now
  world_step-true world (Deliver number) parts of_faulty fits before now =
      step_true world (Deliver number) before (λ correct fits.
      delivered-true world (Deliver number) number (letter_of world number) refl fits before) fits now
  world_step-true world (Tick client) parts of_faulty fits before now =
      step_true world (Tick client) before (λ correct fits has.
      at_client-true world (Tick client) client client_tick (numbered world.clients client.0) refl
      (λ state is. client_tick-true Held state is) fits before) fits now
  world_step-true world (Inject to text) plain of_faulty fits before now =
      injected_cases world to text
      (λ (event : Event) (new : WorldState). IsFitStep world new → HasHeld new → IsTrueWorld Held new)
      (λ fit has. unchanged-true world (Inject to text) before)
      (λ number letter sent hands fit has.
      letter-true world (Inject letter.to letter.text) number letter sent fit before has)
      (λ made hands fit has.
      received-true world (Inject to text) to text (of_faulty to text made)
      (λ sent is. (decoded_is_spelled text sent made.bytes is).0) fit before has)
      plain fits now

  opening_clients-true : (keys : Ring) (number count : ℕ)
      → AllByRecursion (IsTrueClient Held) (opening_clients number count keys)
  unfolding opening_clients
  opening_clients-true keys number zero = tt
  opening_clients-true keys number (suc count) =
      (opening-true Held (record { 0 = number }) keys, opening_clients-true keys (number + 1) count)

opening_world-true : (Held : Sealed → Type 0) (setup : Setup) → IsTrueWorld Held (opening_world setup)
unfolding letters_of
opening_world-true Held setup = record {
  replicas = opening-all_in_place (replicas setup.bounds) (ring_of setup) (kinds_at setup);
  clients = opening_clients-true Held (ring_of setup) 1 setup.clients;
  letters = tt;
}

-- ---- all worlds of a run

-- a sealed history that its replica had by then, if that is correct
abbrev pub IsTrueOf : Trace → ℕ → Sealed → Type 0
IsTrueOf trace count sealed = HeldIfCorrect trace count sealed.history

pub held-later : (trace : Trace) (count later : ℕ) (history : ObjectHistory) → count ≤ later
    → WasHeld trace count history → WasHeld trace later history
held-later trace count later history order was =
    let earlier : was.past ≤ count = was.earlier in
    record { past = was.past; earlier = omega arith; held = was.held }

true-later : (trace : Trace) (count later : ℕ) (sealed : Sealed) → count ≤ later
    → IsTrueOf trace count sealed → IsTrueOf trace later sealed
true-later trace count later sealed order was = λ good. held-later trace count later sealed.history order (was good)

-- each history of a reply is of the replica that it is from
own_history : (replica : ReplicaId) (least : ℕ) (sealed : Sealed) → (sealed_from replica least).Fits sealed
    → ((sealed.history).replica).0 ≡ replica.0
unfolding sealed_from
own_history replica least sealed fits = eqb-true _ _ fits.0.1.0.1

own_histories : (trace : Trace) (count : ℕ) (replica : ReplicaId) → is_good trace.setup replica.0 ≡ false
    → (least : ℕ) (shown : List Sealed) → FitsFrom (sealed_from replica) object_after least shown
    → AllByRecursion (IsTrueOf trace count) shown
own_histories trace count replica faulty least [] fits = tt
own_histories trace count replica faulty least (sealed ∷ later) fits = (
  λ good. absurd (false≢true (sym faulty
      ∙ ap (is_good trace.setup) (sym (own_history replica least sealed fits.0)) ∙ good)),
  own_histories trace count replica faulty (object_after sealed) later fits.1,
)

-- what a faulty replica shows are no histories of correct ones
shown_by_faulty : (trace : Trace) (count : ℕ) (replica : ReplicaId) → is_good trace.setup replica.0 ≡ false
    → (shown : List Sealed) → (shown_form replica).Fits shown → AllByRecursion (IsTrueOf trace count) shown
unfolding shown_form
shown_by_faulty trace count replica faulty shown fits = own_histories trace count replica faulty 0 shown fits.1.1

frame_of_faulty : (trace : Trace) (count : ℕ) (taken : Frame) → is_faulty trace.setup (sender taken) ≡ true
    → frame_form.Fits taken → ShowsHeld (IsTrueOf trace count) taken
unfolding frame_form kind_form reply_frame
frame_of_faulty trace count (frame.Reply replica client number round verdict culled shown mac) faulty fits =
    shown_by_faulty trace count replica (ap not faulty) shown fits.1.1.1.1.1.1.1.1.0
frame_of_faulty trace count _ faulty fits = tt

shown_of_faulty : (trace : Trace) (count later : ℕ) (to : Party) (text : List ℕ)
    → IsOfFaulty (world_after trace count) to text → (sent : Frame) → decoded text ≡ Ok sent
    → ShowsHeld (IsTrueOf trace later) sent
shown_of_faulty trace count later to text made sent is =
    let taken : made.taken ≡ sent =
    one_decoded text made.taken sent (brought_is_decoded (ring_of (world_after trace count).setup) to text
    made.taken made.brings) is in
    frame_of_faulty trace later sent
    (ap (λ (setup : Setup). is_faulty setup (sender sent)) (sym (setup_after trace count))
    ∙ ap (λ (it : Frame). is_faulty (world_after trace count).setup (sender it)) (sym taken) ∙ made.faulty)
    (decoded_is_spelled text sent made.bytes is).0

true_next : (trace : Trace) (count : ℕ) → IsRun trace → ArePlain trace → count < length trace.entries
    → IsTrueWorld (IsTrueOf trace count) (world_after trace count)
    → IsTrueWorld (IsTrueOf trace (count + 1)) (world_after trace (count + 1))
true_next trace count is_run parts below before =
    let default : Entry = some_entry trace.entries (omega arith) in
    let event : Event = (get_or trace.entries count default).event in
    let next : world_after trace (count + 1) ≡ world_step (world_after trace count) event =
    world_after-next trace count default below in
    subst (IsTrueWorld (IsTrueOf trace (count + 1))) (sym next)
    (world_step-true (IsTrueOf trace (count + 1)) (world_after trace count) event
    (parts.plain_at count default below) (shown_of_faulty trace count (count + 1))
    (subst (IsFitStep (world_after trace count)) next (fit_step trace is_run parts.typed count below))
    (world-more (IsTrueOf trace count) (IsTrueOf trace (count + 1)) (world_after trace count)
    (λ sealed was. true-later trace count (count + 1) sealed (omega arith) was) before)
    (λ place state history is_state found good. record {
      past = count + 1;
      earlier = omega arith;
      held = ap (λ (world : WorldState). history_at world history.replica history.object) next ∙ found;
    }))

pub true_world : (trace : Trace) → IsRun trace → ArePlain trace → (count : ℕ) → count ≤ length trace.entries
    → IsTrueWorld (IsTrueOf trace count) (world_after trace count)
true_world trace is_run parts zero within =
    subst (IsTrueWorld (IsTrueOf trace 0)) (sym (world_after-none trace))
    (opening_world-true (IsTrueOf trace 0) trace.setup)
true_world trace is_run parts (suc count) within =
    subst (λ (at : ℕ). IsTrueWorld (IsTrueOf trace at) (world_after trace at)) (add-one count)
    (true_next trace count is_run parts (omega arith) (true_world trace is_run parts count (omega arith)))

-- ---- what letters show

module _ (trace : Trace) (is_run : IsRun trace) (have : ArePlain trace) (count : ℕ)
    (within : count ≤ length trace.entries) (number : ℕ) (letter : Letter)
    (sent : letter_of (world_after trace count) number ≡ Some letter) where
  true_frame : (carried : Frame) → Carries letter carried
      → IsTrueFrame (IsTrueOf trace count) carried
  true_frame =
      each_numbered (IsTrueLetter (IsTrueOf trace count))
      (letters_of (world_after trace count).entries) number letter
      (true_world trace is_run have count within).letters sent

  module _ (client : ClientId) (asked round : ℕ) (sets : List SetOf) (body : Body)
      (is : Asks letter client asked round sets body) where
    -- what the sets of a request show was held, where it is of correct replicas
    pub view_of_request : AreHeld trace count sets
    view_of_request = true_frame (frame.Request client asked round sets body is.mac) is.carries
