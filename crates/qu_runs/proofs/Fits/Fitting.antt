-- In a run all that is sent fits its format.
use Rattle.qu_world.proofs.Steps.{step_cases}
use Rattle.std.proofs.Common.{◌≡◌, ℕ, zero, suc, ◌+◌, ◌<◌, ◌≤◌, ◌^◌, List, [], ◌∷◌, ◌++◌, length, get_or, Option, None, Some, Ok, IsTrue, refl, sym, subst, arith, add-one, inl, inr, ap, ◌∙◌}
use Rattle.std.specs.Prelude.{slice_get, option_map}
use Rattle.std.specs.List.{AllByRecursion}
use Rattle.std.proofs.lemmas.Option.{none-some, same_Some}
use Rattle.qu_base.specs.declared.limits.TheConstants.{OBJECT_IDS, REPLICA_IDS}
use Rattle.qu_base.specs.declared.party.ClientId.{ClientId}
use Rattle.qu_base.specs.declared.party.Party.{Party}
use Rattle.qu_base.specs.declared.party.Party.TheVariants as party
use Rattle.qu_base.specs.declared.party.ReplicaId.{ReplicaId}
use Rattle.qu_base.specs.Bounds.{replicas, is_replica_count}
use Rattle.qu_base.proofs.ThresholdFacts.{replicas_are_few, replicas_are_count}
use Rattle.qu_base.proofs.EachItem.{each_append}
use Rattle.qu_objects.specs.declared.kind.KindName.{KindName}
use Rattle.qu_frames.specs.declared.frame.Frame.{Frame}
use Rattle.qu_frames.specs.declared.frame.Letter.{Letter}
use Rattle.qu_frames.proofs.Decoded.{decoded_is_spelled}
use Rattle.qu_frames.specs.Formats.{frame_form}
use Rattle.qu_frames.specs.Decoding.{decoded}
use Rattle.qu_rows.specs.declared.decision.Decision.{Decision}
use Rattle.qu_fitting.specs.Fits.{StateFits, LetterFits, StepFits}
use Rattle.qu_rows.specs.State.{ReplicaState}
use Rattle.qu_fitting.specs.Holding.{accept_all, replica_at_start}
use Rattle.qu_waiting.specs.Waiting.{request_frame_of}
use Rattle.qu_replica.specs.Step.{carried_out, learned, replica_step}
use Rattle.qu_fitting.proofs.FitDecisions.{DecisionFits}
use Rattle.qu_fitting.proofs.FitState.{opening-fits}
use Rattle.qu_replica.proofs.Fits.FitSteps.{answer-fits, decided-fits, learned-fits, handled-fits, on_received-fits}
use Rattle.qu_fitting.proofs.FitRequests.{RequestFits, request-fits, decision-fits}
use Rattle.qu_client.specs.declared.state.ClientState.{ClientState}
use Rattle.qu_client.specs.State.{Stepped}
use Rattle.qu_client.specs.Steps.{client_invoke, client_step, client_tick}
use Rattle.qu_trace.specs.declared.event.Event.{Event}
use Rattle.qu_trace.specs.declared.event.Event.TheVariants.{Invoke, Deliver, Tick, Inject}
use Rattle.qu_trace.specs.declared.trace.Entry.{Entry}
use Rattle.qu_trace.specs.declared.trace.Setup.{Setup}
use Rattle.qu_trace.specs.declared.trace.Trace.{Trace}
use Rattle.qu_trace.specs.Letters.{letters_of}
use Rattle.qu_runs.proofs.Worlds.Objects.{few_kinds}
use Rattle.qu_world.specs.State.{WorldState, opening_world, opening_replicas, numbered, letter_of, kinds_at, ring_of}
use Rattle.qu_world.specs.Step.{world_step, unchanged, at_replica, at_client, received, delivered}
use Rattle.qu_world.specs.Run.{IsSetup, IsRun}
use Rattle.qu_claims.specs.Carried.{Carries, offered, handed}
use Rattle.qu_claims.specs.Times.{world_after}
use Rattle.qu_runs.specs.Plain.{HasEventParts, IsFrom, AreTyped}
use Rattle.qu_runs.proofs.Fits.Carrying.{carried_is, AsksFit, AnswersFit, IsFitStep}
use Rattle.qu_world.proofs.Each.{each_numbered, set_cases, with_cases, each_at}
use Rattle.qu_runs.proofs.Fits.FitClients.{tick_fit, tick_letters, FitClient, fit_more, step_fit, invoke_fit, asks_fit, step_letters, invoke_letters, opening_clients-fit}
use Rattle.qu_runs.proofs.Small.{some_entry}
use Rattle.qu_runs.proofs.Worlds.WorldGrowth.{world_after-none, world_after-next}
use Rattle.qu_trace.proofs.LetterLaws.{letters-push}
use Rattle.qu_frames.specs.Signing.{brought}
use Rattle.qu_seal.specs.Keys.{Ring}
use Rattle.qu_frames.proofs.Signed.{brought_is_decoded}
use Rattle.qu_runs.proofs.Events.Handing.{hand, handed_offers}
use Rattle.qu_base.specs.Format.{AreBytes}

-- ---- letters

-- what a letter carries that fits, fits
carried_fits : (letter : Letter) → LetterFits letter → (carried : Frame) → Carries letter carried
    → frame_form.Fits carried
carried_fits letter fits carried carries =
    subst (λ (it : Frame). frame_form.Fits it)
    (sym (carried_is letter fits.sent carried fits.fits fits.text carries)) fits.fits

push_letters : (entries : List Entry) (entry : Entry) → AllByRecursion LetterFits (letters_of entries)
    → AllByRecursion LetterFits entry.letters → AllByRecursion LetterFits (letters_of (entries ++ entry ∷ []))
push_letters entries entry each here =
    subst (AllByRecursion LetterFits) (sym (letters-push entries entry))
    (each_append LetterFits (letters_of entries) entry.letters each here)

-- ---- worlds

-- what the clients and the replicas hold fits, and so do the letters
record FitWorld (bounds most : ℕ) (world : WorldState) : Type 0 where
  clients : (number : ℕ) (state : ClientState) → numbered world.clients number ≡ Some state
      → FitClient bounds most number state
  replicas : (place : ℕ) (state : ReplicaState) → slice_get world.replicas place ≡ Some state → StateFits state
  letters : AllByRecursion LetterFits (letters_of world.entries)

module _ (bounds most : ℕ) (few : most + 1 < 2 ^ 64) (size : replicas bounds ≤ REPLICA_IDS) (world : WorldState)
    (fit : FitWorld bounds most world) where
  unchanged_fit : (event : Event) → FitWorld bounds (most + 1) (unchanged world event)
  unchanged_fit event = record {
    clients = λ number state found. fit_more bounds most number state (fit.clients number state found);
    replicas = fit.replicas;
    letters = push_letters world.entries (record { event = event; letters = []; ended = None }) fit.letters tt;
  }

  -- a move of a client after which it still fits
  at_client_fit : (event : Event) (me : ClientId) (move : ClientState → Stepped) (found : Option ClientState)
      → numbered world.clients me.0 ≡ found
      → ((state : ClientState) → FitClient bounds most me.0 state → FitClient bounds (most + 1) me.0 (move state).state)
      → ((state : ClientState) → AsksFit (move state).state → AllByRecursion LetterFits (move state).letters)
      → FitWorld bounds (most + 1) (at_client world event me move found)
  at_client_fit event me move None is moves sends = unchanged_fit event
  at_client_fit event me move (Some state) is moves sends =
      let after : FitClient bounds (most + 1) me.0 (move state).state = moves state (fit.clients me.0 state is) in
      record {
        clients = λ number other found. elim (with_cases world.clients me.0 number (move state).state other found) [
          | inl here ↦ subst (λ (it : ClientState). FitClient bounds (most + 1) number it) (sym here.1)
              (subst (λ (it : ℕ). FitClient bounds (most + 1) it (move state).state) (sym here.0) after)
          | inr apart ↦ fit_more bounds most number other (fit.clients number other apart.1)
        ];
        replicas = fit.replicas;
        letters = push_letters world.entries _ fit.letters
            (sends state (asks_fit bounds (most + 1) me.0 (move state).state few after));
      }

  at_replica_fit : (event : Event) (me : ReplicaId) (text : List ℕ) (found : Option ReplicaState)
      → slice_get world.replicas me.0 ≡ found → ((sent : Frame) → decoded text ≡ Ok sent → frame_form.Fits sent)
      → FitWorld bounds (most + 1) (at_replica world event me text found)
  at_replica_fit event me text None is fits = unchanged_fit event
  at_replica_fit event me text (Some state) is fits =
      let step : StepFits (replica_step state text) =
      on_received-fits state (brought state.keys (party.Replica state.me) text) (fit.replicas me.0 state is)
      (λ sent brings. fits sent (brought_is_decoded state.keys (party.Replica state.me) text sent brings)) in
      record {
        clients = λ number other found. fit_more bounds most number other (fit.clients number other found);
        replicas = λ place other found. elim (set_cases world.replicas me.0 place (replica_step state text).0
            other found) [
              | inl here ↦ subst StateFits (sym here.1) step.0
              | inr apart ↦ fit.replicas place other apart.1
            ];
        letters = push_letters world.entries _ fit.letters step.1;
      }

  received_fit : (event : Event) (to : Party) (text : List ℕ)
      → ((sent : Frame) → decoded text ≡ Ok sent → frame_form.Fits sent) → FitWorld bounds (most + 1)
      (received world event to text)
  received_fit event (party.Replica me) text fits =
      at_replica_fit event me text (slice_get world.replicas me.0) refl fits
  received_fit event (party.Client me) text fits =
      at_client_fit event me (λ (state : ClientState). client_step state text) (numbered world.clients me.0) refl
      (λ state before. fit_more bounds most me.0 (client_step state text).state
      (step_fit bounds most me.0 state text size fits before))
      (λ state asks. step_letters state text asks)

  delivered_fit : (number : ℕ) (found : Option Letter) → letter_of world number ≡ found
      → FitWorld bounds (most + 1) (delivered world (Deliver number) found)
  delivered_fit number None is = unchanged_fit (Deliver number)
  delivered_fit number (Some letter) is =
      received_fit (Deliver number) letter.to letter.text
      (carried_fits letter (each_numbered LetterFits (letters_of world.entries) number letter fit.letters is))

  step_world : (event : Event) → HasEventParts event → FitWorld bounds (most + 1) (world_step world event)
  step_world (Invoke client what) parts =
      step_cases (FitWorld bounds (most + 1)) world (Invoke client what) (unchanged_fit (Invoke client what))
      (λ correct.
      at_client_fit (Invoke client what) client (λ (state : ClientState). client_invoke state what)
      (numbered world.clients client.0) refl
      (λ state before. invoke_fit bounds most client.0 state what size parts.1 before)
      (λ state asks. invoke_letters state what asks))
  step_world (Deliver number) parts =
      step_cases (FitWorld bounds (most + 1)) world (Deliver number) (unchanged_fit (Deliver number))
      (λ correct. delivered_fit number (letter_of world number) refl)
  step_world (Tick client) parts =
      step_cases (FitWorld bounds (most + 1)) world (Tick client) (unchanged_fit (Tick client)) (λ correct.
      at_client_fit (Tick client) client client_tick (numbered world.clients client.0) refl
      (λ state before. fit_more bounds most client.0 (client_tick state).state
      (tick_fit bounds most client.0 state size before))
      (λ state asks. tick_letters state asks))
  step_world (Inject to text) bytes =
      step_cases (FitWorld bounds (most + 1)) world (Inject to text) (unchanged_fit (Inject to text))
      (λ correct. received_fit (Inject to text) to text (λ sent is. (decoded_is_spelled text sent bytes is).0))

-- ---- the beginning

opening_from : (first count : ℕ) (keys : Ring) (kinds : ℕ → List KindName) (place : ℕ)
    (state : ReplicaState) → first + count ≤ REPLICA_IDS → IsTrue (is_replica_count (replicas keys.bounds))
    → ((number : ℕ) → length (kinds number) ≤ OBJECT_IDS) → slice_get (opening_replicas first count keys kinds) place
    ≡ Some state
    → StateFits state
unfolding opening_replicas
opening_from first zero keys kinds place state few sized kinds_few found = absurd (none-some state found)
opening_from first (suc count) keys kinds zero state few sized kinds_few found =
    subst StateFits (same_Some (replica_at_start (record { 0 = first }) keys (kinds first)) state found)
    (opening-fits (record { 0 = first }) keys (kinds first) (omega arith) sized (kinds_few first))
opening_from first (suc count) keys kinds (suc place) state few sized kinds_few found =
    opening_from (first + 1) count keys kinds place state (omega arith) sized kinds_few found

opening_fits : (setup : Setup) → IsSetup setup → FitWorld setup.bounds 0 (opening_world setup)
unfolding letters_of
opening_fits setup is =
    let size : replicas setup.bounds ≤ REPLICA_IDS = replicas_are_few setup.bounds is.few_faults in
    record {
      clients = λ number state found. opening_clients-fit (ring_of setup) setup.clients number state
          is.clients found;
      replicas = λ place state found. opening_from 0 (replicas setup.bounds) (ring_of setup)
          (kinds_at setup) place state (omega arith)
          (replicas_are_count setup.bounds is.some_faults is.few_faults)
          (λ number. let few : length (kinds_at setup number) ≤ length setup.kinds = few_kinds setup number in
          let all : length setup.kinds ≤ OBJECT_IDS = is.kinds in
          omega arith) found;
      letters = tt;
    }

-- ---- runs

below_word : (trace : Trace) → IsRun trace → AreTyped trace → (count : ℕ) → count ≤ length trace.entries
    → count < 2 ^ 64
below_word trace is_run typed count within =
    let few : length trace.entries < 2 ^ 63 = typed.few in
    omega arith

fit_world : (trace : Trace) → IsRun trace → AreTyped trace → (count : ℕ) → count ≤ length trace.entries
    → FitWorld trace.setup.bounds count (world_after trace count)
fit_world trace is_run typed zero within =
    subst (FitWorld trace.setup.bounds 0) (sym (world_after-none trace)) (opening_fits trace.setup is_run.setup)
fit_world trace is_run typed (suc count) within =
    let default : Entry = some_entry trace.entries (omega arith) in
    let before : FitWorld trace.setup.bounds count (world_after trace count) =
    fit_world trace is_run typed count (omega arith) in
    let few : count + 1 < 2 ^ 64 = below_word trace is_run typed (count + 1) (omega arith) in
    let after : FitWorld trace.setup.bounds (count + 1)
    (world_step (world_after trace count) (get_or trace.entries count default).event) =
    step_world trace.setup.bounds count few (replicas_are_few trace.setup.bounds (is_run.setup).few_faults)
    (world_after trace count) before (get_or trace.entries count default).event
    (each_at (λ (entry : Entry). HasEventParts entry.event) trace.entries count default typed.parts (omega arith)) in
    subst (λ (many : ℕ). FitWorld trace.setup.bounds many (world_after trace many)) (add-one count)
    (subst (FitWorld trace.setup.bounds (count + 1)) (sym (world_after-next trace count default (omega arith))) after)

-- what a replica of a run holds, fits
pub replica_fits : (trace : Trace) → IsRun trace → AreTyped trace → (count : ℕ) → count ≤ length trace.entries
    → (place : ℕ) (state : ReplicaState) → slice_get (world_after trace count).replicas place ≡ Some state
    → StateFits state
replica_fits trace is_run typed count within = (fit_world trace is_run typed count within).replicas

-- what a letter of a run carries, fits
pub carried_in_run : (trace : Trace) → IsRun trace → AreTyped trace → (count : ℕ) → count ≤ length trace.entries
    → (number : ℕ) (letter : Letter) → letter_of (world_after trace count) number ≡ Some letter
    → (carried : Frame) → Carries letter carried → frame_form.Fits carried
carried_in_run trace is_run typed count within number letter is carried carries =
    let fit : FitWorld trace.setup.bounds count (world_after trace count) = fit_world trace is_run typed count within in
    carried_fits letter (each_numbered LetterFits (letters_of (world_after trace count).entries) number letter
    fit.letters is) carried carries

-- the answer to a frame that fits, fits
pub answers_fit : (state : ReplicaState) (received : Frame) → StateFits state → frame_form.Fits received
    → AnswersFit state received
answers_fit state received fits within = λ request handles verdict accepted given.
    let mid : ReplicaState = learned state received in
    let mid_fits : StateFits mid = learned-fits state received fits within in
    let asked : frame_form.Fits (request_frame_of request) = handled-fits state received fits within request handles in
    let fields : RequestFits request.client request.number request.round request.sets request.body =
    request-fits request.client request.number request.round request.sets request.body request.mac asked in
    let after : StateFits (accept_all mid accepted) =
    subst (λ (it : Decision). StateFits (carried_out mid request it).0) given
    (decided-fits mid request mid_fits asked).0 in
    answer-fits (accept_all mid accepted) after request.client request.number request.round request.sets verdict
    fields.low fields.high fields.word fields.from_one fields.few fields.shown
    (subst DecisionFits given (decision-fits mid request.client request.number request.round request.sets request.body
    mid_fits fields)).0

-- what an event makes the parties send fits
pub fit_step : (trace : Trace) → IsRun trace → AreTyped trace → (count : ℕ) → count < length trace.entries
    → IsFitStep (world_after trace count) (world_after trace (count + 1))
fit_step trace is_run typed count below =
    let before : FitWorld trace.setup.bounds count (world_after trace count) =
    fit_world trace is_run typed count (omega arith) in
    let after : FitWorld trace.setup.bounds (count + 1) (world_after trace (count + 1)) =
    fit_world trace is_run typed (count + 1) (omega arith) in
    record {
      asks = λ number state found.
          asks_fit trace.setup.bounds (count + 1) number state
          (below_word trace is_run typed (count + 1) (omega arith)) (after.clients number state found);
      answers = λ me state found sent fits. answers_fit state sent (before.replicas me.0 state found) fits;
      carried = λ number letter sent is carries.
          carried_fits letter (each_numbered LetterFits (letters_of (world_after trace count).entries) number
          letter before.letters is) sent carries;
    }

-- ---- what is handed over

-- what a party may take fits
pub from_fits : (trace : Trace) → IsRun trace → AreTyped trace → (count : ℕ) → count ≤ length trace.entries
    → (to : Party) (text : List ℕ) → IsFrom (world_after trace count) to text → (sent : Frame)
    → decoded text ≡ Ok sent → frame_form.Fits sent
from_fits trace is_run typed count within to text (inl it) sent is =
    carried_in_run trace is_run typed count within it.number it.letter it.is_letter sent (ap decoded it.text_is ∙ is)
from_fits trace is_run typed count within to text (inr made) sent is = (decoded_is_spelled text sent made.bytes is).0

found_fits : (trace : Trace) → IsRun trace → AreTyped trace → (count : ℕ) → count ≤ length trace.entries
    → (number : ℕ) (to : Party) (text : List ℕ) (found : Option Letter)
    → letter_of (world_after trace count) number ≡ found → option_map hand found ≡ Some (to, text)
    → (sent : Frame) → decoded text ≡ Ok sent → frame_form.Fits sent
found_fits trace is_run typed count within number to text None is hands sent decodes = absurd
    (none-some (to, text) hands)
found_fits trace is_run typed count within number to text (Some letter) is hands sent decodes =
    let same : (letter.to, letter.text) ≡ (to, text) = same_Some (letter.to, letter.text) (to, text) hands in
    carried_in_run trace is_run typed count within number letter is sent
    (ap (λ (it : Party × List ℕ). decoded it.1) same ∙ decodes)

-- what an event of the run offers fits
pub offered_fits : (trace : Trace) → IsRun trace → AreTyped trace → (count : ℕ) → count ≤ length trace.entries
    → (event : Event) → HasEventParts event → (to : Party) (text : List ℕ)
    → offered (world_after trace count) event ≡ Some (to, text)
    → (sent : Frame) → decoded text ≡ Ok sent → frame_form.Fits sent
offered_fits trace is_run typed count within (Invoke client op) parts to text offers sent is =
    absurd (none-some (to, text) offers)
offered_fits trace is_run typed count within (Deliver number) parts to text offers sent is =
    found_fits trace is_run typed count within number to text (letter_of (world_after trace count) number) refl offers
    sent is
offered_fits trace is_run typed count within (Tick client) parts to text offers sent is =
    absurd (none-some (to, text) offers)
offered_fits trace is_run typed count within (Inject who other) parts to text offers sent is =
    let same : (who, other) ≡ (to, text) = same_Some (who, other) (to, text) offers in
    (decoded_is_spelled text sent (subst AreBytes (ap (λ (it : Party × List ℕ). it.1) same) parts) is).0

-- and so does what it hands over
pub handed_fits : (trace : Trace) → IsRun trace → AreTyped trace → (count : ℕ) (default : Entry)
    → count < length trace.entries → (to : Party) (text : List ℕ)
    → handed (world_after trace count) (get_or trace.entries count default).event ≡ Some (to, text)
    → (sent : Frame) → decoded text ≡ Ok sent → frame_form.Fits sent
handed_fits trace is_run typed count default below to text hands =
    offered_fits trace is_run typed count (omega arith) (get_or trace.entries count default).event
    (each_at (λ (entry : Entry). HasEventParts entry.event) trace.entries count default typed.parts below) to text
    (handed_offers (world_after trace count) (get_or trace.entries count default).event to text hands)
