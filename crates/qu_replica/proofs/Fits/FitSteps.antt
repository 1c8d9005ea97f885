-- The letters that answer a text carry frames that fit, and what the replica holds fits after each step.
use Rattle.std.proofs.Common.{◌≡◌, ℕ, ◌-◌, ◌^◌, ◌≤◌, Bool, true, false, cond, length, List, [], ◌∷◌, map, Option, None, Some, refl, subst, arith, set, option_map, ◌∙◌, zero, suc, ◌+◌, inl, inr, sym, ap}
use Rattle.std.specs.Prelude.{is_none, slice_get, ◌==◌}
use Rattle.std.specs.List.{cons_option, AllByRecursion}
use Rattle.std.proofs.lemmas.Bool.{le-leb, leb-true, eq-eqb, cond_both, cases_Bool}
use Rattle.std.proofs.lemmas.Option.{same_Some, none-some}
use Rattle.qu_frames.specs.declared.limits.TheConstants.{LAST_ROUND}
use Rattle.qu_base.specs.declared.limits.TheConstants.{REPLICA_IDS, OBJECT_IDS, LAST_CLIENT}
use Rattle.qu_base.specs.declared.party.Party.TheVariants as party
use Rattle.qu_base.specs.declared.party.ClientId.{ClientId}
use Rattle.qu_base.specs.declared.party.ObjectId.{ObjectId}
use Rattle.qu_base.specs.Format.{AreBytes, FitsFrom}
use Rattle.qu_history.specs.declared.sealed.Sealed.{Sealed}
use Rattle.qu_history.specs.declared.sets.SetOf.{SetOf}
use Rattle.qu_history.specs.History.{ObjectHistory}
use Rattle.qu_history.specs.Formats.{set_form, sets_form, sealed_from, object_after, shown_form}
use Rattle.qu_history.specs.Culling.{history_digest, culled, left_out}
use Rattle.qu_history.specs.Sealing.{sealed_by}
use Rattle.qu_frames.specs.declared.frame.Frame.{Frame}
use Rattle.qu_frames.specs.declared.frame.Frame.TheVariants as frame
use Rattle.qu_verdicts.specs.declared.verdict.Verdict.{Verdict}
use Rattle.qu_frames.specs.Blank.{blank_mac}
use Rattle.qu_frames.specs.Formats.{objects_in_sets, culled_form, reply_frame, kind_form, frame_form, fetch_frame, fetched_frame}
use Rattle.qu_verdicts.specs.Formats.{verdict_form}
use Rattle.qu_frames.specs.Signing.{with_mac, signature, brought}
use Rattle.qu_frames.proofs.Signed.{signed_is_spelled, brought_is_decoded}
use Rattle.qu_frames.proofs.Decoded.{decoded_is_spelled}
use Rattle.qu_rows.specs.declared.decision.Decision.{Decision}
use Rattle.qu_rows.specs.declared.decision.Decision.TheVariants.{Answers, Waits}
use Rattle.qu_rows.specs.State.{ReplicaState}
use Rattle.qu_fitting.specs.Holding.{accept_all}
use Rattle.qu_waiting.specs.Slots.{first_waiting, without_request, lacks}
use Rattle.qu_rows.specs.Rows.{Asked, asked_at, unknown_in, decision_on}
use Rattle.qu_rows.specs.Named.{named}
use Rattle.qu_replica.specs.Step.{shown, answer_frame, carried_out, replica_on_frame, replica_on_received, replica_step, version_letters, with_found, with_told, learned, handled, fetches_from, fetches_of, decided, if_handled, is_found}
use Rattle.qu_rows.specs.Allowed.{MayDecide}
use Rattle.qu_fitting.specs.Fits.{StateFits, StepFits, VersionFits, LetterFits, SlotFits, VersionsFit}
use Rattle.qu_rows.proofs.Own.{IsOwn, own_history}
use Rattle.qu_rows.proofs.Allowed.{decision_on-may}
use Rattle.qu_fitting.proofs.Decoded.{body_has_parts}
use Rattle.qu_fitting.proofs.FitCulled.{seals_fit, left_out-fits, none_named-fit}
use Rattle.qu_fitting.proofs.FitState.{accept_all-fits, versions_with}
use Rattle.qu_fitting.proofs.FitAccepted.{version_fits}
use Rattle.qu_fitting.proofs.FitDecisions.{DecisionFits, KeyFits}
use Rattle.qu_fitting.proofs.FitRequests.{blank_sized, RequestFits, request-fits, decision-fits}
use Rattle.qu_fitting.proofs.FitVersions.{version-spelled, version-read}
use Rattle.qu_base.specs.declared.party.ReplicaId.{ReplicaId}
use Rattle.qu_stamp.specs.declared.stamp.Stamp.{Stamp}
use Rattle.qu_objects.specs.declared.state.ObjState.{ObjState}
use Rattle.qu_versions.specs.Versions.{version_at, has_version}
use Rattle.qu_seal.specs.Keys.{Ring}
use Rattle.qu_waiting.specs.Waiting.{Waiting, TakenRequest, Running, request_frame_of}
use Rattle.qu_base.specs.declared.party.Party.{Party}
use Rattle.qu_base.specs.Bounds.{replicas}
use Rattle.qu_base.proofs.EachItem.{each_append}
use Rattle.qu_objects.specs.States.{state_form}

-- ---- a reply

module _ (state : ReplicaState) (fits : StateFits state) where
  -- histories that fit from a number on fit from a lower one on
  shown_lower : (least lower : ℕ) (items : List Sealed) → lower ≤ least
      → FitsFrom (sealed_from state.me) object_after least items
      → FitsFrom (sealed_from state.me) object_after lower items
  unfolding sealed_from
  shown_lower least lower [] order fit = tt
  shown_lower least lower (sealed ∷ later) order fit =
      let head = (fit.0).0 in
      let above : least ≤ ((sealed.history).object).0 = leb-true _ _ (head.0).1 in (
        ((((head.0).0, le-leb lower ((sealed.history).object).0 (omega (arith, above, order))), head.1), (fit.0).1),
        fit.1,
      )

  -- the replica's own history of an object
  one_shown : (least : ℕ) (object : ObjectId) (history : ObjectHistory) → least ≤ object.0
      → object.0 ≤ OBJECT_IDS - 1 → slice_get state.histories object.0 ≡ Some history
      → (sealed_from state.me least).Fits (sealed_by state.keys history)
  unfolding sealed_from
  one_shown least object history above within is =
      let own : IsOwn state.me object.0 history = own_history state object.0 history fits.own is in
      let number : (history.object).0 ≡ object.0 = own.object in
      let mine : (history.replica).0 ≡ (state.me).0 = own.replica in
      let low : (history.object).0 ≤ OBJECT_IDS - 1 = omega (arith, number, within) in
      let few : (history.replica).0 ≤ REPLICA_IDS - 1 = omega (arith, mine, fits.me) in (
        (
          ((omega arith, low), le-leb _ _ (omega (arith, number, above))),
          (((omega arith, few), eq-eqb _ _ mine), fits.histories object.0 history is),
        ),
        seals_fit state.keys history.replica (history_digest history) fits.bounds,
      )

  -- those of the objects of the sets that the replica has, by rising objects
  shown_from : (least : ℕ) (sets : List SetOf) → FitsFrom set_form (λ (set : SetOf). (set.object).0 + 1) least sets
      → FitsFrom (sealed_from state.me) object_after least (map (sealed_by state.keys) (shown state sets))
  unfolding shown set_form
  shown_from least [] within = tt
  shown_from least (set ∷ later) within =
      let object = (within.0).0 in
      let above : least ≤ (set.object).0 = leb-true _ _ object.1 in
      let rest = shown_from ((set.object).0 + 1) later within.1 in
      elim (slice_get state.histories (set.object).0) as (λ (found : Option ObjectHistory).
      slice_get state.histories (set.object).0 ≡ found → FitsFrom (sealed_from state.me) object_after least
      (map (sealed_by state.keys) (cons_option found (shown state later)))) [
        | None ↦ λ is. shown_lower ((set.object).0 + 1) least (map (sealed_by state.keys) (shown state later))
            (omega (arith, above)) rest
        | Some history ↦ λ is. (
          one_shown least set.object history above (object.0).1 is,
          subst (λ (number : ℕ). FitsFrom (sealed_from state.me) object_after (number + 1)
              (map (sealed_by state.keys) (shown state later)))
              (sym (own_history state (set.object).0 history fits.own is).object) rest,
        )
      ] refl

  -- no more than there are objects in the sets
  shown_few : (sets : List SetOf) → length (map (sealed_by state.keys) (shown state sets)) ≤ length sets
  unfolding shown
  shown_few [] = omega arith
  shown_few (set ∷ later) =
      let rest = shown_few later in
      elim (slice_get state.histories (set.object).0) as (λ (found : Option ObjectHistory).
      length (map (sealed_by state.keys) (cons_option found (shown state later))) ≤ length (set ∷ later)) [
        | None ↦ omega (arith, rest)
        | Some history ↦ omega (arith, rest)
      ]

  shown_fits : (sets : List SetOf) → sets_form.Fits sets → (shown_form state.me).Fits
      (map (sealed_by state.keys) (shown state sets))
  unfolding sets_form shown_form
  shown_fits sets within =
      ((omega arith, omega (arith, shown_few sets, (within.0).1)), (refl, shown_from 0 sets (within.1).1))

  named_fits : (sets : List SetOf) → sets_form.Fits sets → culled_form.Fits (named state sets)
  unfolding named
  named_fits sets within =
      elim (is_none (unknown_in state sets)) as (λ (known : Bool). culled_form.Fits
      (cond known (left_out state.keys state.me sets) [])) [
        | true ↦ left_out-fits state.keys state.me sets within
        | false ↦ none_named-fit
      ]

  pub answer-fits : (client : ClientId) (number round : ℕ) (sets : List SetOf) (verdict : Verdict) → 1 ≤ client.0
      → client.0 ≤ LAST_CLIENT → number ≤ 2 ^ 64 - 1 → 1 ≤ round → round ≤ LAST_ROUND
      → sets_form.Fits sets → verdict_form.Fits verdict
      → frame_form.Fits (answer_frame state client number round sets verdict)
  unfolding frame_form kind_form reply_frame
  answer-fits client number round sets verdict low high word from_one few within told = (
    ((omega arith, omega arith), refl),
    (
      ((omega arith, omega arith), refl),
      (
        (omega arith, fits.me),
        (
          (low, high),
          (
            (omega arith, word),
            (
              (from_one, few),
              (told, (named_fits sets within, (shown_fits sets within, blank_sized))),
            ),
          ),
        ),
      ),
    ),
  )

-- ---- a step

-- a fetch of such a key
fetch-fits : (me : ReplicaId) (key : ObjectId × Stamp) → me.0 ≤ REPLICA_IDS - 1 → KeyFits key
    → frame_form.Fits (frame.Fetch me key.0 key.1 blank_mac)
unfolding frame_form kind_form fetch_frame
fetch-fits me key within fits = (
  ((omega arith, omega arith), refl),
  (
    ((omega arith, omega arith), refl),
    ((omega arith, within), ((omega arith, fits.object), (fits.stamp, blank_sized))),
  ),
)

module _ (keys : Ring) (me : ReplicaId) (within : me.0 ≤ REPLICA_IDS - 1) where
  fetches_from-fit : (key : ObjectId × Stamp) → KeyFits key → (replica count : ℕ)
      → AllByRecursion LetterFits (fetches_from keys me key replica count)
  unfolding fetches_from
  fetches_from-fit key fits replica zero = tt
  fetches_from-fit key fits replica (suc count) =
      let sent : Frame = frame.Fetch me key.0 key.1 blank_mac in
      let to : Party = party.Replica (record { 0 = replica }) in
      let spelled = signed_is_spelled keys to sent (fetch-fits me key within fits) in
      let rest = fetches_from-fit key fits (replica + 1) count in
      cond_both (replica == me.0) _ _ (AllByRecursion LetterFits) (λ _. rest) (λ _. (
        record { sent = with_mac sent (signature keys to sent); fits = spelled.0; text = spelled.1 },
        rest,
      ))

  fetches_of-fit : (missing : List (ObjectId × Stamp)) → AllByRecursion KeyFits missing
      → AllByRecursion LetterFits (fetches_of keys me missing)
  unfolding fetches_of
  fetches_of-fit [] fits = tt
  fetches_of-fit (key ∷ later) fits =
      each_append LetterFits _ _ (fetches_from-fit key fits.0 0 (replicas keys.bounds)) (fetches_of-fit later fits.1)

-- ---- what waits

slots_with : (slots : List (Option Waiting)) (place : ℕ) (slot : Option Waiting) → AllByRecursion SlotFits slots
    → SlotFits slot → AllByRecursion SlotFits (set slots place slot)
slots_with [] place slot all fits = tt
slots_with (first ∷ later) zero slot all fits = (fits, all.1)
slots_with (first ∷ later) (suc place) slot all fits = (all.0, slots_with later place slot all.1 fits)

lowest_fits : (object : ObjectId) (stamp : Stamp) (slots : List (Option Waiting)) → AllByRecursion SlotFits slots
    → (waiting : Waiting) → first_waiting object stamp slots ≡ Some waiting
    → frame_form.Fits (request_frame_of waiting.request)
unfolding first_waiting
lowest_fits object stamp [] all waiting found = absurd (none-some waiting found)
lowest_fits object stamp (None ∷ later) all waiting found = lowest_fits object stamp later all.1 waiting found
lowest_fits object stamp (Some first ∷ later) all waiting found =
    elim (cases_Bool (lacks object stamp first)) [
      | inl is ↦ subst (λ (it : Waiting). frame_form.Fits (request_frame_of it.request))
          (same_Some first waiting
          (sym (ap (λ (test : Bool). cond test (Some first) (first_waiting object stamp later)) is) ∙ found)) all.0
      | inr not ↦ lowest_fits object stamp later all.1 waiting
          (sym (ap (λ (test : Bool). cond test (Some first) (first_waiting object stamp later)) not) ∙ found)
    ]

-- the same with other fetches and other slots
waiting-fits : (state : ReplicaState) (slots : List (Option Waiting)) (fetching : List Running) → StateFits state
    → AllByRecursion SlotFits slots → StateFits (record state { waiting = slots; fetching = fetching })
waiting-fits state slots fetching fits all = record {
  me = fits.me;
  bounds = fits.bounds;
  few = fits.few;
  own = fits.own;
  histories = fits.histories;
  versions = fits.versions;
  waiting = all;
}

carried_out-fits : (state : ReplicaState) (request : TakenRequest) (decision : Decision) → StateFits state
    → frame_form.Fits (request_frame_of request) → MayDecide state decision → DecisionFits decision
    → StepFits (carried_out state request decision)
carried_out-fits state request (Answers verdict accepted) fits within may made =
    let new : ReplicaState = accept_all state accepted in
    let after : StateFits new = accept_all-fits state accepted fits may made.1 in
    let fields : RequestFits request.client request.number request.round request.sets request.body =
    request-fits request.client request.number request.round request.sets request.body request.mac within in
    let answer : Frame = answer_frame new request.client request.number request.round request.sets verdict in
    let frame_fits : frame_form.Fits answer =
    answer-fits new after request.client request.number request.round request.sets verdict fields.low fields.high
    fields.word fields.from_one fields.few fields.shown made.0 in
    let to : Party = party.Client request.client in
    let spelled = signed_is_spelled new.keys to answer frame_fits in (
      after,
      (
        record { sent = with_mac answer (signature new.keys to answer); fits = spelled.0; text = spelled.1 },
        tt,
      ),
    )
carried_out-fits state request (Waits missing) fits within may made = (
  waiting-fits state _ _ fits (slots_with state.waiting (request.client).0 _ fits.waiting within),
  fetches_of-fit state.keys state.me fits.me missing made,
)

pub decided-fits : (state : ReplicaState) (request : TakenRequest) → StateFits state
    → frame_form.Fits (request_frame_of request) → StepFits (decided state request)
decided-fits state request fits within =
    let fields : RequestFits request.client request.number request.round request.sets request.body =
    request-fits request.client request.number request.round request.sets request.body request.mac within in
    let asked : Asked = asked_at state request.client request.number request.sets request.body in
    carried_out-fits state request (decision_on state asked request.body) fits within
    (decision_on-may state asked request.body (body_has_parts (objects_in_sets request.sets) request.body fields.asked))
    (decision-fits state request.client request.number request.round request.sets request.body fits fields)

pub if_handled-fits : (state : ReplicaState) (found : Option TakenRequest) → StateFits state
    → ((request : TakenRequest) → found ≡ Some request → frame_form.Fits (request_frame_of request))
    → StepFits (if_handled state found)
if_handled-fits state None fits within = (fits, tt)
if_handled-fits state (Some request) fits within = decided-fits state request fits (within request refl)

-- a version that is held answers a fetch that fits
pub fetched_fits : (state : ReplicaState) (to : ReplicaId) (object : ObjectId) (stamp : Stamp) (mac : List ℕ)
    (version : ObjState) → StateFits state → frame_form.Fits (frame.Fetch to object stamp mac) → VersionFits version
    → frame_form.Fits (frame.Fetched state.me object stamp version blank_mac)
unfolding frame_form kind_form fetch_frame fetched_frame
fetched_fits state to object stamp mac version fits within held =
    let fields = (within.1).1 in (
      ((omega arith, omega arith), refl),
      (
        ((omega arith, omega arith), refl),
        (
          (omega arith, fits.me),
          ((fields.1).0, (((fields.1).1).0, (version-spelled version held, blank_sized))),
        ),
      ),
    )

-- the letter with a version carries a frame that fits
version_letters-fit : (state : ReplicaState) (to : ReplicaId) (object : ObjectId) (stamp : Stamp) (mac : List ℕ)
    → StateFits state → frame_form.Fits (frame.Fetch to object stamp mac)
    → AllByRecursion LetterFits (version_letters state to object stamp (version_at object stamp state.versions))
version_letters-fit state to object stamp mac fits within = by (version_at object stamp state.versions) refl
  where
    by : (found : Option ObjState) → version_at object stamp state.versions ≡ found
        → AllByRecursion LetterFits (version_letters state to object stamp found)
    by None is = tt
    by (Some version) is =
        let sent : Frame = frame.Fetched state.me object stamp version blank_mac in
        let spelled = signed_is_spelled state.keys (party.Replica to) sent
        (fetched_fits state to object stamp mac version fits within
        (version_fits object stamp state.versions version fits.versions is)) in (
          record {
            sent = with_mac sent (signature state.keys (party.Replica to) sent);
            fits = spelled.0;
            text = spelled.1;
          },
          tt,
        )

-- ---- what a frame tells, and the request that it makes a replica handle

pub fetched_state : (replica : ReplicaId) (object : ObjectId) (stamp : Stamp) (version : ObjState) (mac : List ℕ)
    → frame_form.Fits (frame.Fetched replica object stamp version mac) → state_form.Fits version
unfolding frame_form kind_form fetched_frame
fetched_state replica object stamp version mac fits = ((((fits.1).1).1).1).1.0

found-fits : (state : ReplicaState) (object : ObjectId) (stamp : Stamp) (version : ObjState) → StateFits state
    → VersionFits version → StateFits (with_found state object stamp version)
found-fits state object stamp version fits here = record {
  me = fits.me;
  bounds = fits.bounds;
  few = fits.few;
  own = fits.own;
  histories = fits.histories;
  versions = cond_both (has_version object stamp state.versions) _ _ VersionsFit (λ _. fits.versions)
      (λ _. versions_with state.versions _ fits.versions (here, tt));
  waiting = woken (first_waiting object stamp state.waiting);
}
  where
    woken : (found : Option Waiting) → AllByRecursion SlotFits (without_request found state.waiting)
    woken None = fits.waiting
    woken (Some waiting) = slots_with state.waiting ((waiting.request).client).0 None fits.waiting tt

told-fits : (state : ReplicaState) (replica : ReplicaId) (object : ObjectId) (stamp : Stamp) (version : ObjState)
    → StateFits state → StateFits (with_told state replica object stamp version)
told-fits state replica object stamp version fits =
    cond_both _ _ _ StateFits (λ _. waiting-fits state state.waiting _ fits fits.waiting) (λ _. fits)

pub learned-fits : (state : ReplicaState) (received : Frame) → StateFits state → frame_form.Fits received
    → StateFits (learned state received)
learned-fits state (frame.Fetched replica object stamp version mac) fits within =
    cond_both _ _ _ StateFits
    (λ _. found-fits state object stamp version fits
    (version-read version (fetched_state replica object stamp version mac within)))
    (λ _. told-fits state replica object stamp version fits)
learned-fits state (frame.Request client number round sets body mac) fits within = fits
learned-fits state (frame.Reply replica client number round verdict culled shown mac) fits within = fits
learned-fits state (frame.Fetch replica object stamp mac) fits within = fits

pub handled-fits : (state : ReplicaState) (received : Frame) → StateFits state → frame_form.Fits received
    → (request : TakenRequest) → handled state received ≡ Some request
    → frame_form.Fits (request_frame_of request)
handled-fits state (frame.Request client number round sets body mac) fits within request is =
    subst (λ (it : TakenRequest). frame_form.Fits (request_frame_of it)) (same_Some _ request is) within
handled-fits state (frame.Fetched replica object stamp version mac) fits within request is =
    by_found (is_found state replica object stamp version) (first_waiting object stamp state.waiting) refl is
  where
    by_found : (test : Bool) (found : Option Waiting) → first_waiting object stamp state.waiting ≡ found
        → cond test (option_map (λ (waiting : Waiting). waiting.request) found) None ≡ Some request
        → frame_form.Fits (request_frame_of request)
    by_found false found lowest is = absurd (none-some request is)
    by_found true None lowest is = absurd (none-some request is)
    by_found true (Some waiting) lowest is =
        subst (λ (it : TakenRequest). frame_form.Fits (request_frame_of it)) (same_Some waiting.request request is)
        (lowest_fits object stamp state.waiting fits.waiting waiting lowest)
handled-fits state (frame.Reply replica client number round verdict culled shown mac) fits within request is =
    absurd (none-some request is)
handled-fits state (frame.Fetch replica object stamp mac) fits within request is = absurd (none-some request is)

pub on_frame-fits : (state : ReplicaState) (received : Frame) → StateFits state → frame_form.Fits received
    → StepFits (replica_on_frame state received)
on_frame-fits state (frame.Request client number round sets asks mac) fits within =
    if_handled-fits state (handled state (frame.Request client number round sets asks mac)) fits
    (handled-fits state (frame.Request client number round sets asks mac) fits within)
on_frame-fits state (frame.Fetched replica object stamp version mac) fits within =
    if_handled-fits (learned state (frame.Fetched replica object stamp version mac))
    (handled state (frame.Fetched replica object stamp version mac))
    (learned-fits state (frame.Fetched replica object stamp version mac) fits within)
    (handled-fits state (frame.Fetched replica object stamp version mac) fits within)
on_frame-fits state (frame.Fetch replica object stamp mac) fits within =
    (fits, version_letters-fit state replica object stamp mac fits within)
on_frame-fits state (frame.Reply replica client number round verdict culled shown mac) fits within = (fits, tt)

pub on_received-fits : (state : ReplicaState) (found : Option Frame) → StateFits state
    → ((frame : Frame) → found ≡ Some frame → frame_form.Fits frame) → StepFits (replica_on_received state found)
on_received-fits state (Some frame) fits within = on_frame-fits state frame fits (within frame refl)
on_received-fits state None fits within = (fits, tt)

-- what is made of a text
pub step-fits : (state : ReplicaState) (text : List ℕ) → AreBytes text → StateFits state
    → StepFits (replica_step state text)
step-fits state text are fits =
    on_received-fits state (brought state.keys (party.Replica state.me) text) fits (λ frame given.
    (decoded_is_spelled text frame are (brought_is_decoded state.keys (party.Replica state.me) text frame given)).0)
