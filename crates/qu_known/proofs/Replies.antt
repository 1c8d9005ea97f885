-- What a replica answers shows all that its step added to its histories: a reply shows the histories of all objects
-- that may have changed, and the histories of a replica that sends none stay as they were.
use Rattle.std.proofs.Common.{◌≡◌, ◌⊎◌, ℕ, ◌≤◌, List, [], ◌∷◌, map, Option, None, Some, inl, inr, refl, sym, ap, subst, ◌∙◌, arith, true, false, Result, Ok, Bool, cond, length, ◌||◌, ◌==◌}
use Rattle.std.proofs.lemmas.Bool.{false≢true}
use Rattle.qu_base.specs.declared.party.ClientId.{ClientId}
use Rattle.qu_base.specs.declared.party.ObjectId.{ObjectId}
use Rattle.qu_base.specs.declared.party.Party.TheVariants as party
use Rattle.qu_base.specs.Format.{AreBytes, FitsFrom}
use Rattle.qu_history.specs.declared.sets.SetOf.{SetOf}
use Rattle.qu_history.specs.Sealing.{sealed_by}
use Rattle.qu_objects.specs.declared.act.Method.{Method}
use Rattle.qu_objects.specs.Formats.{is_one_of, method_form, part_form, act_form}
use Rattle.qu_frames.specs.declared.frame.Body.{Body}
use Rattle.qu_frames.specs.declared.frame.Body.TheVariants as body
use Rattle.qu_frames.specs.declared.frame.Frame.{Frame}
use Rattle.qu_frames.specs.declared.frame.Frame.TheVariants as frame
use Rattle.qu_frames.specs.declared.frame.Letter.{Letter}
use Rattle.qu_verdicts.specs.declared.verdict.Verdict.{Verdict}
use Rattle.qu_frames.specs.Formats.{objects_in_sets, body_form, frame_form, frame_kind}
use Rattle.qu_frames.specs.Decoding.{decoded}
use Rattle.qu_frames.specs.Signing.{brought, signature, with_mac}
use Rattle.qu_frames.proofs.Decoded.{decoded_is_spelled, spelled_is_decoded}
use Rattle.qu_frames.proofs.Signed.{brought_is_decoded, signed_is_spelled}
use Rattle.qu_rows.specs.declared.decision.Decision.{Decision}
use Rattle.qu_rows.specs.declared.decision.Decision.TheVariants.{Answers, Waits}
use Rattle.qu_rows.specs.State.{ReplicaState, own_candidates}
use Rattle.qu_mends.specs.Table.{candidates_in}
use Rattle.qu_fitting.specs.Holding.{accept_all}
use Rattle.qu_rows.specs.Rows.{Asked, asked_at, asked_of, decision_on}
use Rattle.qu_known.specs.Known.{Seen, see_letters, see_from, see_shown}
use Rattle.qu_known.proofs.Happened.{none_tells}
use Rattle.qu_runs.proofs.Fits.StepLetters.{CarriesOther, if_handled_each, on_frame_each}
use Rattle.qu_rows.specs.Named.{named}
use Rattle.qu_replica.specs.Step.{shown, answer_frame, reply, fetches_of, carried_out, decided, learned, handled, if_handled, replica_on_frame, replica_on_received, replica_step}
use Rattle.qu_fitting.specs.Fits.{StateFits}
use Rattle.qu_replica.proofs.Fits.FitSteps.{learned-fits, handled-fits}
use Rattle.qu_fitting.proofs.FitRequests.{RequestFits, request-fits}
use Rattle.qu_replica.proofs.States.Learning.{Learned, is_learned}
use Rattle.qu_waiting.specs.Waiting.{TakenRequest, request_frame_of}
use Rattle.qu_mends.specs.declared.accepted.Accepted.{Accepted}
use Rattle.qu_stamp.specs.declared.stamp.Stamp.{Stamp}
use Rattle.qu_history.specs.History.{ObjectHistory}
use Rattle.std.specs.Prelude.{slice_get}
use Rattle.std.proofs.lemmas.Option.{none-some, same_Some}
use Rattle.qu_runs.proofs.Fits.FitParts.{fits_parts}
use Rattle.qu_runs.proofs.Fits.Fitting.{answers_fit}
use Rattle.qu_claims.specs.Parts.{Names}
use Rattle.qu_grounds.proofs.Acceptance.{step_moves}
use Rattle.qu_claims.specs.Handled.{shown_in}
use Rattle.qu_known.proofs.Lengths.{reply-short}
use Rattle.qu_claims.specs.Grounds.{Accepts, AddsTo, Reasons}
use Rattle.qu_base.specs.Bounds.{quorum, AreThresholds}
use Rattle.qu_base.specs.declared.party.ReplicaId.{ReplicaId}
use Rattle.qu_seal.specs.Keys.{Ring}
use Rattle.qu_stamp.specs.declared.candidate.Candidate.{Candidate}
use Rattle.qu_history.specs.Culling.{culled, culled_set}
use Rattle.qu_history.specs.Sets.{entries_of, histories}
use Rattle.qu_accepts.proofs.Happenings.{formed_by}
use Rattle.qu_base.proofs.ThresholdFacts.{are_thresholds, count_has_faults}
use Rattle.qu_base.specs.declared.party.Party.{Party}
use Rattle.std.specs.List.{AllByRecursion}
use Rattle.qu_base.specs.declared.bad_text.BadText.{BadText}
use Rattle.qu_history.specs.declared.sealed.Sealed.{Sealed}

-- the replica accepts nothing, and its letters show nothing
pub record IsSilent (old : ReplicaState) (made : ReplicaState × List Letter) : Type 0 where
  pub me : made.0.me ≡ old.me
  pub keys : made.0.keys ≡ old.keys
  pub histories : made.0.histories ≡ old.histories
  pub none : (seen : Seen) → see_letters made.1 seen ≡ seen

-- it sends a reply, which shows its histories of some objects, and its other histories stay as they are
pub record Shows (old : ReplicaState) (made : ReplicaState × List Letter) : Type 0 where
  pub sets : List SetOf
  pub letter : Letter
  pub letters : made.1 ≡ letter ∷ []
  pub from : letter.from ≡ party.Replica made.0.me
  pub tells : shown_in (decoded letter.text) ≡ map (sealed_by made.0.keys) (shown made.0 sets)
  pub others : (object : ObjectId) → is_one_of (objects_in_sets sets) object ≡ false
      → own_candidates made.0 object ≡ own_candidates old object

-- ---- the objects of a request

-- the parts of a request are on objects of its sets
parts_known : (known : ObjectId → Bool) (before : Option ObjectId) (parts : List (ObjectId × Method))
    → FitsFrom (part_form method_form known) (λ part. Some part.0) before parts → (object : ObjectId)
    → Names parts object → known object ≡ true
parts_known known before [] fits object names = absurd names
parts_known known before (part ∷ later) fits object (inl same) = ap known (sym same) ∙ fits.0.0.0.1
parts_known known before (part ∷ later) fits object (inr named) =
    parts_known known (Some part.0) later fits.1 object named

part_in_sets : (sets : List SetOf) (parts : List (ObjectId × Method))
    → (body_form (objects_in_sets sets)).Fits (body.Act parts) → (object : ObjectId) → Names parts object
    → is_one_of (objects_in_sets sets) object ≡ true
unfolding body_form act_form
part_in_sets sets parts fits object names =
    parts_known (is_one_of (objects_in_sets sets)) None parts (fits.1).1.1 object names

-- sets that show an entry of an object are of it, also where they were culled
shown_in_sets : (keys : Ring) (me : ReplicaId) (sets : List SetOf) (object : ObjectId)
    → 1 ≤ length (entries_of object (culled keys me sets)) → is_one_of (objects_in_sets sets) object ≡ true
unfolding entries_of culled
shown_in_sets keys me [] object some = absurd (omega (arith, some))
shown_in_sets keys me (set ∷ later) object some =
    elim ((set.object).0 == object.0)
    as (λ (test : Bool). 1 ≤ length (cond test (histories (culled_set keys me set).entries)
    (entries_of object (culled keys me later)))
    → (test || is_one_of (objects_in_sets later) object) ≡ true) [
      | true ↦ λ here. refl
      | false ↦ λ there. shown_in_sets keys me later object there
    ] some

-- and so is what the request adds to
added_in_sets : (old new : ReplicaState) (asked : Asked) (sets : List SetOf) (asks : Body)
    (group : List (ObjectId × ℕ)) (candidates : ObjectId → Candidate) → 1 ≤ quorum old.keys.bounds
    → culled old.keys old.me sets ≡ asked.sets → (body_form (objects_in_sets sets)).Fits asks
    → Reasons old new asked asks group candidates → (object : ObjectId) → AddsTo asks group object
    → is_one_of (objects_in_sets sets) object ≡ true
unfolding body_form
added_in_sets old new asked sets (body.Act parts) group candidates some culls fits reasons object names =
    part_in_sets sets parts fits object names
added_in_sets old new asked sets (body.Ask parts) group candidates some culls fits reasons object never = absurd never
added_in_sets old new asked sets (body.Mend target) group candidates some culls fits reasons object mended =
    let enough : quorum old.keys.bounds ≤ length (entries_of object (culled old.keys old.me sets)) =
    subst (λ (them : List SetOf). quorum old.keys.bounds ≤ length (entries_of object them)) (sym culls)
    (reasons.enough object mended) in
    shown_in_sets old.keys old.me sets object (omega (arith, some, enough))

-- ---- a reply

-- what a reply of a frame that fits shows, decoded
reply_shown : (new : ReplicaState) (client : ClientId) (number round : ℕ) (sets : List SetOf) (verdict : Verdict)
    → frame_form.Fits (answer_frame new client number round sets verdict)
    → shown_in (decoded (reply new client number round sets verdict).text) ≡ map (sealed_by new.keys) (shown new sets)
reply_shown new client number round sets verdict fits =
    let sent : Frame = answer_frame new client number round sets verdict in
    let mac : List ℕ = signature new.keys (party.Client client) sent in
    let spelled = signed_is_spelled new.keys (party.Client client) sent fits in
    ap (λ text. shown_in (decoded text)) spelled.1 ∙
    ap shown_in (spelled_is_decoded (with_mac sent mac) spelled.0
    (reply-short new.me client number round verdict (named new sets) (map (sealed_by new.keys) (shown new sets)) mac
    spelled.0))

-- ---- other letters

-- the letter shows no history
abbrev ShowsNothing : Letter → Type 0
ShowsNothing letter = shown_in (decoded letter.text) ≡ []

other_shows : (read : Result Frame BadText) → ((sent : Frame) → read ≡ Ok sent → 3 ≤ frame_kind sent)
    → shown_in read ≡ []
other_shows (Ok (frame.Reply replica client number round verdict culled shown mac)) is =
    absurd (omega (arith, is (frame.Reply replica client number round verdict culled shown mac) refl))
other_shows _ is = refl

other_shown : (letter : Letter) → CarriesOther letter → ShowsNothing letter
other_shown letter other = other_shows (decoded letter.text) other

see_none : (from : Party) (text : List ℕ) → shown_in (decoded text) ≡ [] → (seen : Seen)
    → see_from from text seen ≡ seen
unfolding see_shown
see_none (party.Replica me) text none seen = ap (λ (sealed : List Sealed). see_shown me sealed seen) none
see_none (party.Client me) text none seen = refl

none_shown : (letters : List Letter) → AllByRecursion ShowsNothing letters → (seen : Seen)
    → see_letters letters seen ≡ seen
unfolding see_letters
none_shown [] each seen = refl
none_shown (letter ∷ later) each seen =
    ap (see_letters later) (see_none letter.from letter.text each.0 seen) ∙ none_shown later each.1 seen

-- ---- a request that is handled

abbrev decision_of : ReplicaState → TakenRequest → Decision
decision_of state request =
    decision_on state (asked_at state request.client request.number request.sets request.body) request.body

no_answer : (missing : List (ObjectId × Stamp)) (verdict : Verdict) (accepted : List Accepted)
    → Waits missing ≡ Answers verdict accepted → ⊥
no_answer missing verdict accepted same = cc

module _ (old : ReplicaState) (fits : StateFits old) (request : TakenRequest)
    (within : frame_form.Fits (request_frame_of request)) where
  abbrev fields : RequestFits request.client request.number request.round request.sets request.body
  fields =
      request-fits request.client request.number request.round request.sets request.body request.mac within

  -- no letter of a request that waits shows anything
  fetches_shown : (missing : List (ObjectId × Stamp)) → decision_of old request ≡ Waits missing
      → AllByRecursion ShowsNothing (fetches_of old.keys old.me missing)
  fetches_shown missing is =
      subst (λ (decision : Decision). AllByRecursion ShowsNothing (carried_out old request decision).1) is
      (if_handled_each ShowsNothing other_shown old (Some request) (λ other same verdict accepted decides.
      absurd (no_answer missing verdict accepted
      (sym is ∙ ap (decision_of old) (same_Some request other same) ∙ decides))))

  answered : (decision : Decision) → decision_of old request ≡ decision
      → ((object : ObjectId) → is_one_of (objects_in_sets request.sets) object ≡ false
      → own_candidates (carried_out old request decision).0 object ≡ own_candidates old object)
      → IsSilent old (carried_out old request decision) ⊎ Shows old (carried_out old request decision)
  answered (Waits missing) is others = inl (record {
    me = refl;
    keys = refl;
    histories = refl;
    none = none_shown (fetches_of old.keys old.me missing) (fetches_shown missing is);
  })
  answered (Answers verdict accepted) is others =
      let new : ReplicaState = accept_all old accepted in
      let made : Letter = reply new request.client request.number request.round request.sets verdict in
      inr (record {
        sets = request.sets;
        letter = made;
        letters = refl;
        from = refl;
        tells = reply_shown new request.client request.number request.round request.sets verdict
            (answers_fit old (request_frame_of request) fits within request refl verdict accepted is);
        others = others;
      })

  -- what the step leaves as it is
  others_stay : (object : ObjectId) → is_one_of (objects_in_sets request.sets) object ≡ false
      → own_candidates (decided old request).0 object ≡ own_candidates old object
  others_stay object apart =
      let asked : Frame = request_frame_of request in
      elim (step_moves old request (fits_parts asked within)
      (formed_by old asked (are_thresholds old.keys.bounds (count_has_faults old.keys.bounds fits.bounds)) within)) [
        | inl alike ↦ ap (λ (them : List ObjectHistory). candidates_in (slice_get them object.0)) alike.histories
        | inr accepts ↦ accepts.others object (λ adds. false≢true (sym apart
            ∙ in_sets accepts accepts.is_request object adds))
      ]
    where
      some : 1 ≤ quorum old.keys.bounds
      some = let thresholds : AreThresholds old.keys.bounds =
          are_thresholds old.keys.bounds (count_has_faults old.keys.bounds fits.bounds) in
          let meets = thresholds.quorum_meets_repair in let most = thresholds.correct_make_quorum in
          let outnumbers = thresholds.repair_outnumbers in let shares = thresholds.quorums_share_repair in
          omega (arith, meets, most, outnumbers, shares)

      in_sets : (accepts : Accepts old (decided old request).0 (request_frame_of request))
          → request_frame_of request
          ≡ frame.Request accepts.client accepts.number accepts.round accepts.sent accepts.asks accepts.mac
          → (object : ObjectId) → AddsTo accepts.asks accepts.group object
          → is_one_of (objects_in_sets request.sets) object ≡ true
      in_sets accepts same object adds =
          let is : request.body ≡ accepts.asks = cc in
          let sent : request.sets ≡ accepts.sent = cc in
          added_in_sets old (decided old request).0
          (asked_of accepts.client accepts.number accepts.sets accepts.asks) request.sets accepts.asks accepts.group
          accepts.candidates some (ap (culled old.keys old.me) sent ∙ accepts.culls)
          (subst (λ (it : Body). (body_form (objects_in_sets request.sets)).Fits it) is fields.asked) accepts.reasons
          object adds

  decided_shows : IsSilent old (decided old request) ⊎ Shows old (decided old request)
  decided_shows = answered (decision_of old request) refl others_stay

if_handled_shows : (state : ReplicaState) (found : Option TakenRequest) → StateFits state
    → ((request : TakenRequest) → found ≡ Some request → frame_form.Fits (request_frame_of request))
    → IsSilent state (if_handled state found) ⊎ Shows state (if_handled state found)
if_handled_shows state None fits within =
    inl (record { me = refl; keys = refl; histories = refl; none = none_tells.0 })
if_handled_shows state (Some request) fits within = decided_shows state fits request (within request refl)

-- what a replica learns before leaves its histories
since_learned : (old mid : ReplicaState) (taken : Frame) (made : ReplicaState × List Letter) → Learned old taken mid
    → IsSilent mid made ⊎ Shows mid made → IsSilent old made ⊎ Shows old made
since_learned old mid taken made is (inl silent) = inl (record {
  me = silent.me ∙ is.me;
  keys = silent.keys ∙ is.keys;
  histories = silent.histories ∙ is.histories;
  none = silent.none;
})
since_learned old mid taken made is (inr shows) = inr (record {
  sets = shows.sets;
  letter = shows.letter;
  letters = shows.letters;
  from = shows.from;
  tells = shows.tells;
  others = λ object apart. shows.others object apart
      ∙ ap (λ (them : List ObjectHistory). candidates_in (slice_get them object.0)) is.histories;
})

-- ---- a step

module _ (old : ReplicaState) (fits : StateFits old) where
  frame_shows : (received : Frame) → frame_form.Fits received
      → IsSilent old (replica_on_frame old received) ⊎ Shows old (replica_on_frame old received)
  frame_shows (frame.Request client number round sets asks mac) within =
      let taken : Frame = frame.Request client number round sets asks mac in
      if_handled_shows old (handled old taken) fits (handled-fits old taken fits within)
  frame_shows (frame.Fetched replica object stamp version mac) within =
      let taken : Frame = frame.Fetched replica object stamp version mac in
      let mid : ReplicaState = learned old taken in
      since_learned old mid taken (replica_on_frame old taken) (is_learned old taken)
      (if_handled_shows mid (handled old taken) (learned-fits old taken fits within)
      (handled-fits old taken fits within))
  frame_shows other within = inl (record {
    me = refl;
    keys = refl;
    histories = refl;
    none = none_shown (replica_on_frame old other).1
        (on_frame_each ShowsNothing other_shown old other (λ request handles verdict accepted decides.
        absurd (none-some request handles)));
  })

  received_shows : (found : Option Frame) → ((received : Frame) → found ≡ Some received → frame_form.Fits received)
      → IsSilent old (replica_on_received old found) ⊎ Shows old (replica_on_received old found)
  received_shows None within = inl (record { me = refl; keys = refl; histories = refl; none = none_tells.0 })
  received_shows (Some received) within = frame_shows received (within received refl)

  pub step_shows : (text : List ℕ) → AreBytes text
      → IsSilent old (replica_step old text) ⊎ Shows old (replica_step old text)
  step_shows text are =
      received_shows (brought old.keys (party.Replica old.me) text) (λ received brings.
      (decoded_is_spelled text received are
      (brought_is_decoded old.keys (party.Replica old.me) text received brings)).0)
