-- What the letters of a replica's step carry: a reply to a request that it decides, and no reply and no request else.
use Rattle.std.proofs.Common.{◌≡◌, ℕ, zero, suc, ◌+◌, ◌≤◌, List, [], ◌∷◌, Option, None, Some, refl, sym, ap, ◌∙◌, arith, All}
use Rattle.std.specs.Prelude.{◌==◌}
use Rattle.std.specs.List.{AllByRecursion}
use Rattle.std.proofs.lemmas.Bool.{cond_both}
use Rattle.std.proofs.lemmas.List.Elements.{All-nil, All-cons}
use Rattle.qu_base.specs.declared.party.ClientId.{ClientId}
use Rattle.qu_base.specs.declared.party.ObjectId.{ObjectId}
use Rattle.qu_base.specs.declared.party.Party.{Party}
use Rattle.qu_base.specs.declared.party.Party.TheVariants as party
use Rattle.qu_base.specs.declared.party.ReplicaId.{ReplicaId}
use Rattle.qu_base.specs.Bounds.{replicas}
use Rattle.qu_base.proofs.EachItem.{each_append}
use Rattle.qu_seal.specs.Keys.{Ring}
use Rattle.qu_stamp.specs.declared.stamp.Stamp.{Stamp}
use Rattle.qu_history.specs.declared.sealed.Sealed.{Sealed}
use Rattle.qu_history.specs.declared.sets.SetOf.{SetOf}
use Rattle.qu_objects.specs.declared.state.ObjState.{ObjState}
use Rattle.qu_frames.specs.declared.frame.Body.{Body}
use Rattle.qu_frames.specs.declared.frame.Frame.{Frame}
use Rattle.qu_frames.specs.declared.frame.Frame.TheVariants as frame
use Rattle.qu_frames.specs.declared.frame.Letter.{Letter}
use Rattle.qu_verdicts.specs.declared.verdict.Verdict.{Verdict}
use Rattle.qu_frames.specs.Blank.{blank_mac}
use Rattle.qu_frames.specs.Decoding.{decoded}
use Rattle.qu_frames.specs.Formats.{frame_kind}
use Rattle.qu_frames.specs.Signing.{with_mac, signature}
use Rattle.qu_mends.specs.declared.accepted.Accepted.{Accepted}
use Rattle.qu_rows.specs.declared.decision.Decision.{Decision}
use Rattle.qu_rows.specs.declared.decision.Decision.TheVariants.{Answers, Waits}
use Rattle.qu_rows.specs.Rows.{asked_at, decision_on}
use Rattle.qu_waiting.specs.Waiting.{TakenRequest}
use Rattle.qu_rows.specs.State.{ReplicaState}
use Rattle.qu_fitting.specs.Holding.{accept_all}
use Rattle.qu_replica.specs.Step.{reply, version_letter, version_letters, fetch_letter, fetches_from, fetches_of, learned, handled, carried_out, if_handled, replica_on_frame}
use Rattle.qu_fitting.proofs.FitRequests.{blank_sized}
use Rattle.qu_claims.specs.Carried.{Carries, Asks, Tells}
use Rattle.qu_runs.proofs.Fits.Carrying.{same_kind, signed_spelled}

-- what the letter carries, if anything, is a fetch or a version
abbrev pub CarriesOther : Letter → Type 0
CarriesOther letter = (carried : Frame) → Carries letter carried → 3 ≤ frame_kind carried

version_carries : (state : ReplicaState) (to : ReplicaId) (object : ObjectId) (stamp : Stamp) (version : ObjState)
    → CarriesOther (version_letter state to object stamp version)
version_carries state to object stamp version carried carries =
    let sent : Frame = frame.Fetched state.me object stamp version blank_mac in
    let kind : frame_kind carried ≡ 4 =
    same_kind (with_mac sent (signature state.keys (party.Replica to) sent)) carried
    (ap decoded (sym (signed_spelled state.keys (party.Replica to) sent blank_sized)) ∙ carries) in
    omega (arith, kind)

fetch_carries : (keys : Ring) (me : ReplicaId) (key : ObjectId × Stamp) (replica : ℕ)
    → CarriesOther (fetch_letter keys me key replica)
fetch_carries keys me key replica carried carries =
    let sent : Frame = frame.Fetch me key.0 key.1 blank_mac in
    let to : Party = party.Replica (record { 0 = replica }) in
    let kind : frame_kind carried ≡ 3 =
    same_kind (with_mac sent (signature keys to sent)) carried
    (ap decoded (sym (signed_spelled keys to sent blank_sized)) ∙ carries) in
    omega (arith, kind)

-- ---- the letters of a step

module _ (P : Letter → Type 0) (each : (letter : Letter) → CarriesOther letter → P letter) where
  fetches_from_each : (keys : Ring) (me : ReplicaId) (key : ObjectId × Stamp) (replica count : ℕ)
      → AllByRecursion P (fetches_from keys me key replica count)
  unfolding fetches_from
  fetches_from_each keys me key replica zero = tt
  fetches_from_each keys me key replica (suc count) =
      let rest : AllByRecursion P (fetches_from keys me key (replica + 1) count) =
      fetches_from_each keys me key (replica + 1) count in
      cond_both (replica == me.0) _ _ (AllByRecursion P) (λ _. rest)
      (λ _. (each (fetch_letter keys me key replica) (fetch_carries keys me key replica), rest))

  fetches_of_each : (keys : Ring) (me : ReplicaId) (missing : List (ObjectId × Stamp))
      → AllByRecursion P (fetches_of keys me missing)
  unfolding fetches_of
  fetches_of_each keys me [] = tt
  fetches_of_each keys me (key ∷ later) =
      each_append P _ _ (fetches_from_each keys me key 0 (replicas keys.bounds)) (fetches_of_each keys me later)

  version_letters_each : (state : ReplicaState) (to : ReplicaId) (object : ObjectId) (stamp : Stamp)
      (found : Option ObjState) → AllByRecursion P (version_letters state to object stamp found)
  version_letters_each state to object stamp None = tt
  version_letters_each state to object stamp (Some version) =
      (each (version_letter state to object stamp version) (version_carries state to object stamp version), tt)

  -- each reply that the request gets
  abbrev pub Answered : ReplicaState → TakenRequest → Type 0
  Answered state request = (verdict : Verdict) (accepted : List Accepted)
      → decision_on state (asked_at state request.client request.number request.sets request.body) request.body
      ≡ Answers verdict accepted
      → P (reply (accept_all state accepted) request.client request.number request.round request.sets verdict)

  carried_out_each : (state : ReplicaState) (request : TakenRequest) (decision : Decision)
      → ((verdict : Verdict) (accepted : List Accepted) → decision ≡ Answers verdict accepted
      → P (reply (accept_all state accepted) request.client request.number request.round request.sets verdict))
      → AllByRecursion P (carried_out state request decision).1
  carried_out_each state request (Answers verdict accepted) answered = (answered verdict accepted refl, tt)
  carried_out_each state request (Waits missing) answered = fetches_of_each state.keys state.me missing

  pub if_handled_each : (state : ReplicaState) (found : Option TakenRequest)
      → ((request : TakenRequest) → found ≡ Some request → Answered state request)
      → AllByRecursion P (if_handled state found).1
  if_handled_each state None answered = tt
  if_handled_each state (Some request) answered =
      carried_out_each state request
      (decision_on state (asked_at state request.client request.number request.sets request.body) request.body)
      (answered request refl)

  -- of a frame: the reply to the request that it makes the replica handle, and other letters
  pub on_frame_each : (state : ReplicaState) (received : Frame)
      → ((request : TakenRequest) → handled state received ≡ Some request → Answered (learned state received) request)
      → AllByRecursion P (replica_on_frame state received).1
  on_frame_each state (frame.Request client number round sets body mac) answered =
      if_handled_each state (handled state (frame.Request client number round sets body mac)) answered
  on_frame_each state (frame.Fetched replica object stamp version mac) answered =
      if_handled_each (learned state (frame.Fetched replica object stamp version mac))
      (handled state (frame.Fetched replica object stamp version mac)) answered
  on_frame_each state (frame.Fetch replica object stamp mac) answered =
      version_letters_each state replica object stamp _
  on_frame_each state (frame.Reply replica client number round verdict culled shown mac) answered = tt

  all_of : (letters : List Letter) → AllByRecursion P letters → All P letters
  all_of [] each = All-nil P
  all_of (letter ∷ later) each = All-cons P letter later each.0 (all_of later each.1)

  pub on_frame_all : (state : ReplicaState) (received : Frame)
      → ((request : TakenRequest) → handled state received ≡ Some request → Answered (learned state received) request)
      → All P (replica_on_frame state received).1
  on_frame_all state received answered =
      all_of (replica_on_frame state received).1 (on_frame_each state received answered)

-- ---- what another letter is not

not_one : (kind : ℕ) → 3 ≤ kind → kind ≡ 1 → ⊥
not_one kind three one = omega (arith, three, one)

not_two : (kind : ℕ) → 3 ≤ kind → kind ≡ 2 → ⊥
not_two kind three two = omega (arith, three, two)

pub no_request_in : (letter : Letter) → CarriesOther letter → (client : ClientId) (number round : ℕ)
    (sets : List SetOf) (body : Body) → Asks letter client number round sets body → ⊥
no_request_in letter carries client number round sets body asks =
    not_one 1 (carries (frame.Request client number round sets body asks.mac) asks.carries) refl

pub no_reply_in : (letter : Letter) → CarriesOther letter → (replica : ReplicaId) (client : ClientId)
    (number round : ℕ) (verdict : Verdict) (shown : List Sealed)
    → Tells letter replica client number round verdict shown → ⊥
no_reply_in letter carries replica client number round verdict shown tells =
    not_two 2 (carries (frame.Reply replica client number round verdict tells.culled shown tells.mac) tells.carries)
    refl
