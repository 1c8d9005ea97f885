-- Which versions letters carry: those that the replica held that sent them, and none in requests, replies and fetches.
use Rattle.std.proofs.Common.{◌≡◌, ℕ, zero, suc, ◌+◌, List, [], ◌∷◌, length, Option, None, Some, refl, sym, ap, ◌∙◌, arith}
use Rattle.std.specs.Prelude.{◌==◌}
use Rattle.std.specs.List.{AllByRecursion}
use Rattle.std.proofs.lemmas.Bool.{cond_both}
use Rattle.qu_base.specs.declared.party.ObjectId.{ObjectId}
use Rattle.qu_base.specs.declared.party.Party.{Party}
use Rattle.qu_base.specs.declared.party.Party.TheVariants as party
use Rattle.qu_base.specs.declared.party.ReplicaId.{ReplicaId}
use Rattle.qu_base.specs.Bounds.{replicas}
use Rattle.qu_base.proofs.EachItem.{each_append}
use Rattle.qu_seal.specs.Keys.{Ring}
use Rattle.qu_stamp.specs.declared.stamp.Stamp.{Stamp}
use Rattle.qu_objects.specs.declared.state.ObjState.{ObjState}
use Rattle.qu_versions.specs.Versions.{version_at}
use Rattle.qu_frames.specs.declared.frame.Frame.{Frame}
use Rattle.qu_frames.specs.declared.frame.Frame.TheVariants as frame
use Rattle.qu_frames.specs.declared.frame.Letter.{Letter}
use Rattle.qu_frames.specs.Blank.{blank_mac}
use Rattle.qu_frames.specs.Decoding.{decoded}
use Rattle.qu_frames.specs.Formats.{frame_form, frame_kind}
use Rattle.qu_frames.specs.Signing.{mac_of, with_mac, signature, signed}
use Rattle.qu_rows.specs.declared.decision.Decision.{Decision}
use Rattle.qu_rows.specs.declared.decision.Decision.TheVariants as decision
use Rattle.qu_rows.specs.Rows.{asked_at, decision_on}
use Rattle.qu_rows.specs.State.{ReplicaState}
use Rattle.qu_waiting.specs.Waiting.{TakenRequest}
use Rattle.qu_fitting.specs.Fits.{StateFits}
use Rattle.qu_fitting.specs.Holding.{accept_all}
use Rattle.qu_replica.specs.Step.{answer_frame, fetches_from, fetches_of, version_letter, version_letters, learned, handled, carried_out, if_handled, replica_on_frame, replica_on_received}
use Rattle.qu_replica.proofs.Fits.FitSteps.{fetched_fits}
use Rattle.qu_fitting.proofs.FitAccepted.{version_fits}
use Rattle.qu_fitting.proofs.FitRequests.{blank_sized}
use Rattle.qu_client.specs.declared.state.ClientState.{ClientState}
use Rattle.qu_client.specs.declared.work.Work.{Work}
use Rattle.qu_client.specs.declared.whom.Whom.{Whom}
use Rattle.qu_client.specs.Rounds.{request_of, requests}
use Rattle.qu_client.proofs.Sent.{each_letter}
use Rattle.qu_claims.specs.Carried.{Carries}
use Rattle.qu_runs.proofs.Fits.Carrying.{same_kind, signed_spelled, signed_carries}

-- something holds of each version that the letter carries
abbrev pub TellsOnly : (ObjectId → Stamp → ObjState → Type 0) → Letter → Type 0
TellsOnly P letter =
    (replica : ReplicaId) (object : ObjectId) (stamp : Stamp) (version : ObjState) (mac : List ℕ)
    → Carries letter (frame.Fetched replica object stamp version mac) → P object stamp version

module _ (P : ObjectId → Stamp → ObjState → Type 0) where
  -- what is signed of another kind carries none
  other_tells : (letter : Letter) (keys : Ring) (to : Party) (sent : Frame) → length (mac_of sent) ≡ 32
      → letter.text ≡ signed keys to sent
      → (frame_kind (with_mac sent (signature keys to sent)) ≡ 4 → ⊥) → TellsOnly P letter
  other_tells letter keys to sent size text other replica object stamp version mac carries =
      absurd (other (sym (same_kind (with_mac sent (signature keys to sent))
      (frame.Fetched replica object stamp version mac)
      (ap decoded (sym (text ∙ signed_spelled keys to sent size)) ∙ carries))))

  -- ---- clients

  pub asked_tells : (state : ClientState) (work : Work) (whom : Whom)
      → AllByRecursion (TellsOnly P) (requests state.keys state.me work whom)
  asked_tells state work whom =
      let sent : Frame = request_of state.me work in
      each_letter state.keys state.me work whom (TellsOnly P) (replicas state.keys.bounds) 0
      (λ replica below asked.
      let to : Party = party.Replica (record { 0 = replica }) in
      other_tells (record { from = party.Client state.me; to = to; text = signed state.keys to sent }) state.keys to
      sent blank_sized refl (λ same. omega arith))

  -- ---- replicas

  fetches_from_tell : (keys : Ring) (me : ReplicaId) (key : ObjectId × Stamp) (replica count : ℕ)
      → AllByRecursion (TellsOnly P) (fetches_from keys me key replica count)
  unfolding fetches_from
  fetches_from_tell keys me key replica zero = tt
  fetches_from_tell keys me key replica (suc count) =
      let rest : AllByRecursion (TellsOnly P) (fetches_from keys me key (replica + 1) count) =
      fetches_from_tell keys me key (replica + 1) count in
      let to : Party = party.Replica (record { 0 = replica }) in
      let sent : Frame = frame.Fetch me key.0 key.1 blank_mac in
      cond_both (replica == me.0) _ _ (AllByRecursion (TellsOnly P)) (λ _. rest)
      (λ _. (
        other_tells (record { from = party.Replica me; to = to; text = signed keys to sent }) keys to sent
            blank_sized refl (λ same. omega arith),
        rest,
      ))

  fetches_of_tell : (keys : Ring) (me : ReplicaId) (missing : List (ObjectId × Stamp))
      → AllByRecursion (TellsOnly P) (fetches_of keys me missing)
  unfolding fetches_of
  fetches_of_tell keys me [] = tt
  fetches_of_tell keys me (key ∷ later) =
      each_append (TellsOnly P) _ _ (fetches_from_tell keys me key 0 (replicas keys.bounds))
      (fetches_of_tell keys me later)

  carried_out_tells : (state : ReplicaState) (request : TakenRequest) (decides : Decision)
      → AllByRecursion (TellsOnly P) (carried_out state request decides).1
  carried_out_tells state request (decision.Answers verdict accepted) =
      let new : ReplicaState = accept_all state accepted in
      let to : Party = party.Client request.client in
      let sent : Frame = answer_frame new request.client request.number request.round request.sets verdict in (
        other_tells (record { from = party.Replica new.me; to = to; text = signed new.keys to sent }) new.keys to
            sent blank_sized refl (λ same. omega arith),
        tt,
      )
  carried_out_tells state request (decision.Waits missing) = fetches_of_tell state.keys state.me missing

  if_handled_tells : (state : ReplicaState) (found : Option TakenRequest)
      → AllByRecursion (TellsOnly P) (if_handled state found).1
  if_handled_tells state None = tt
  if_handled_tells state (Some request) =
      carried_out_tells state request
      (decision_on state (asked_at state request.client request.number request.sets request.body) request.body)

  -- what is held is told
  abbrev pub AreHeld : ReplicaState → Type 0
  AreHeld state = (object : ObjectId) (stamp : Stamp) (version : ObjState)
      → version_at object stamp state.versions ≡ Some version → P object stamp version

  version_tells : (state : ReplicaState) (to : ReplicaId) (object : ObjectId) (stamp : Stamp) (version : ObjState)
      → frame_form.Fits (frame.Fetched state.me object stamp version blank_mac) → P object stamp version
      → TellsOnly P (version_letter state to object stamp version)
  version_tells state to object stamp version fits holds replica other under told mac carries =
      let sent : Frame = frame.Fetched state.me object stamp version blank_mac in
      let same : frame.Fetched replica other under told mac
      ≡ frame.Fetched state.me object stamp version (signature state.keys (party.Replica to) sent) =
      signed_carries (version_letter state to object stamp version) state.keys (party.Replica to) sent
      (frame.Fetched replica other under told mac) fits refl carries in
      let objects : other ≡ object = cc in
      let stamps : under ≡ stamp = cc in
      let versions : told ≡ version = cc in
      rw (objects, stamps, versions) holds

  version_letters_tell : (state : ReplicaState) (to : ReplicaId) (object : ObjectId) (stamp : Stamp) (mac : List ℕ)
      → StateFits state → frame_form.Fits (frame.Fetch to object stamp mac) → AreHeld state → (found : Option ObjState)
      → version_at object stamp state.versions ≡ found
      → AllByRecursion (TellsOnly P) (version_letters state to object stamp found)
  version_letters_tell state to object stamp mac fits within holds None is = tt
  version_letters_tell state to object stamp mac fits within holds (Some version) is = (
    version_tells state to object stamp version
        (fetched_fits state to object stamp mac version fits within
        (version_fits object stamp state.versions version fits.versions is))
        (holds object stamp version is),
    tt,
  )

  on_frame_tells : (state : ReplicaState) (received : Frame) → StateFits state → frame_form.Fits received
      → AreHeld state → AllByRecursion (TellsOnly P) (replica_on_frame state received).1
  on_frame_tells state (frame.Request client number round sets body mac) fits within holds =
      if_handled_tells state (handled state (frame.Request client number round sets body mac))
  on_frame_tells state (frame.Fetched replica object stamp version mac) fits within holds =
      if_handled_tells (learned state (frame.Fetched replica object stamp version mac))
      (handled state (frame.Fetched replica object stamp version mac))
  on_frame_tells state (frame.Fetch replica object stamp mac) fits within holds =
      version_letters_tell state replica object stamp mac fits within holds
      (version_at object stamp state.versions) refl
  on_frame_tells state (frame.Reply replica client number round verdict culled shown mac) fits within holds = tt

  -- a replica tells only versions that it holds
  pub on_received_tells : (state : ReplicaState) (found : Option Frame) → StateFits state
      → ((received : Frame) → found ≡ Some received → frame_form.Fits received) → AreHeld state
      → AllByRecursion (TellsOnly P) (replica_on_received state found).1
  on_received_tells state None fits within holds = tt
  on_received_tells state (Some received) fits within holds =
      on_frame_tells state received fits (within received refl) holds
