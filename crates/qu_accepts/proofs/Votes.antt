-- The answers that a replica has of the versions that it fetches: those that it had, and the one that a frame brings.
use Rattle.std.proofs.Common.{◌≡◌, ℕ, ◌+◌, Bool, true, cond, List, [], ◌∷◌, Option, None, Some, refl, sym, ap, subst, ◌∙◌, inl, inr}
use Rattle.std.specs.Prelude.{slice_get, ◌==◌, is_some, not}
use Rattle.std.specs.List.{AllByRecursion}
use Rattle.std.proofs.lemmas.Bool.{cond_both, and_parts, eqb-true, cases_Bool}
use Rattle.std.proofs.lemmas.Option.{none-some, same_Some}
use Rattle.qu_base.specs.declared.party.ObjectId.{ObjectId}
use Rattle.qu_base.specs.declared.party.ReplicaId.{ReplicaId}
use Rattle.qu_base.proofs.EachItem.{each_append, each_kept}
use Rattle.qu_seal.specs.Keys.{Ring}
use Rattle.qu_stamp.specs.declared.stamp.Stamp.{Stamp}
use Rattle.qu_stamp.specs.Stamp.{same_stamp}
use Rattle.qu_stamp.proofs.Order.{equal_by_same_stamp}
use Rattle.qu_waiting.specs.declared.vote.Vote.{Vote}
use Rattle.qu_waiting.specs.Tally.{has_voted}
use Rattle.qu_waiting.specs.Fetching.{Answers}
use Rattle.qu_objects.specs.declared.kind.KindName.{KindName}
use Rattle.qu_objects.specs.declared.state.ObjState.{ObjState}
use Rattle.qu_objects.specs.States.{state_form}
use Rattle.qu_versions.specs.Versions.{is_same_key}
use Rattle.qu_frames.specs.declared.frame.Frame.{Frame}
use Rattle.qu_frames.specs.declared.frame.Frame.TheVariants as frame
use Rattle.qu_mends.specs.declared.accepted.Accepted.{Accepted}
use Rattle.qu_rows.specs.declared.decision.Decision.{Decision}
use Rattle.qu_rows.specs.declared.decision.Decision.TheVariants as decision
use Rattle.qu_rows.specs.Rows.{asked_at, decision_on}
use Rattle.qu_rows.specs.State.{ReplicaState}
use Rattle.qu_waiting.specs.Waiting.{TakenRequest, Running}
use Rattle.qu_fitting.specs.Holding.{accept, accept_all, replica_at_start}
use Rattle.qu_waiting.specs.Slots.{is_running, fetch_under, with_fetch, with_fetches, with_vote, with_votes, without_fetch}
use Rattle.qu_replica.specs.Step.{has_kind, is_found, with_found, with_told, learned, handled, carried_out, if_handled, replica_on_frame, replica_on_received}
use Rattle.qu_replica.proofs.States.Learning.{is_learned}

-- equal keys are one
pub same_key : (object other : ObjectId) (stamp at : Stamp) → is_same_key object stamp other at ≡ true
    → (object ≡ other) × (stamp ≡ at)
same_key object other stamp at is =
    let parts : ((object.0 == other.0) ≡ true) × (same_stamp stamp at ≡ true) = and_parts _ _ is in (
      ap (λ (it : ℕ). (let named : ObjectId = record { 0 = it } in named)) (eqb-true object.0 other.0 parts.0),
      equal_by_same_stamp stamp at parts.1,
    )

-- the frame brings this answer for the key
pub record BringsVote (received : Frame) (object : ObjectId) (stamp : Stamp) (vote : Vote (List ℕ)) : Type 0 where
  pub version : ObjState
  pub mac : List ℕ
  pub is_received : received ≡ frame.Fetched vote.replica object stamp version mac
  pub value : vote.value ≡ state_form.spell version

-- a fetch that needs so many identical answers, where something holds of each answer that it has for its key
pub record Counts (need : ℕ) (P : ObjectId → Stamp → Vote (List ℕ) → Type 0) (running : Running) : Type 0 where
  pub needs : running.answers.need ≡ need
  pub each : AllByRecursion (P running.object running.stamp) running.answers.votes

abbrev pub AreCounted : ℕ → (ObjectId → Stamp → Vote (List ℕ) → Type 0) → List Running → Type 0
AreCounted need P fetching = AllByRecursion (Counts need P) fetching

-- what is accepted changes no fetch
accept_all_fetching : (state : ReplicaState) (accepted : List Accepted)
    → (accept_all state accepted).fetching ≡ state.fetching
unfolding accept_all
accept_all_fetching state [] = refl
accept_all_fetching state (first ∷ later) = accept_all_fetching (accept state first) later

module _ (need : ℕ) (P : ObjectId → Stamp → Vote (List ℕ) → Type 0) where
  fetch_counted : (key : ObjectId × Stamp) (fetching : List Running) → AreCounted need P fetching
      → AreCounted need P (with_fetch need key fetching)
  fetch_counted key fetching are =
      cond_both (is_some (fetch_under key.0 key.1 fetching)) _ _ (AreCounted need P) (λ _. are)
      (λ _. each_append (Counts need P) fetching _ are (record { needs = refl; each = tt }, tt))

  fetches_counted : (missing : List (ObjectId × Stamp)) (fetching : List Running) → AreCounted need P fetching
      → AreCounted need P (with_fetches need missing fetching)
  unfolding with_fetches
  fetches_counted [] fetching are = are
  fetches_counted (key ∷ later) fetching are =
      fetches_counted later (with_fetch need key fetching) (fetch_counted key fetching are)

  vote_counted : (object : ObjectId) (stamp : Stamp) (replica : ReplicaId) (text : List ℕ)
      → P object stamp (record { replica = replica; value = text }) → (running : Running) → Counts need P running
      → Counts need P (with_vote object stamp replica text running)
  vote_counted object stamp replica text new running counts =
      cond_both (is_running object stamp running) _ _ (Counts need P)
      (λ is.
      let same : (running.object ≡ object) × (running.stamp ≡ stamp) =
      same_key running.object object running.stamp stamp is in
      let vote : Vote (List ℕ) = record { replica = replica; value = text } in
      let here : P running.object running.stamp vote =
      subst (λ (it : ObjectId). P it running.stamp vote) (sym same.0)
      (subst (λ (it : Stamp). P object it vote) (sym same.1) new) in
      cond_both (has_voted replica running.answers.votes) _ _
      (λ (answers : Answers). Counts need P (record running { answers = answers })) (λ _. counts)
      (λ _. record {
        needs = counts.needs;
        each = each_append (P running.object running.stamp) running.answers.votes (vote ∷ []) counts.each (here, tt);
      }))
      (λ _. counts)

  votes_counted : (object : ObjectId) (stamp : Stamp) (replica : ReplicaId) (text : List ℕ)
      → P object stamp (record { replica = replica; value = text }) → (fetching : List Running)
      → AreCounted need P fetching → AreCounted need P (with_votes object stamp replica text fetching)
  unfolding with_votes
  votes_counted object stamp replica text new [] are = tt
  votes_counted object stamp replica text new (running ∷ later) are = (
    vote_counted object stamp replica text new running are.0,
    votes_counted object stamp replica text new later are.1,
  )

  without_counted : (object : ObjectId) (stamp : Stamp) (fetching : List Running) → AreCounted need P fetching
      → AreCounted need P (without_fetch object stamp fetching)
  unfolding without_fetch
  without_counted object stamp fetching are =
      each_kept (Counts need P) (λ running. not (is_running object stamp running)) fetching are

  -- what holds of each answer that the frame brings
  abbrev pub IsBrought : Frame → Type 0
  IsBrought received = (object : ObjectId) (stamp : Stamp) (vote : Vote (List ℕ))
      → BringsVote received object stamp vote → P object stamp vote

  pub learned_counted : (state : ReplicaState) (received : Frame) → IsBrought received
      → AreCounted need P state.fetching → AreCounted need P (learned state received).fetching
  learned_counted state (frame.Fetched replica object stamp version mac) brought are =
      let text : List ℕ = state_form.spell version in
      let kept : ReplicaState → Type 0 = λ mid. AreCounted need P mid.fetching in
      let voted : ReplicaState = record state { fetching = with_votes object stamp replica text state.fetching } in
      cond_both (is_found state replica object stamp version) (with_found state object stamp version)
      (with_told state replica object stamp version) kept
      (λ _. without_counted object stamp state.fetching are)
      (λ _. cond_both (has_kind (slice_get state.kinds object.0) version.value) voted state kept
      (λ _. votes_counted object stamp replica text
      (brought object stamp (record { replica = replica; value = text })
      (record { version = version; mac = mac; is_received = refl; value = refl })) state.fetching are)
      (λ _. are))
  learned_counted state (frame.Request client number round sets body mac) brought are = are
  learned_counted state (frame.Reply replica client number round verdict culled shown mac) brought are = are
  learned_counted state (frame.Fetch replica object stamp mac) brought are = are

  carried_out_counted : (state : ReplicaState) (request : TakenRequest) (decides : Decision)
      → state.keys.bounds + 1 ≡ need → AreCounted need P state.fetching
      → AreCounted need P (carried_out state request decides).0.fetching
  carried_out_counted state request (decision.Answers verdict accepted) is are =
      subst (AreCounted need P) (sym (accept_all_fetching state accepted)) are
  carried_out_counted state request (decision.Waits missing) is are =
      subst (λ (it : ℕ). AreCounted need P (with_fetches it missing state.fetching)) (sym is)
      (fetches_counted missing state.fetching are)

  if_handled_counted : (state : ReplicaState) (found : Option TakenRequest) → state.keys.bounds + 1 ≡ need
      → AreCounted need P state.fetching → AreCounted need P (if_handled state found).0.fetching
  if_handled_counted state None is are = are
  if_handled_counted state (Some request) is are =
      carried_out_counted state request
      (decision_on state (asked_at state request.client request.number request.sets request.body) request.body) is are

  -- a step keeps what it needs, and has no answer that it did not have but that which the frame brings
  pub on_frame_counted : (state : ReplicaState) (received : Frame) → state.keys.bounds + 1 ≡ need
      → IsBrought received → AreCounted need P state.fetching
      → AreCounted need P (replica_on_frame state received).0.fetching
  on_frame_counted state (frame.Fetched replica object stamp version mac) is brought are =
      let received : Frame = frame.Fetched replica object stamp version mac in
      if_handled_counted (learned state received) (handled state received)
      (ap (λ (keys : Ring). keys.bounds + 1) (is_learned state received).keys ∙ is)
      (learned_counted state received brought are)
  on_frame_counted state (frame.Request client number round sets body mac) is brought are =
      if_handled_counted state (handled state (frame.Request client number round sets body mac)) is are
  on_frame_counted state (frame.Reply replica client number round verdict culled shown mac) is brought are = are
  on_frame_counted state (frame.Fetch replica object stamp mac) is brought are = are

  pub on_received_counted : (state : ReplicaState) (found : Option Frame) → state.keys.bounds + 1 ≡ need
      → ((received : Frame) → found ≡ Some received → IsBrought received) → AreCounted need P state.fetching
      → AreCounted need P (replica_on_received state found).0.fetching
  on_received_counted state None is brought are = are
  on_received_counted state (Some received) is brought are =
      on_frame_counted state received is (brought received refl) are

  -- a replica begins with no fetch
  pub opening_counted : (me : ReplicaId) (keys : Ring) (kinds : List KindName)
      → AreCounted need P (replica_at_start me keys kinds).fetching
  opening_counted me keys kinds = tt

-- what holds of each fetch holds of that under a key
pub found_under : (P : Running → Type 0) (object : ObjectId) (stamp : Stamp) (fetching : List Running)
    (running : Running) → AllByRecursion P fetching → fetch_under object stamp fetching ≡ Some running
    → P running × (running.object ≡ object) × (running.stamp ≡ stamp)
found_under P object stamp [] running each found = absurd (none-some running found)
found_under P object stamp (first ∷ later) running each found =
    elim (cases_Bool (is_running object stamp first)) [
      | inl is ↦
          let here : first ≡ running =
          same_Some first running
          (sym (ap (λ (test : Bool). cond test (Some first) (fetch_under object stamp later)) is) ∙ found) in
          let same : (first.object ≡ object) × (first.stamp ≡ stamp) =
          same_key first.object object first.stamp stamp is in (
            subst P here each.0,
            ap (λ (it : Running). it.object) (sym here) ∙ same.0,
            ap (λ (it : Running). it.stamp) (sym here) ∙ same.1,
          )
      | inr not ↦
          found_under P object stamp later running each.1
          (sym (ap (λ (test : Bool). cond test (Some first) (fetch_under object stamp later)) not) ∙ found)
    ]
