-- What stands behind a lock, at the opening and with one step more.
use Rattle.std.proofs.Common.{◌≡◌, ℕ, zero, suc, ◌≤◌, List, [], ◌∷◌, ◌++◌, Option, None, Some, refl, sym, ap, subst, ◌∙◌}
use Rattle.std.specs.Prelude.{option_map, nat_lt}
use Rattle.std.proofs.lemmas.Bool.{cond_both}
use Rattle.std.proofs.lemmas.Option.{none-some, same_Some}
use Rattle.qu_base.specs.Bounds.{replicas}
use Rattle.qu_base.specs.declared.party.ClientId.{ClientId}
use Rattle.qu_base.specs.declared.party.Party.{Party}
use Rattle.qu_base.specs.declared.party.Party.TheVariants as party
use Rattle.qu_base.specs.declared.party.ReplicaId.{ReplicaId}
use Rattle.qu_objects.specs.declared.op.Op.{Op}
use Rattle.qu_rows.specs.State.{ReplicaState}
use Rattle.qu_replica.proofs.States.Growth.{step-grows}
use Rattle.qu_client.specs.declared.state.ClientState.{ClientState}
use Rattle.qu_client.proofs.Laws.{client_step-me, client_tick-me, client_invoke-me}
use Rattle.qu_trace.specs.Faulty.{is_faulty}
use Rattle.qu_trace.specs.declared.trace.Setup.{Setup}
use Rattle.qu_frames.specs.declared.input.Input.{Input}
use Rattle.qu_frames.specs.declared.input.Input.TheVariants.{Frame, Tick, Invoke}
use Rattle.qu_replay.specs.declared.kept_step.KeptStep.{KeptStep}
use Rattle.qu_replay.specs.Steps.{Actor, Replicates, Asks, actor_moved, moved_replica, moved_client, CanTake, IsTakenByClient, IsTakenByReplica}
use Rattle.qu_replay.specs.Replays.{IsStepMade, IsReplay, IsReplayOf, RisesFrom, first_free_ticket, IsAfterLetter, opening_replica, opening_client, opening_actor}
use Rattle.qu_replay.specs.Operations.{begun_operations}
use Rattle.qu_replay.specs.Standing.{StandsWell, ReplicaStands}
use Rattle.qu_replay.proofs.Growing.{push_of}
use Rattle.qu_replay.proofs.Replayed.{rises_push}
use Rattle.qu_keeping.specs.Kept.{kept_as}
use Rattle.qu_lock.specs.Calls.{calls_by, AreFirstCalls, IsNextCall}
use Rattle.qu_lock.specs.Locked.{ClientStands}
use Rattle.qu_lock.proofs.Calling.{first_calls_push}

-- ---- the opening

replays_nothing : (me : Party) (found : Option Actor) (actor : Actor) → found ≡ Some actor
    → IsReplayOf me found [] (Some actor)
unfolding IsReplayOf IsReplay
replays_nothing me None actor is = absurd (none-some actor is)
replays_nothing me (Some first) actor is = (actor, refl, same_Some first actor is)

opening_stands : (setup : Setup) (me : Party) (actor : Actor) → opening_actor setup me ≡ Some actor
    → StandsWell setup me actor []
unfolding RisesFrom
opening_stands setup me actor is =
    record { replay = replays_nothing me (opening_actor setup me) actor is; rise = tt }

abbrev replica_name : ReplicaId → Option Actor → ReplicaId
replica_name other None = other
replica_name other (Some (Replicates state)) = state.me
replica_name other (Some (Asks state)) = other

abbrev client_name : ClientId → Option Actor → ClientId
client_name other None = other
client_name other (Some (Replicates state)) = other
client_name other (Some (Asks state)) = state.me

replica_opens : (setup : Setup) (me : ReplicaId) → replica_name me (opening_actor setup (party.Replica me)) ≡ me
replica_opens setup me =
    let P : Option ReplicaState → Type 0 = λ found.
    replica_name me (option_map (λ (state : ReplicaState). Replicates state) found) ≡ me in
    cond_both (is_faulty setup (party.Replica me)) None (opening_replica setup me) P (λ _. refl)
    (λ _. cond_both (nat_lt me.0 (replicas setup.bounds)) _ None P (λ _. refl) (λ _. refl))

abbrev numbered_client : ℕ → ClientId
numbered_client number = record { 0 = number }

client_opens : (setup : Setup) (me : ClientId) → client_name me (opening_actor setup (party.Client me)) ≡ me
client_opens setup me =
    let P : Option ClientState → Type 0 = λ found.
    client_name me (option_map (λ (state : ClientState). Asks state) found) ≡ me in
    cond_both (is_faulty setup (party.Client me)) None (opening_client setup me.0) P (λ _. refl)
    (λ _. of_number setup me me.0 refl)
  where
    of_number : (setup : Setup) (me : ClientId) (number : ℕ) → me.0 ≡ number
        → client_name me (option_map (λ (state : ClientState). Asks state) (opening_client setup number)) ≡ me
    of_number setup me zero is = refl
    of_number setup me (suc before) is =
        let P : Option ClientState → Type 0 = λ found.
        client_name me (option_map (λ (state : ClientState). Asks state) found) ≡ me in
        cond_both (nat_lt before setup.clients) _ None P
        (λ _. ap numbered_client (sym is)) (λ _. refl)

pub named_replica : (setup : Setup) (me : ReplicaId) (state : ReplicaState)
    → opening_actor setup (party.Replica me) ≡ Some (Replicates state) → state.me ≡ me
named_replica setup me state is = sym (ap (replica_name me) is) ∙ replica_opens setup me

pub named_client : (setup : Setup) (me : ClientId) (state : ClientState)
    → opening_actor setup (party.Client me) ≡ Some (Asks state) → state.me ≡ me
named_client setup me state is = sym (ap (client_name me) is) ∙ client_opens setup me

pub replica_begins : (setup : Setup) (me : ReplicaId) (state : ReplicaState)
    → opening_actor setup (party.Replica me) ≡ Some (Replicates state) → ReplicaStands setup state []
replica_begins setup me state is =
    opening_stands setup (party.Replica state.me) (Replicates state)
    (subst (λ (it : ReplicaId). opening_actor setup (party.Replica it) ≡ Some (Replicates state))
    (sym (named_replica setup me state is)) is)

none_begun : (calls : List Op) → AreFirstCalls calls []
unfolding begun_operations
none_begun [] = refl
none_begun (call ∷ later) = refl

pub client_begins : (setup : Setup) (calls : List (ClientId × Op)) (me : ClientId) (state : ClientState)
    → opening_actor setup (party.Client me) ≡ Some (Asks state) → ClientStands setup calls state []
client_begins setup calls me state is = record {
  well =
      opening_stands setup (party.Client state.me) (Asks state)
      (subst (λ (it : ClientId). opening_actor setup (party.Client it) ≡ Some (Asks state))
      (sym (named_client setup me state is)) is);
  first_calls = none_begun (calls_by state.me calls);
}

-- ---- one step more

stands_push : (setup : Setup) (me : Party) (actor : Actor) (steps : List KeptStep) (step : KeptStep)
    → StandsWell setup me actor steps → IsStepMade me actor step → first_free_ticket 0 steps ≤ step.ticket
    → IsAfterLetter step.ticket step.input
    → StandsWell setup me (actor_moved me actor step.input).actor (steps ++ step ∷ [])
stands_push setup me actor steps step stands made later after = record {
  replay = push_of me (opening_actor setup me) (Some actor) steps actor step stands.replay refl made;
  rise = rises_push 0 steps step stands.rise later after;
}

-- a step that is kept as it was made
made_as : (me : Party) (actor : Actor) (ticket : ℕ) (input : Input) → CanTake me actor input
    → IsStepMade me actor (kept_as ticket input (actor_moved me actor input))
made_as me actor ticket input can = record { can = can; letters = refl; ended = refl }

abbrev replica_of : ReplicaState → Actor → ReplicaState
replica_of other (Replicates state) = state
replica_of other (Asks state) = other

abbrev client_of : ClientState → Actor → ClientState
client_of other (Asks state) = state
client_of other (Replicates state) = other

-- a replica keeps its name
replica_stays : (state new : ReplicaState) (input : Input) → Replicates new ≡ (moved_replica state input).actor
    → new.me ≡ state.me
replica_stays state new (Frame name text) is =
    ap (λ (it : Actor). (replica_of new it).me) is ∙ (step-grows state text).me
replica_stays state new Tick is = ap (λ (it : Actor). (replica_of new it).me) is
replica_stays state new (Invoke op) is = ap (λ (it : Actor). (replica_of new it).me) is

-- a client keeps its name
client_stays : (state new : ClientState) (input : Input) → Asks new ≡ (moved_client state.me state input).actor
    → new.me ≡ state.me
client_stays state new (Frame name text) is =
    ap (λ (it : Actor). (client_of new it).me) is ∙ client_step-me state text
client_stays state new Tick is = ap (λ (it : Actor). (client_of new it).me) is ∙ client_tick-me state
client_stays state new (Invoke op) is = ap (λ (it : Actor). (client_of new it).me) is ∙ client_invoke-me state op

module _ (setup : Setup) (state new : ReplicaState) (steps after : List KeptStep) (ticket : ℕ) (input : Input)
    (is : Replicates new ≡ (moved_replica state input).actor)
    (kept : after ≡ steps ++ kept_as ticket input (moved_replica state input) ∷ []) where
  replica_more : ReplicaStands setup state steps → IsTakenByReplica input → first_free_ticket 0 steps ≤ ticket
      → IsAfterLetter ticket input → ReplicaStands setup new after
  replica_more stands can later behind =
      let me : party.Replica state.me ≡ party.Replica new.me =
      ap (λ (it : ReplicaId). party.Replica it) (sym (replica_stays state new input is)) in
      let more : StandsWell setup (party.Replica state.me) (moved_replica state input).actor
      (steps ++ kept_as ticket input (moved_replica state input) ∷ []) =
      stands_push setup (party.Replica state.me) (Replicates state) steps
      (kept_as ticket input (moved_replica state input)) stands
      (made_as (party.Replica state.me) (Replicates state) ticket input can) later behind in
      subst (λ (it : Party). StandsWell setup it (Replicates new) after) me
      (subst (λ (it : Actor). StandsWell setup (party.Replica state.me) it after) (sym is)
      (subst (λ (it : List KeptStep). StandsWell setup (party.Replica state.me) (moved_replica state input).actor it)
      (sym kept) more))

  -- what contracts see of the replica before the step allows it
  pub replica_kept : (me : Party) (seen : ReplicaState × List KeptStep) → (state, steps) ≡ seen
      → me ≡ party.Replica state.me → ReplicaStands setup state steps → IsTakenByReplica input
      → first_free_ticket 0 seen.1 ≤ ticket → IsAfterLetter ticket input
      → (me ≡ party.Replica new.me) × ReplicaStands setup new after
  replica_kept me seen view named stands can later behind =
      let free : first_free_ticket 0 steps ≤ ticket =
      subst (λ (it : ReplicaState × List KeptStep). first_free_ticket 0 it.1 ≤ ticket) (sym view) later in (
        named ∙ ap (λ (it : ReplicaId). party.Replica it) (sym (replica_stays state new input is)),
        replica_more stands can free behind,
      )

module _ (setup : Setup) (calls : List (ClientId × Op)) (state new : ClientState) (steps after : List KeptStep)
    (ticket : ℕ) (input : Input) (is : Asks new ≡ (moved_client state.me state input).actor)
    (kept : after ≡ steps ++ kept_as ticket input (moved_client state.me state input) ∷ []) where
  client_more : ClientStands setup calls state steps → IsTakenByClient state input
      → IsNextCall (calls_by state.me calls) steps input → first_free_ticket 0 steps ≤ ticket
      → IsAfterLetter ticket input → ClientStands setup calls new after
  client_more stands can next later behind =
      let me : state.me ≡ new.me = sym (client_stays state new input is) in
      let more : StandsWell setup (party.Client state.me) (moved_client state.me state input).actor
      (steps ++ kept_as ticket input (moved_client state.me state input) ∷ []) =
      stands_push setup (party.Client state.me) (Asks state) steps
      (kept_as ticket input (moved_client state.me state input)) stands.well
      (made_as (party.Client state.me) (Asks state) ticket input can) later behind in
      let first : AreFirstCalls (calls_by state.me calls)
      (steps ++ kept_as ticket input (moved_client state.me state input) ∷ []) =
      first_calls_push (calls_by state.me calls) steps (kept_as ticket input (moved_client state.me state input))
      stands.first_calls next in
      record {
        well =
            subst (λ (it : ClientId). StandsWell setup (party.Client it) (Asks new) after) me
            (subst (λ (it : Actor). StandsWell setup (party.Client state.me) it after) (sym is)
            (subst (λ (it : List KeptStep).
            StandsWell setup (party.Client state.me) (moved_client state.me state input).actor it) (sym kept) more));
        first_calls =
            subst (λ (it : ClientId). AreFirstCalls (calls_by it calls) after) me
            (subst (λ (it : List KeptStep). AreFirstCalls (calls_by state.me calls) it) (sym kept) first);
      }

  -- what contracts see of the client before the step allows it
  client_kept_own : (me : Party) (seen : ClientState × List KeptStep) → (state, steps) ≡ seen
      → me ≡ party.Client state.me → ClientStands setup calls state steps → IsTakenByClient seen.0 input
      → IsNextCall (calls_by seen.0.me calls) seen.1 input → first_free_ticket 0 seen.1 ≤ ticket
      → IsAfterLetter ticket input → (me ≡ party.Client new.me) × ClientStands setup calls new after
  client_kept_own me seen view named stands can next later behind =
      let Seen : Type 0 = ClientState × List KeptStep in
      let idle : IsTakenByClient state input =
      subst (λ (it : Seen). IsTakenByClient it.0 input) (sym view) can in
      let call : IsNextCall (calls_by state.me calls) steps input =
      subst (λ (it : Seen). IsNextCall (calls_by it.0.me calls) it.1 input) (sym view) next in
      let free : first_free_ticket 0 steps ≤ ticket =
      subst (λ (it : Seen). first_free_ticket 0 it.1 ≤ ticket) (sym view) later in (
        named ∙ ap (λ (it : ClientId). party.Client it) (sym (client_stays state new input is)),
        client_more stands idle call free behind,
      )

-- the same, where the step was made under what is the client's name
pub client_kept : (setup : Setup) (calls : List (ClientId × Op)) (state new : ClientState)
    (steps after : List KeptStep) (ticket : ℕ) (input : Input) (name : ClientId)
    (seen : ClientState × List KeptStep) → (state, steps) ≡ seen → name ≡ seen.0.me
    → Asks new ≡ (moved_client name state input).actor
    → after ≡ steps ++ kept_as ticket input (moved_client name state input) ∷ [] → (me : Party)
    → me ≡ party.Client state.me → ClientStands setup calls state steps → IsTakenByClient seen.0 input
    → IsNextCall (calls_by seen.0.me calls) seen.1 input → first_free_ticket 0 seen.1 ≤ ticket
    → IsAfterLetter ticket input → (me ≡ party.Client new.me) × ClientStands setup calls new after
client_kept setup calls state new steps after ticket input name seen view called is kept me =
    let own : name ≡ state.me = called ∙ ap (λ (it : ClientState × List KeptStep). it.0.me) (sym view) in
    let moves : Asks new ≡ (moved_client state.me state input).actor =
    subst (λ (it : ClientId). Asks new ≡ (moved_client it state input).actor) own is in
    let keeps : after ≡ steps ++ kept_as ticket input (moved_client state.me state input) ∷ [] =
    subst (λ (it : ClientId). after ≡ steps ++ kept_as ticket input (moved_client it state input) ∷ []) own kept in
    client_kept_own setup calls state new steps after ticket input moves keeps me seen view
