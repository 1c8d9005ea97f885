-- What all actors kept, told in an order that keeps that of each, is a run on threads.
use Rattle.std.proofs.Common.{◌≡◌, ℕ, zero, suc, ◌+◌, ◌<◌, Bool, true, false, cond, eqb, List, [], ◌∷◌, map, length, Option, None, Some, refl, sym, ap, subst, ◌∙◌, append-nil, arith, inl, inr}
use Rattle.std.specs.Prelude.{option_map, nat_lt, IfSome}
use Rattle.std.proofs.lemmas.Bool.{cases_Bool, cond_both, eqb-true, false≢true}
use Rattle.std.proofs.lemmas.List.{take_all}
use Rattle.qu_base.specs.declared.party.ClientId.{ClientId}
use Rattle.qu_base.specs.declared.party.ReplicaId.{ReplicaId}
use Rattle.qu_base.specs.declared.party.Party.{Party}
use Rattle.qu_base.specs.declared.party.Party.TheVariants as party
use Rattle.qu_base.specs.Bounds.{replicas}
use Rattle.qu_objects.specs.declared.op.Op.{Op}
use Rattle.qu_rows.specs.State.{ReplicaState}
use Rattle.qu_client.specs.declared.state.ClientState.{ClientState}
use Rattle.qu_trace.specs.Faulty.{is_faulty}
use Rattle.qu_trace.specs.declared.trace.Entry.{Entry}
use Rattle.qu_trace.specs.declared.trace.Setup.{Setup}
use Rattle.qu_world.specs.State.{WorldState, correct_client}
use Rattle.qu_world.specs.Run.{IsSetup, run, events_of}
use Rattle.qu_replay.specs.Steps.{Actor, Replicates, Asks}
use Rattle.qu_replay.specs.declared.kept_step.KeptStep.{KeptStep}
use Rattle.qu_replay.specs.Replays.{IsReplay, IsReplayOf, RisesFrom, actor_at, opening_actor, opening_client, own_steps}
use Rattle.qu_replay.specs.Standing.{StandsWell}
use Rattle.qu_replay.specs.Told.{AreTold}
use Rattle.qu_replay.specs.Operations.{begun_operations, ended_operations, invoked_by}
use Rattle.qu_replay.proofs.Told.{told_is_run, told_from_opening}
use Rattle.qu_replay.proofs.Operations.{told_invoked, told_sent}
use Rattle.qu_lock.specs.Calls.{calls_by}
use Rattle.qu_lock.specs.Locked.{ClientStands}
use Rattle.qu_gather.specs.Live.{IsCorrectClient, AreCallsOf, IsLive}
use Rattle.qu_gather.specs.Correct.{client_at, correct_replicas, correct_clients}
use Rattle.qu_gather.specs.Gathered.{all_steps, replica_name, client_name, ReplicasStand, ClientsStand, HasEnded, HaveEnded, AreTheirOwn}
use Rattle.qu_gather.proofs.Ended.{ends_told, ends_own, all_own, replays_end, client_balanced}
use Rattle.qu_gather.specs.Ticks.{late_letter}
use Rattle.qu_gather.proofs.Recorded.{calls_recorded}
use Rattle.qu_gather.proofs.Replied.{IsIdleEnd, EachEnds, held_ends, operations_ended}
use Rattle.qu_gather.proofs.Waiting.{ticks_answered}
use Rattle.qu_gather.proofs.Numbers.{AscendsFrom, replica_numbers, client_numbers, replicas_ascend, clients_ascend, is_among, has_client}
use Rattle.qu_gather.proofs.Own.{replica_steps, client_steps, no_replica_steps, no_client_steps, own_replica, own_client}

-- these steps of a party lead from its opening to an end at which nothing is under way
record IsHeld (setup : Setup) (me : Party) (steps : List KeptStep) : Type 0 where
  last : Option Actor
  replay : IsReplayOf me (opening_actor setup me) steps last
  rise : RisesFrom 0 steps
  idle : IsIdleEnd last

-- ---- the opening

replays_nothing : (me : Party) (found : Option Actor) → IsReplayOf me found [] found
unfolding IsReplayOf IsReplay
replays_nothing me None = (refl, refl)
replays_nothing me (Some actor) = (actor, refl, refl)

replica_idle : (found : Option ReplicaState) → IsIdleEnd (option_map (λ (state : ReplicaState). Replicates state) found)
replica_idle None = tt
replica_idle (Some state) = tt

client_opens_idle : (setup : Setup) (number : ℕ)
    → IsIdleEnd (option_map (λ (state : ClientState). Asks state) (opening_client setup number))
client_opens_idle setup zero = tt
client_opens_idle setup (suc before) =
    cond_both (nat_lt before setup.clients) _ None
    (λ (found : Option ClientState). IsIdleEnd (option_map (λ (state : ClientState). Asks state) found))
    (λ _. refl) (λ _. tt)

opens_idle : (setup : Setup) (me : Party) → IsIdleEnd (opening_actor setup me)
opens_idle setup (party.Replica me) = replica_idle _
opens_idle setup (party.Client me) =
    cond_both (is_faulty setup (party.Client me)) None (opening_client setup me.0)
    (λ (found : Option ClientState). IsIdleEnd (option_map (λ (state : ClientState). Asks state) found))
    (λ _. tt) (λ _. client_opens_idle setup me.0)

held_nothing : (setup : Setup) (me : Party) → IsHeld setup me []
unfolding RisesFrom
held_nothing setup me = record {
  last = opening_actor setup me;
  replay = replays_nothing me (opening_actor setup me);
  rise = tt;
  idle = opens_idle setup me;
}

-- ---- replicas

abbrev replica_at_number : ℕ → ReplicaId
replica_at_number number = record { 0 = number }

replica_held : (setup : Setup) (me : ReplicaId) (held : List (ReplicaState × List KeptStep)) (low : ℕ)
    → AscendsFrom low (map (λ (one : ReplicaState × List KeptStep). one.0.me.0) held) → ReplicasStand setup held
    → IsHeld setup (party.Replica me) (replica_steps me.0 held)
unfolding replica_steps AscendsFrom
replica_held setup me [] low rises stand = held_nothing setup (party.Replica me)
replica_held setup me (one ∷ later) low rises stand =
    elim (cases_Bool (eqb one.0.me.0 me.0)) [
      | inl mine ↦
          let number : one.0.me.0 ≡ me.0 = eqb-true one.0.me.0 me.0 mine in
          let is : one.0.me ≡ me = ap replica_at_number number in
          let none : replica_steps me.0 later ≡ [] =
          no_replica_steps me.0 (one.0.me.0 + 1) later (omega (arith, number)) rises.1 in
          let well : StandsWell setup (party.Replica me) (Replicates one.0) one.1 =
          subst (λ (it : ReplicaId). StandsWell setup (party.Replica it) (Replicates one.0) one.1) is stand.0 in
          rw (mine, none, append-nil one.1)
          (record { last = Some (Replicates one.0); replay = well.replay; rise = well.rise; idle = tt })
      | inr other ↦ rw other (replica_held setup me later (one.0.me.0 + 1) rises.1 stand.1)
    ]

-- ---- clients

abbrev client_at_number : ℕ → ClientId
client_at_number number = record { 0 = number }

client_held : (setup : Setup) (calls : List (ClientId × Op)) (me : ClientId)
    (held : List (ClientState × List KeptStep)) (low : ℕ)
    → AscendsFrom low (map (λ (one : ClientState × List KeptStep). one.0.me.0) held)
    → ClientsStand setup calls held → HaveEnded calls held
    → IsHeld setup (party.Client me) (client_steps me.0 held)
unfolding client_steps AscendsFrom
client_held setup calls me [] low rises stand ended = held_nothing setup (party.Client me)
client_held setup calls me (one ∷ later) low rises stand ended =
    elim (cases_Bool (eqb one.0.me.0 me.0)) [
      | inl mine ↦
          let number : one.0.me.0 ≡ me.0 = eqb-true one.0.me.0 me.0 mine in
          let is : one.0.me ≡ me = ap client_at_number number in
          let none : client_steps me.0 later ≡ [] =
          no_client_steps me.0 (one.0.me.0 + 1) later (omega (arith, number)) rises.1 in
          let here : ClientStands setup calls one.0 one.1 = stand.0 in
          let well : StandsWell setup (party.Client me) (Asks one.0) one.1 =
          subst (λ (it : ClientId). StandsWell setup (party.Client it) (Asks one.0) one.1) is here.well in
          let end : HasEnded calls one = ended.0 in
          rw (mine, none, append-nil one.1)
          (record { last = Some (Asks one.0); replay = well.replay; rise = well.rise; idle = end.idle })
      | inr other ↦ rw other (client_held setup calls me later (one.0.me.0 + 1) rises.1 stand.1 ended.1)
    ]

-- a client that is there began all its calls
client_begun : (setup : Setup) (calls : List (ClientId × Op)) (me : ClientId)
    (held : List (ClientState × List KeptStep)) (low : ℕ)
    → AscendsFrom low (map (λ (one : ClientState × List KeptStep). one.0.me.0) held)
    → ClientsStand setup calls held → HaveEnded calls held
    → is_among me.0 (map (λ (one : ClientState × List KeptStep). one.0.me.0) held) ≡ true
    → begun_operations (client_steps me.0 held) ≡ calls_by me calls
unfolding client_steps AscendsFrom is_among
client_begun setup calls me [] low rises stand ended there = absurd (false≢true there)
client_begun setup calls me (one ∷ later) low rises stand ended there =
    elim (cases_Bool (eqb one.0.me.0 me.0)) [
      | inl mine ↦
          let number : one.0.me.0 ≡ me.0 = eqb-true one.0.me.0 me.0 mine in
          let is : one.0.me ≡ me = ap client_at_number number in
          let none : client_steps me.0 later ≡ [] =
          no_client_steps me.0 (one.0.me.0 + 1) later (omega (arith, number)) rises.1 in
          let here : ClientStands setup calls one.0 one.1 = stand.0 in
          let end : HasEnded calls one = ended.0 in
          let all : length (begun_operations one.1) ≡ length (calls_by one.0.me calls) = end.all in
          rw (mine, none, append-nil one.1)
          (here.first_calls
          ∙ take_all (length (begun_operations one.1)) (calls_by one.0.me calls) (omega (arith, all))
          ∙ ap (λ (it : ClientId). calls_by it calls) is)
      | inr other ↦
          let rest : List ℕ = map (λ (one : ClientState × List KeptStep). one.0.me.0) later in
          let there_still : is_among me.0 rest ≡ true =
          ap (λ (it : Bool). cond it true (is_among me.0 rest)) (sym other) ∙ there in
          rw other (client_begun setup calls me later (one.0.me.0 + 1) rises.1 stand.1 ended.1 there_still)
    ]

-- one that is not there took no step, and was not called
client_absent : (me : ClientId) (held : List (ClientState × List KeptStep))
    → is_among me.0 (map (λ (one : ClientState × List KeptStep). one.0.me.0) held) ≡ false
    → client_steps me.0 held ≡ []
unfolding client_steps is_among
client_absent me [] none = refl
client_absent me (one ∷ later) none =
    elim (cases_Bool (eqb one.0.me.0 me.0)) [
      | inl mine ↦ absurd (false≢true (sym none ∙ ap (λ (it : Bool). cond it true
          (is_among me.0 (map (λ (one : ClientState × List KeptStep). one.0.me.0) later))) mine))
      | inr other ↦ rw other (client_absent me later
          (ap (λ (it : Bool). cond it true
          (is_among me.0 (map (λ (one : ClientState × List KeptStep). one.0.me.0) later))) (sym other) ∙ none))
    ]

called_there : (setup : Setup) (me : ClientId) → IsCorrectClient setup me
    → is_among me.0 (client_numbers (correct_clients setup setup.clients)) ≡ true
called_there setup me correct = of_number me.0 refl
  where
    of_number : (number : ℕ) → me.0 ≡ number
        → is_among me.0 (client_numbers (correct_clients setup setup.clients)) ≡ true
    of_number zero is = absurd (let first = correct.first in omega (arith, first, is))
    of_number (suc place) is =
        let number : place + 1 ≡ me.0 = omega (arith, is) in
        let who : client_at place ≡ me = ap client_at_number number in
        let last = correct.last in
        let less : place < setup.clients = omega (arith, is, last) in
        let good : is_faulty setup (party.Client (client_at place)) ≡ false =
        subst (λ (it : ClientId). is_faulty setup (party.Client it) ≡ false) (sym who) correct.correct in
        subst (λ (it : ℕ). is_among it (client_numbers (correct_clients setup setup.clients)) ≡ true) number
        (has_client setup setup.clients place less good)

not_called : (setup : Setup) (calls : List (ClientId × Op)) (me : ClientId) → AreCallsOf setup calls
    → is_among me.0 (client_numbers (correct_clients setup setup.clients)) ≡ false → calls_by me calls ≡ []
unfolding calls_by
not_called setup [] me callable none = refl
not_called setup (call ∷ later) me callable none =
    elim (cases_Bool (eqb call.0.0 me.0)) [
      | inl mine ↦
          let is : call.0 ≡ me = ap client_at_number (eqb-true call.0.0 me.0 mine) in
          let here : IsCorrectClient setup me = subst (IsCorrectClient setup) is callable.0 in
          absurd (false≢true (sym none ∙ called_there setup me here))
      | inr other ↦ rw other (not_called setup later me callable.1 none)
    ]

-- ---- all

-- what is known of all actors in the end
record IsGathered (setup : Setup) (calls : List (ClientId × Op)) (held : List (ReplicaState × List KeptStep))
    (others : List (ClientState × List KeptStep)) : Type 0 where
  own : AreTheirOwn setup held others
  replicas_stand : ReplicasStand setup held
  clients_stand : ClientsStand setup calls others
  ended : HaveEnded calls others

replicas_rise : (setup : Setup) (held : List (ReplicaState × List KeptStep))
    → map replica_name held ≡ correct_replicas setup (replicas setup.bounds)
    → AscendsFrom 0 (map (λ (one : ReplicaState × List KeptStep). one.0.me.0) held)
replicas_rise setup held is =
    subst (AscendsFrom 0) (sym (ap replica_numbers is) ∙ map_map held)
    (replicas_ascend setup (replicas setup.bounds))
  where
    map_map : (held : List (ReplicaState × List KeptStep))
        → replica_numbers (map replica_name held) ≡ map (λ (one : ReplicaState × List KeptStep). one.0.me.0) held
    map_map [] = refl
    map_map (one ∷ later) = ap (λ (it : List ℕ). one.0.me.0 ∷ it) (map_map later)

numbers_are : (setup : Setup) (others : List (ClientState × List KeptStep))
    → map client_name others ≡ correct_clients setup setup.clients
    → client_numbers (correct_clients setup setup.clients)
    ≡ map (λ (one : ClientState × List KeptStep). one.0.me.0) others
numbers_are setup others is = sym (ap client_numbers is) ∙ map_map others
  where
    map_map : (others : List (ClientState × List KeptStep))
        → client_numbers (map client_name others) ≡ map (λ (one : ClientState × List KeptStep). one.0.me.0) others
    map_map [] = refl
    map_map (one ∷ later) = ap (λ (it : List ℕ). one.0.me.0 ∷ it) (map_map later)

all_held : (setup : Setup) (calls : List (ClientId × Op)) (held : List (ReplicaState × List KeptStep))
    (others : List (ClientState × List KeptStep)) (me : Party) → IsGathered setup calls held others
    → IsHeld setup me (own_steps me (all_steps held others))
all_held setup calls held others (party.Replica me) gathered =
    subst (IsHeld setup (party.Replica me)) (sym (own_replica me held others))
    (replica_held setup me held 0 (replicas_rise setup held gathered.own.replicas_are) gathered.replicas_stand)
all_held setup calls held others (party.Client me) gathered =
    subst (IsHeld setup (party.Client me)) (sym (own_client me held others))
    (client_held setup calls me others 0
    (subst (AscendsFrom 0) (numbers_are setup others gathered.own.clients_are) (clients_ascend setup setup.clients))
    gathered.clients_stand gathered.ended)

all_begun : (setup : Setup) (calls : List (ClientId × Op)) (held : List (ReplicaState × List KeptStep))
    (others : List (ClientState × List KeptStep)) (me : ClientId) → AreCallsOf setup calls
    → IsGathered setup calls held others
    → begun_operations (own_steps (party.Client me) (all_steps held others)) ≡ calls_by me calls
unfolding begun_operations
all_begun setup calls held others me callable gathered =
    let numbers = numbers_are setup others gathered.own.clients_are in
    let names : List ℕ = map (λ (one : ClientState × List KeptStep). one.0.me.0) others in
    ap begun_operations (own_client me held others)
    ∙ (elim (cases_Bool (is_among me.0 names)) [
      | inl there ↦ client_begun setup calls me others 0
          (subst (AscendsFrom 0) numbers (clients_ascend setup setup.clients))
          gathered.clients_stand gathered.ended there
      | inr none ↦ ap begun_operations (client_absent me others none)
          ∙ sym (not_called setup calls me callable (ap (is_among me.0) numbers ∙ none))
    ])

all_balanced : (setup : Setup) (calls : List (ClientId × Op)) (held : List (ReplicaState × List KeptStep))
    (others : List (ClientState × List KeptStep)) (me : ClientId) → IsGathered setup calls held others
    → length (ended_operations (own_steps (party.Client me) (all_steps held others)))
    ≡ length (begun_operations (own_steps (party.Client me) (all_steps held others)))
all_balanced setup calls held others me gathered =
    let own = own_client me held others in
    let ascend : AscendsFrom 0 (map (λ (one : ClientState × List KeptStep). one.0.me.0) others) =
    subst (AscendsFrom 0) (numbers_are setup others gathered.own.clients_are)
    (clients_ascend setup setup.clients) in
    ap (λ (it : List KeptStep). length (ended_operations it)) own
    ∙ client_balanced setup calls me others 0 ascend gathered.clients_stand gathered.ended
    ∙ sym (ap (λ (it : List KeptStep). length (begun_operations it)) own)

-- an idle end is that of the last world
idle_there : (world : WorldState) (me : ClientId) (last : Option Actor) → actor_at world (party.Client me) ≡ last
    → IsIdleEnd last → IfSome (correct_client world me) (λ (state : ClientState). state.work ≡ None)
idle_there world me last is idle = of_state (correct_client world me) (subst IsIdleEnd (sym is) idle)
  where
    of_state : (found : Option ClientState) → IsIdleEnd (option_map (λ (state : ClientState). Asks state) found)
        → IfSome found (λ (state : ClientState). state.work ≡ None)
    of_state None idle = tt
    of_state (Some state) idle = idle

-- all steps in an order that keeps those of each actor, and entries that tell them, are a run on threads
pub gathered_live : (setup : Setup) (calls : List (ClientId × Op)) (held : List (ReplicaState × List KeptStep))
    (others : List (ClientState × List KeptStep)) (merged : List (Party × KeptStep)) (entries : List Entry)
    → IsSetup setup → AreCallsOf setup calls → AreTheirOwn setup held others → ReplicasStand setup held
    → ClientsStand setup calls others → HaveEnded calls others
    → ((me : Party) → RisesFrom 0 (own_steps me (all_steps held others))
    → own_steps me merged ≡ own_steps me (all_steps held others))
    → AreTold [] merged entries → late_letter setup [] entries ≡ None
    → IsLive setup calls (record { setup = setup; entries = entries })
gathered_live setup calls held others merged entries limits callable own replicas_stand clients_stand ended kept told
    in_time =
    let gathered : IsGathered setup calls held others = record {
      own = own;
      replicas_stand = replicas_stand;
      clients_stand = clients_stand;
      ended = ended;
    } in
    let fact : (me : Party) → IsHeld setup me (own_steps me (all_steps held others)) =
    λ me. all_held setup calls held others me gathered in
    let same : (me : Party) → own_steps me merged ≡ own_steps me (all_steps held others) =
    λ me. kept me (fact me).rise in
    let ends : Party → Option Actor = λ me. (fact me).last in
    let replays : (me : Party) → IsReplayOf me (opening_actor setup me) (own_steps me merged) (ends me) =
    λ me. subst (λ (it : List KeptStep). IsReplayOf me (opening_actor setup me) it (ends me)) (sym (same me))
    (fact me).replay in
    let invoked : (me : ClientId) → invoked_by me entries ≡ calls_by me calls =
    λ me.
    told_invoked [] merged entries me told ∙ ap begun_operations (same (party.Client me))
    ∙ all_begun setup calls held others me callable gathered in
    let each : (me : ClientId) → EachEnds me 0 (own_steps (party.Client me) merged) =
    λ me.
    held_ends setup me (own_steps (party.Client me) merged) (ends (party.Client me)) (replays (party.Client me))
    (fact (party.Client me)).idle in
    record {
      is_run = told_is_run setup merged entries ends limits replays told;
      setup_is = refl;
      no_injection = told_sent [] merged entries told;
      invoked = invoked;
      recorded = λ me. calls_recorded setup calls entries me callable (invoked me);
      answered = operations_ended setup merged entries each told;
      ticks = ticks_answered setup entries in_time;
      ended = λ me.
          ends_told [] merged entries me told
          ∙ ends_own me merged
          (all_own merged
          (λ who. replays_end who (opening_actor setup who) (own_steps who merged) (ends who) (replays who)))
          ∙ ap (λ (it : List KeptStep). length (ended_operations it)) (same (party.Client me))
          ∙ all_balanced setup calls held others me gathered
          ∙ ap (λ (it : List Op). length it) (all_begun setup calls held others me callable gathered);
      idle = λ me.
          idle_there (run setup (events_of entries)) me (ends (party.Client me))
          ((told_from_opening setup merged entries ends replays told).ends (party.Client me))
          (fact (party.Client me)).idle;
    }

-- the same of what the calls of the end tell, where the run is named
pub gathered_run : (setup named : Setup) (calls named_calls : List (ClientId × Op))
    (held held_now : List (ReplicaState × List KeptStep)) (others others_now : List (ClientState × List KeptStep))
    (all merged merged_now : List (Party × KeptStep)) (entries : List Entry)
    → (setup ≡ named) × (calls ≡ named_calls) → IsSetup setup → AreCallsOf setup calls → HaveEnded calls others
    → held_now ≡ held → others_now ≡ others → AreTheirOwn setup held_now others_now
    → all ≡ all_steps held others → ReplicasStand named held → ClientsStand named named_calls others
    → ((me : Party) → RisesFrom 0 (own_steps me all) → own_steps me merged ≡ own_steps me all)
    → merged_now ≡ merged → AreTold [] merged_now entries → late_letter setup [] entries ≡ None
    → IsLive setup calls (record { setup = setup; entries = entries })
gathered_run setup named calls named_calls held held_now others others_now all merged merged_now entries names limits
    callable ended held_is others_are own all_are replicas_stand clients_stand kept now told in_time =
    let own_here : AreTheirOwn setup held others =
    subst (λ (it : List (ReplicaState × List KeptStep)). AreTheirOwn setup it others) held_is
    (subst (AreTheirOwn setup held_now) others_are own) in
    gathered_live setup calls held others merged entries limits callable own_here
    (subst (λ (it : Setup). ReplicasStand it held) (sym names.0) replicas_stand)
    (subst (λ (it : Setup). ClientsStand it calls others) (sym names.0)
    (subst (λ (it : List (ClientId × Op)). ClientsStand named it others) (sym names.1) clients_stand))
    ended
    (subst (λ (it : List (Party × KeptStep)). (me : Party) → RisesFrom 0 (own_steps me it)
    → own_steps me merged ≡ own_steps me it) all_are kept)
    (subst (λ (it : List (Party × KeptStep)). AreTold [] it entries) now told) in_time
