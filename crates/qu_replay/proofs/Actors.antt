-- One step of a world at a correct actor.
use Rattle.std.proofs.Common.{◌≡◌, ℕ, zero, suc, Bool, true, false, cond, List, [], ◌∷◌, ◌++◌, Option, None, Some, refl, sym, ap, ◌∙◌, inl, inr}
use Rattle.std.specs.Prelude.{slice_get, slice_set, option_map, is_some, ◌==◌}
use Rattle.std.proofs.lemmas.Bool.{cases_Bool, eqb-true, eqb-false}
use Rattle.std.proofs.lemmas.Option.{none-some}
use Rattle.qu_base.specs.declared.party.ClientId.{ClientId}
use Rattle.qu_base.specs.declared.party.ReplicaId.{ReplicaId}
use Rattle.qu_base.specs.declared.party.Party.{Party}
use Rattle.qu_base.specs.declared.party.Party.TheVariants as party
use Rattle.qu_objects.specs.declared.op.Outcome.{Outcome}
use Rattle.qu_frames.specs.declared.frame.Letter.{Letter}
use Rattle.qu_rows.specs.State.{ReplicaState}
use Rattle.qu_replica.specs.Step.{replica_step}
use Rattle.qu_client.specs.declared.state.ClientState.{ClientState}
use Rattle.qu_client.specs.State.{Stepped}
use Rattle.qu_client.specs.declared.work.Work.{Work}
use Rattle.qu_client.specs.Steps.{client_invoke, client_step, client_tick}
use Rattle.qu_trace.specs.Faulty.{is_same, is_faulty}
use Rattle.qu_trace.specs.Letters.{letters_of}
use Rattle.qu_trace.specs.declared.event.Event.{Event}
use Rattle.qu_trace.specs.declared.event.Event.TheVariants as event
use Rattle.qu_trace.specs.declared.trace.Entry.{Entry}
use Rattle.qu_world.specs.declared.fail.WorldFail.TheVariants as fails
use Rattle.qu_world.specs.State.{WorldState, numbered, with_numbered, correct_client}
use Rattle.qu_world.specs.Step.{ended_by, at_replica, at_client, received, delivered, moved, at_faulty, is_to_faulty, world_step}
use Rattle.qu_world.specs.Run.{bar_of}
use Rattle.qu_world.specs.Refusals.{cause_of, refused_delivery, refused_tick, refused_invocation}
use Rattle.qu_world.proofs.Each.{set_here, set_other, numbered_here}
use Rattle.qu_world.proofs.Steps.{step_moved, not_barred}
use Rattle.qu_replay.specs.Steps.{Actor, Replicates, Asks, actor_moved, IsTakenByReplica, IsTakenByClient, moved_replica, moved_client}
use Rattle.qu_replay.specs.declared.kept_step.KeptStep.{KeptStep}
use Rattle.qu_frames.specs.declared.input.Input.{Input}
use Rattle.qu_frames.specs.declared.input.Input.TheVariants.{Frame, Tick, Invoke}
use Rattle.qu_replay.specs.Replays.{IsStepMade, actor_at}
use Rattle.qu_replay.specs.Told.{IsDelivery, IsEventOf, IsEntryOf}

-- ---- actors of a world

record IsReplicaAt (world : WorldState) (me : ReplicaId) (state : ReplicaState) : Type 0 where
  correct : is_faulty world.setup (party.Replica me) ≡ false
  found : slice_get world.replicas me.0 ≡ Some state

replica_at : (world : WorldState) (me : ReplicaId) (state : ReplicaState)
    → actor_at world (party.Replica me) ≡ Some (Replicates state) → IsReplicaAt world me state
replica_at world me state is =
    by (is_faulty world.setup (party.Replica me)) (slice_get world.replicas me.0) refl refl is
  where
    by : (faulty : Bool) (found : Option ReplicaState) → is_faulty world.setup (party.Replica me) ≡ faulty
        → slice_get world.replicas me.0 ≡ found
        → option_map (λ (it : ReplicaState). Replicates it) (cond faulty None found) ≡ Some (Replicates state)
        → IsReplicaAt world me state
    by true found f s is = absurd (none-some _ is)
    by false None f s is = absurd (none-some _ is)
    by false (Some it) f s is =
        let same : it ≡ state = cc in
        record { correct = f; found = s ∙ ap (λ (one : ReplicaState). Some one) same }

record IsClientAt (world : WorldState) (me : ClientId) (state : ClientState) : Type 0 where
  correct : is_faulty world.setup (party.Client me) ≡ false
  found : numbered world.clients me.0 ≡ Some state

client_at : (world : WorldState) (me : ClientId) (state : ClientState)
    → actor_at world (party.Client me) ≡ Some (Asks state) → IsClientAt world me state
client_at world me state is =
    by (is_faulty world.setup (party.Client me)) (numbered world.clients me.0) refl refl is
  where
    by : (faulty : Bool) (found : Option ClientState) → is_faulty world.setup (party.Client me) ≡ faulty
        → numbered world.clients me.0 ≡ found
        → option_map (λ (it : ClientState). Asks it) (cond faulty None found) ≡ Some (Asks state)
        → IsClientAt world me state
    by true found f s is = absurd (none-some _ is)
    by false None f s is = absurd (none-some _ is)
    by false (Some it) f s is =
        let same : it ≡ state = cc in
        record { correct = f; found = s ∙ ap (λ (one : ClientState). Some one) same }

-- ---- the others stay

after_replica : (world : WorldState) (me : ReplicaId) (state new : ReplicaState) (entries : List Entry) (other : Party)
    → IsReplicaAt world me state
    → actor_at (record world { replicas = slice_set world.replicas me.0 new; entries = entries }) other
    ≡ cond (is_same (party.Replica me) other) (Some (Replicates new)) (actor_at world other)
after_replica world me state new entries (party.Client other) is = refl
after_replica world me state new entries (party.Replica other) is =
    elim (cases_Bool (me.0 == other.0)) [
      | inl test ↦
          let same : me.0 ≡ other.0 = eqb-true me.0 other.0 test in
          let correct : is_faulty world.setup (party.Replica other) ≡ false =
          ap (λ (n : ℕ). is_faulty world.setup (party.Replica (record { 0 = n }))) (sym same) ∙ is.correct in
          let found : slice_get (slice_set world.replicas me.0 new) other.0 ≡ Some new =
          ap (λ (n : ℕ). slice_get (slice_set world.replicas me.0 new) n) (sym same)
          ∙ set_here world.replicas me.0 state new is.found in
          rw (correct, found, test) refl
      | inr test ↦
          let stays : slice_get (slice_set world.replicas me.0 new) other.0 ≡ slice_get world.replicas other.0 =
          set_other world.replicas me.0 other.0 new (λ same. eqb-false me.0 other.0 test (sym same)) in
          rw (stays, test) refl
    ]

with_other : {X : Type 0} (items : List X) (number other : ℕ) (new : X) → (other ≡ number → ⊥)
    → numbered (with_numbered items number new) other ≡ numbered items other
with_other items number zero new apart = refl
with_other items zero (suc other) new apart = refl
with_other items (suc place) (suc other) new apart = set_other items place other new (λ same. apart (ap suc same))

after_client : (world : WorldState) (me : ClientId) (state new : ClientState) (entries : List Entry) (other : Party)
    → IsClientAt world me state
    → actor_at (record world { clients = with_numbered world.clients me.0 new; entries = entries }) other
    ≡ cond (is_same (party.Client me) other) (Some (Asks new)) (actor_at world other)
after_client world me state new entries (party.Replica other) is = refl
after_client world me state new entries (party.Client other) is =
    elim (cases_Bool (me.0 == other.0)) [
      | inl test ↦
          let same : me.0 ≡ other.0 = eqb-true me.0 other.0 test in
          let correct : is_faulty world.setup (party.Client other) ≡ false =
          ap (λ (n : ℕ). is_faulty world.setup (party.Client (record { 0 = n }))) (sym same) ∙ is.correct in
          let found : numbered (with_numbered world.clients me.0 new) other.0 ≡ Some new =
          ap (λ (n : ℕ). numbered (with_numbered world.clients me.0 new) n) (sym same)
          ∙ numbered_here world.clients me.0 state new is.found in
          rw (correct, found, test) refl
      | inr test ↦
          let stays : numbered (with_numbered world.clients me.0 new) other.0 ≡ numbered world.clients other.0 =
          with_other world.clients me.0 other.0 new (λ same. eqb-false me.0 other.0 test (sym same)) in
          rw (stays, test) refl
    ]

-- ---- an entry tells a step

-- the event may happen, records this entry, and makes this of the actor and nothing of the others
pub record Tells (world : WorldState) (me : Party) (actor : Actor) (entry : Entry) : Type 0 where
  pub may : bar_of world entry.event ≡ None
  pub entries : (world_step world entry.event).entries ≡ world.entries ++ entry ∷ []
  pub after : (other : Party) → actor_at (world_step world entry.event) other
      ≡ cond (is_same me other) (Some actor) (actor_at world other)

entry_is : (entry : Entry) (happened : Event) (letters : List Letter) (ended : Option (ClientId × ℕ × Outcome))
    → entry.event ≡ happened → entry.letters ≡ letters → entry.ended ≡ ended
    → record { event = happened; letters = letters; ended = ended } ≡ entry
entry_is entry happened letters ended event_is letters_are ended_is =
    ap (λ (it : Event). record { event = it; letters = letters; ended = ended }) (sym event_is)
    ∙ ap (λ (it : List Letter). record { event = entry.event; letters = it; ended = ended }) (sym letters_are)
    ∙ ap (λ (it : Option (ClientId × ℕ × Outcome)). record { event = entry.event; letters = entry.letters; ended = it })
    (sym ended_is)

-- from what the event makes
tells_by : (world new : WorldState) (me : Party) (actor : Actor) (entry : Entry) → cause_of world entry.event ≡ None
    → world_step world entry.event ≡ new → new.entries ≡ world.entries ++ entry ∷ []
    → ((other : Party) → actor_at new other ≡ cond (is_same me other) (Some actor) (actor_at world other))
    → Tells world me actor entry
tells_by world new me actor entry may is entries after = record {
  may = not_barred world entry.event may;
  entries = ap (λ (it : WorldState). it.entries) is ∙ entries;
  after = λ other. ap (λ (it : WorldState). actor_at it other) is ∙ after other;
}

replica_tells : (world : WorldState) (me : ReplicaId) (state : ReplicaState) (text : List ℕ) (entry : Entry)
    → IsReplicaAt world me state
    → entry.letters ≡ (replica_step state text).1 → entry.ended ≡ None
    → IsDelivery (letters_of world.entries) (party.Replica me) text entry.event
    → Tells world (party.Replica me) (Replicates (replica_step state text).0) entry
replica_tells world me state text entry is letters ended told =
    let event : Event = event.Deliver told.number in
    let correct : at_faulty world.setup world.entries event ≡ false =
    ap (λ (it : Option Letter). is_to_faulty world.setup it) told.found
    ∙ ap (λ (it : Party). is_faulty world.setup it) told.to ∙ is.correct in
    let moved_world : WorldState = record world
    { replicas = slice_set world.replicas me.0 (replica_step state text).0 } in
    let made : moved world event ≡ record moved_world { entries = world.entries ++ entry ∷ [] } =
    ap (λ (it : Option Letter). delivered world event it) told.found
    ∙ ap (λ (it : Party). received world event it told.letter.text) told.to
    ∙ ap (λ (it : List ℕ). received world event (party.Replica me) it) told.text_is
    ∙ ap (λ (it : Option ReplicaState). at_replica world event me text it) is.found
    ∙ ap (λ (it : Entry). record moved_world { entries = world.entries ++ it ∷ [] })
    (entry_is entry event (replica_step state text).1 None told.event letters ended) in
    tells_by world (record moved_world { entries = world.entries ++ entry ∷ [] }) (party.Replica me)
    (Replicates (replica_step state text).0) entry
    (ap (cause_of world) told.event ∙ ap (λ (it : Option Letter). refused_delivery told.number it) told.found)
    (ap (world_step world) told.event ∙ step_moved world event correct ∙ made)
    refl
    (λ other. after_replica world me state (replica_step state text).0 (world.entries ++ entry ∷ []) other is)

client_tells : (world : WorldState) (me : ClientId) (state : ClientState) (move : ClientState → Stepped)
    (happened : Event) (entry : Entry)
    → IsClientAt world me state
    → entry.event ≡ happened → entry.letters ≡ (move state).letters
    → entry.ended ≡ ended_by me state.work (move state).ended
    → cause_of world happened ≡ None → at_faulty world.setup world.entries happened ≡ false
    → moved world happened ≡ at_client world happened me move (numbered world.clients me.0)
    → Tells world (party.Client me) (Asks (move state).state) entry
client_tells world me state move happened entry is event_is letters ended may correct moves =
    let moved_world : WorldState = record world { clients = with_numbered world.clients me.0 (move state).state } in
    let made : moved world happened ≡ record moved_world { entries = world.entries ++ entry ∷ [] } =
    moves
    ∙ ap (λ (it : Option ClientState). at_client world happened me move it) is.found
    ∙ ap (λ (it : Entry). record moved_world { entries = world.entries ++ it ∷ [] })
    (entry_is entry happened (move state).letters (ended_by me state.work (move state).ended) event_is letters ended) in
    tells_by world (record moved_world { entries = world.entries ++ entry ∷ [] }) (party.Client me)
    (Asks (move state).state) entry
    (ap (cause_of world) event_is ∙ may)
    (ap (world_step world) event_is ∙ step_moved world happened correct ∙ made)
    refl
    (λ other. after_client world me state (move state).state (world.entries ++ entry ∷ []) other is)

told_replica : (world : WorldState) (me : ReplicaId) (state : ReplicaState) (input : Input) (entry : Entry)
    → IsReplicaAt world me state → IsTakenByReplica input
    → entry.letters ≡ (moved_replica state input).letters → entry.ended ≡ (moved_replica state input).ended
    → IsEventOf (letters_of world.entries) (party.Replica me) input entry.event
    → Tells world (party.Replica me) (moved_replica state input).actor entry
told_replica world me state (Frame name text) entry is can letters ended told =
    replica_tells world me state text entry is letters ended told
told_replica world me state Tick entry is can letters ended told = absurd can
told_replica world me state (Invoke op) entry is can letters ended told = absurd can

there : (world : WorldState) (me : ClientId) (state : ClientState) → IsClientAt world me state
    → correct_client world me ≡ Some state
there world me state is =
    ap (λ (faulty : Bool). cond faulty None (numbered world.clients me.0)) is.correct ∙ is.found

told_client : (world : WorldState) (me : ClientId) (state : ClientState) (input : Input) (entry : Entry)
    → IsClientAt world me state → IsTakenByClient state input
    → entry.letters ≡ (moved_client me state input).letters → entry.ended ≡ (moved_client me state input).ended
    → IsEventOf (letters_of world.entries) (party.Client me) input entry.event
    → Tells world (party.Client me) (moved_client me state input).actor entry
told_client world me state (Frame name text) entry is can letters ended told =
    let happened : Event = event.Deliver told.number in
    client_tells world me state (λ (it : ClientState). client_step it text) happened entry is told.event letters ended
    (ap (λ (it : Option Letter). refused_delivery told.number it) told.found)
    (ap (λ (it : Option Letter). is_to_faulty world.setup it) told.found
    ∙ ap (λ (it : Party). is_faulty world.setup it) told.to ∙ is.correct)
    (ap (λ (it : Option Letter). delivered world happened it) told.found
    ∙ ap (λ (it : Party). received world happened it told.letter.text) told.to
    ∙ ap (λ (it : List ℕ). received world happened (party.Client me) it) told.text_is)
told_client world me state Tick entry is can letters ended told =
    client_tells world me state client_tick (event.Tick me) entry is told letters ended
    (ap (refused_tick (party.Client me)) (there world me state is)) is.correct refl
told_client world me state (Invoke op) entry is can letters ended told =
    client_tells world me state (λ (it : ClientState). client_invoke it op) (event.Invoke me op) entry is
    told letters ended
    (ap (refused_invocation (party.Client me)) (there world me state is)
    ∙ ap (λ (it : Option Work). cond (is_some it) (Some fails.Busy) None) can) is.correct refl

-- an entry that tells a step that an actor makes
pub told_step : (world : WorldState) (me : Party) (actor : Actor) (step : KeptStep) (entry : Entry)
    → actor_at world me ≡ Some actor → IsStepMade me actor step → IsEntryOf (letters_of world.entries) me step entry
    → Tells world me (actor_moved me actor step.input).actor entry
told_step world (party.Replica me) (Replicates state) step entry is made told =
    told_replica world me state step.input entry (replica_at world me state is) made.can (told.letters ∙ made.letters)
    (told.ended ∙ made.ended) told.event
told_step world (party.Replica me) (Asks state) step entry is made told = absurd made.can
told_step world (party.Client me) (Replicates state) step entry is made told = absurd made.can
told_step world (party.Client me) (Asks state) step entry is made told =
    told_client world me state step.input entry (client_at world me state is) made.can (told.letters ∙ made.letters)
    (told.ended ∙ made.ended) told.event
