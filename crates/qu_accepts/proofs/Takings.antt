-- What an event of a run makes of a replica: nothing, or the step upon the text that it hands to it.
use Rattle.std.proofs.Common.{◌≡◌, ◌⊎◌, ℕ, ◌+◌, ◌<◌, List, length, get_or, Option, None, Some, inl, inr, refl, sym, subst, ap, ◌∙◌, arith}
use Rattle.std.specs.Prelude.{slice_get, slice_set}
use Rattle.std.proofs.lemmas.Bool.{cases_eq}
use Rattle.std.proofs.lemmas.Option.{same_Some, slice_get-get_or}
use Rattle.qu_base.specs.declared.party.ClientId.{ClientId}
use Rattle.qu_base.specs.declared.party.Party.{Party}
use Rattle.qu_base.specs.declared.party.Party.TheVariants as party
use Rattle.qu_base.specs.declared.party.ReplicaId.{ReplicaId}
use Rattle.qu_frames.specs.declared.frame.Letter.{Letter}
use Rattle.qu_rows.specs.State.{ReplicaState}
use Rattle.qu_replica.specs.Step.{replica_step}
use Rattle.qu_client.specs.declared.state.ClientState.{ClientState}
use Rattle.qu_client.specs.State.{Stepped}
use Rattle.qu_client.specs.Steps.{client_invoke, client_step, client_tick}
use Rattle.qu_trace.specs.declared.event.Event.{Event}
use Rattle.qu_trace.specs.declared.event.Event.TheVariants.{Invoke, Deliver, Tick, Inject}
use Rattle.qu_trace.specs.declared.trace.Entry.{Entry}
use Rattle.qu_trace.specs.declared.trace.Trace.{Trace}
use Rattle.qu_world.specs.State.{WorldState, numbered, letter_of}
use Rattle.qu_world.specs.Step.{world_step, at_replica, at_client, received, delivered, moved}
use Rattle.qu_world.proofs.Steps.{AtCorrect, step_cases}
use Rattle.qu_world.proofs.Each.{set_here, set_other}
use Rattle.qu_claims.specs.Carried.{handed}
use Rattle.qu_claims.specs.Times.{world_after}
use Rattle.qu_runs.proofs.Events.Handing.{letter_handed, offered_handed}
use Rattle.qu_runs.proofs.Small.{some_entry}
use Rattle.qu_runs.proofs.Worlds.WorldGrowth.{world_after-next}

-- ---- a replica whose place nothing was put at

stays : (olds news : List ReplicaState) (place : ℕ) (old new : ReplicaState)
    → slice_get news place ≡ slice_get olds place → slice_get olds place ≡ Some old
    → slice_get news place ≡ Some new → new ≡ old
stays olds news place old new same is_old is_new = same_Some new old (sym is_new ∙ same ∙ is_old)

-- no move of a client changes a replica
client_leaves : (world : WorldState) (event : Event) (me : ClientId) (move : ClientState → Stepped)
    (found : Option ClientState) → (at_client world event me move found).replicas ≡ world.replicas
client_leaves world event me move None = refl
client_leaves world event me move (Some state) = refl

client_stays : (world : WorldState) (event : Event) (me : ClientId) (move : ClientState → Stepped)
    (found : Option ClientState) (place : ℕ) (old new : ReplicaState)
    → slice_get world.replicas place ≡ Some old → slice_get (at_client world event me move found).replicas
    place ≡ Some new → new ≡ old
client_stays world event me move found place old new is_old is_new =
    stays world.replicas (at_client world event me move found).replicas place old new
    (ap (λ (replicas : List ReplicaState). slice_get replicas place) (client_leaves world event me move found))
    is_old is_new

-- ---- a letter to a replica

-- the event hands a text to the replica at this place, which makes its step
pub record IsGiven (world : WorldState) (event : Event) (place : ℕ) (old new : ReplicaState) : Type 0 where
  pub text : List ℕ
  pub is_handed : handed world event ≡ Some (party.Replica (record { 0 = place }), text)
  pub steps : new ≡ (replica_step old text).0

replica_takes : (world : WorldState) (event : Event) (me : ReplicaId) (text : List ℕ)
    (found : Option ReplicaState) (place : ℕ) (old new : ReplicaState)
    → slice_get world.replicas me.0 ≡ found
    → slice_get world.replicas place ≡ Some old → slice_get (at_replica world event me text found).replicas
    place ≡ Some new
    → (new ≡ old) ⊎ ((me.0 ≡ place) × (new ≡ (replica_step old text).0))
replica_takes world event me text None place old new is_found is_old is_new =
    inl (stays world.replicas world.replicas place old new refl is_old is_new)
replica_takes world event me text (Some state) place old new is_found is_old is_new =
    let made : ReplicaState = (replica_step state text).0 in
    elim (cases_eq place me.0) [
      | inl here ↦
          let is_state : state ≡ old =
          same_Some state old (sym is_found ∙ ap (slice_get world.replicas) (sym here) ∙ is_old) in
          let is_made : made ≡ new =
          same_Some made new (sym (set_here world.replicas me.0 state made is_found)
          ∙ ap (slice_get (slice_set world.replicas me.0 made)) (sym here) ∙ is_new) in
          inr (sym here, sym is_made ∙ ap (λ (it : ReplicaState). (replica_step it text).0) is_state)
      | inr apart ↦ inl (stays world.replicas (slice_set world.replicas me.0 made) place old new
          (set_other world.replicas me.0 place made apart) is_old is_new)
    ]

text_taken : (world : WorldState) (event : Event) (to : Party) (text : List ℕ) (place : ℕ) (old new : ReplicaState)
    → handed world event ≡ Some (to, text) → slice_get world.replicas place ≡ Some old
    → slice_get (received world event to text).replicas place ≡ Some new
    → (new ≡ old) ⊎ IsGiven world event place old new
text_taken world event (party.Client me) text place old new hands is_old is_new =
    inl (client_stays world event me (λ (state : ClientState). client_step state text)
    (numbered world.clients me.0) place old new is_old is_new)
text_taken world event (party.Replica me) text place old new hands is_old is_new =
    elim (replica_takes world event me text (slice_get world.replicas me.0) place old new refl is_old is_new) [
      | inl same ↦ inl same
      | inr taken ↦ inr (record {
        text = text;
        is_handed = hands ∙ ap (λ (it : ℕ). Some (party.Replica (record { 0 = it }), text)) taken.0;
        steps = taken.1;
      })
    ]

letter_delivered : (world : WorldState) (number : ℕ) → AtCorrect world (Deliver number) → (found : Option Letter)
    (place : ℕ) (old new : ReplicaState)
    → letter_of world number ≡ found → slice_get world.replicas place ≡ Some old
    → slice_get (delivered world (Deliver number) found).replicas place ≡ Some new
    → (new ≡ old) ⊎ IsGiven world (Deliver number) place old new
letter_delivered world number correct None place old new is_found is_old is_new =
    inl (stays world.replicas world.replicas place old new refl is_old is_new)
letter_delivered world number correct (Some letter) place old new is_found is_old is_new =
    text_taken world (Deliver number) letter.to letter.text place old new
    (letter_handed world number letter correct is_found) is_old is_new

-- an event at a faulty party leaves each replica as it is
moves_cases : (world : WorldState) (event : Event) (place : ℕ) (old new : ReplicaState)
    → slice_get world.replicas place ≡ Some old
    → (AtCorrect world event → slice_get (moved world event).replicas place ≡ Some new
    → (new ≡ old) ⊎ IsGiven world event place old new)
    → slice_get (world_step world event).replicas place ≡ Some new → (new ≡ old) ⊎ IsGiven world event place old new
moves_cases world event place old new is_old step =
    step_cases (λ (made : WorldState). slice_get made.replicas place ≡ Some new
    → (new ≡ old) ⊎ IsGiven world event place old new) world event
    (λ is. inl (stays world.replicas world.replicas place old new refl is_old is)) step

-- an event leaves a replica as it is, or hands it a text
pub event_moves : (world : WorldState) (event : Event) (place : ℕ) (old new : ReplicaState)
    → slice_get world.replicas place ≡ Some old → slice_get (world_step world event).replicas place ≡ Some new
    → (new ≡ old) ⊎ IsGiven world event place old new
event_moves world (Invoke client op) place old new is_old is_new =
    moves_cases world (Invoke client op) place old new is_old (λ correct is.
    inl (client_stays world (Invoke client op) client (λ (state : ClientState). client_invoke state op)
    (numbered world.clients client.0) place old new is_old is)) is_new
event_moves world (Deliver number) place old new is_old is_new =
    moves_cases world (Deliver number) place old new is_old (λ correct is.
    letter_delivered world number correct (letter_of world number) place old new refl is_old is) is_new
event_moves world (Inject to text) place old new is_old is_new =
    moves_cases world (Inject to text) place old new is_old (λ correct is.
    text_taken world (Inject to text) to text place old new
    (offered_handed world (Inject to text) to text correct refl) is_old is) is_new
event_moves world (Tick client) place old new is_old is_new =
    moves_cases world (Tick client) place old new is_old (λ correct is.
    inl (client_stays world (Tick client) client client_tick (numbered world.clients client.0) place old new
    is_old is)) is_new

-- the same in a run
pub record Takes (trace : Trace) (at place : ℕ) (old new : ReplicaState) : Type 0 where
  pub entry : Entry
  pub is_entry : slice_get trace.entries at ≡ Some entry
  pub text : List ℕ
  pub is_handed : handed (world_after trace at) entry.event ≡ Some (party.Replica (record { 0 = place }), text)
  pub steps : new ≡ (replica_step old text).0

pub event_takes : (trace : Trace) (at place : ℕ) (old new : ReplicaState) → at < length trace.entries
    → slice_get (world_after trace at).replicas place ≡ Some old
    → slice_get (world_after trace (at + 1)).replicas place ≡ Some new → (new ≡ old) ⊎ Takes trace at place old new
event_takes trace at place old new below is_old is_new =
    let default : Entry = some_entry trace.entries (omega arith) in
    let entry : Entry = get_or trace.entries at default in
    let is_next : slice_get (world_step (world_after trace at) entry.event).replicas place ≡ Some new =
    subst (λ (world : WorldState). slice_get world.replicas place ≡ Some new)
    (world_after-next trace at default below) is_new in
    elim (event_moves (world_after trace at) entry.event place old new is_old is_next) [
      | inl same ↦ inl same
      | inr given ↦ inr (record {
        entry = entry;
        is_entry = slice_get-get_or trace.entries at default below;
        text = given.text;
        is_handed = given.is_handed;
        steps = given.steps;
      })
    ]
