-- Each client of a run has its number and the keys of the run, whatever happens.
use Rattle.qu_world.proofs.Steps.{step_cases}
use Rattle.qu_world.specs.Step.{moved}
use Rattle.std.proofs.Common.{◌≡◌, ℕ, zero, suc, ◌≤◌, List, length, get_or, Option, None, Some, inl, inr, refl, sym, ap, subst, ◌∙◌, arith, add-one, ◌+◌, add-zero}
use Rattle.std.specs.Prelude.{slice_get}
use Rattle.qu_base.specs.declared.party.ClientId.{ClientId}
use Rattle.qu_base.specs.declared.party.Party.{Party}
use Rattle.qu_base.specs.declared.party.Party.TheVariants as party
use Rattle.qu_base.specs.declared.party.ReplicaId.{ReplicaId}
use Rattle.qu_seal.specs.Keys.{Ring}
use Rattle.qu_frames.specs.declared.frame.Letter.{Letter}
use Rattle.qu_rows.specs.State.{ReplicaState}
use Rattle.qu_client.specs.declared.state.ClientState.{ClientState}
use Rattle.qu_client.specs.State.{Stepped}
use Rattle.qu_client.specs.Steps.{client_step, client_invoke, client_tick}
use Rattle.qu_client.proofs.Laws.{client_step-me, client_step-keys, client_tick-me, client_tick-keys, client_invoke-me, client_invoke-keys}
use Rattle.qu_trace.specs.declared.event.Event.{Event}
use Rattle.qu_trace.specs.declared.event.Event.TheVariants.{Invoke, Deliver, Tick, Inject}
use Rattle.qu_trace.specs.declared.trace.Entry.{Entry}
use Rattle.qu_trace.specs.declared.trace.Trace.{Trace}
use Rattle.qu_world.specs.State.{WorldState, ring_of, numbered, letter_of, opening_clients}
use Rattle.qu_world.specs.Step.{world_step, at_replica, at_client, received, delivered}
use Rattle.qu_world.proofs.Each.{with_cases}
use Rattle.qu_claims.specs.Times.{world_after}
use Rattle.qu_runs.proofs.Small.{some_entry}
use Rattle.qu_runs.proofs.Worlds.WorldGrowth.{world_after-none, world_after-next}
use Rattle.std.proofs.lemmas.Option.{none-some, same_Some}
use Rattle.qu_client.specs.State.{client_at_start}

pub opening_client : (first count : ℕ) (keys : Ring) (place : ℕ) (state : ClientState)
    → slice_get (opening_clients first count keys) place ≡ Some state
    → state ≡ client_at_start (record { 0 = first + place }) keys keys.seed
unfolding opening_clients
opening_client first zero keys place state found = absurd (none-some state found)
opening_client first (suc count) keys zero state found =
    sym (same_Some _ state found) ∙ ap (λ (it : ℕ). client_at_start (record { 0 = it }) keys keys.seed)
    (sym (add-zero first))
opening_client first (suc count) keys (suc place) state found =
    let sum : (first + 1) + place ≡ first + suc place = omega arith in
    opening_client (first + 1) count keys place state found
    ∙ ap (λ (it : ℕ). client_at_start (record { 0 = it }) keys keys.seed) sum

pub opening_clients-at : (count : ℕ) (keys : Ring) (number : ℕ) (state : ClientState)
    → numbered (opening_clients 1 count keys) number ≡ Some state
    → state ≡ client_at_start (record { 0 = number }) keys keys.seed
opening_clients-at count keys zero state found = absurd (none-some state found)
opening_clients-at count keys (suc place) state found =
    let sum : 1 + place ≡ suc place = omega arith in
    opening_client 1 count keys place state found
    ∙ ap (λ (it : ℕ). client_at_start (record { 0 = it }) keys keys.seed) sum

-- ---- their numbers and their keys

pub record HasKeys (keys : Ring) (number : ℕ) (state : ClientState) : Type 0 where
  pub me : state.me ≡ record { 0 = number }
  pub keys_are : state.keys ≡ keys

abbrev AreKeyed : Ring → List ClientState → Type 0
AreKeyed keys clients = (number : ℕ) (state : ClientState) → numbered clients number ≡ Some state
    → HasKeys keys number state

-- a move keeps them
record Keeps (old new : ClientState) : Type 0 where
  me : new.me ≡ old.me
  keys : new.keys ≡ old.keys

module _ (keys : Ring) (world : WorldState) (keyed : AreKeyed keys world.clients) where
  client_keyed : (event : Event) (me : ClientId) (move : ClientState → Stepped) (found : Option ClientState)
      → numbered world.clients me.0 ≡ found → ((state : ClientState) → Keeps state (move state).state)
      → AreKeyed keys (at_client world event me move found).clients
  client_keyed event me move None is keeps = keyed
  client_keyed event me move (Some old) is keeps =
      λ number state found. elim (with_cases world.clients me.0 number (move old).state state found) [
        | inl here ↦
            let before : HasKeys keys me.0 old = keyed me.0 old is in
            let after : HasKeys keys me.0 (move old).state =
            record { me = (keeps old).me ∙ before.me; keys_are = (keeps old).keys ∙ before.keys_are } in
            subst (λ (it : ClientState). HasKeys keys number it) (sym here.1)
            (subst (λ (it : ℕ). HasKeys keys it (move old).state) (sym here.0) after)
        | inr other ↦ keyed number state other.1
      ]

  replica_keyed : (event : Event) (me : ReplicaId) (text : List ℕ) (found : Option ReplicaState)
      → AreKeyed keys (at_replica world event me text found).clients
  replica_keyed event me text None = keyed
  replica_keyed event me text (Some state) = keyed

  received_keyed : (event : Event) (to : Party) (text : List ℕ) → AreKeyed keys (received world event to text).clients
  received_keyed event (party.Replica me) text = replica_keyed event me text (slice_get world.replicas me.0)
  received_keyed event (party.Client me) text =
      client_keyed event me (λ (state : ClientState). client_step state text) (numbered world.clients me.0) refl
      (λ state. record { me = client_step-me state text; keys = client_step-keys state text })

  delivered_keyed : (event : Event) (found : Option Letter) → AreKeyed keys (delivered world event found).clients
  delivered_keyed event None = keyed
  delivered_keyed event (Some letter) = received_keyed event letter.to letter.text

  moved_keyed : (event : Event) → AreKeyed keys (moved world event).clients
  moved_keyed (Invoke client op) =
      client_keyed (Invoke client op) client (λ (state : ClientState). client_invoke state op)
      (numbered world.clients client.0) refl
      (λ state. record { me = client_invoke-me state op; keys = client_invoke-keys state op })
  moved_keyed (Deliver number) = delivered_keyed (Deliver number) (letter_of world number)
  moved_keyed (Tick client) = client_keyed (Tick client) client client_tick (numbered world.clients client.0) refl
      (λ state. record { me = client_tick-me state; keys = client_tick-keys state })
  moved_keyed (Inject to text) = received_keyed (Inject to text) to text

  step_keyed : (event : Event) → AreKeyed keys (world_step world event).clients
  step_keyed event =
      step_cases (λ (made : WorldState). AreKeyed keys made.clients) world event keyed
      (λ correct. moved_keyed event)

pub clients_keyed : (trace : Trace) (count : ℕ) → count ≤ length trace.entries
    → (number : ℕ) (state : ClientState) → numbered (world_after trace count).clients number ≡ Some state
    → HasKeys (ring_of trace.setup) number state
clients_keyed trace zero within number state found =
    let opens : state ≡ _ = opening_clients-at trace.setup.clients (ring_of trace.setup) number
    state (ap (λ (world : WorldState). numbered world.clients number) (sym (world_after-none trace)) ∙ found) in
    record { me = ap (λ (it : ClientState). it.me) opens; keys_are = ap (λ (it : ClientState). it.keys) opens }
clients_keyed trace (suc count) within number state found =
    let default : Entry = some_entry trace.entries (omega arith) in
    let next : world_after trace (suc count) ≡ world_step (world_after trace count)
    (get_or trace.entries count default).event =
    ap (world_after trace) (sym (add-one count)) ∙ world_after-next trace count default (omega arith) in
    step_keyed (ring_of trace.setup) (world_after trace count) (clients_keyed trace count (omega arith))
    (get_or trace.entries count default).event number state
    (ap (λ (world : WorldState). numbered world.clients number) (sym next) ∙ found)
