-- A world forgets nothing: each step leaves every replica with what it had.
use Rattle.std.proofs.Common.{◌≡◌, ℕ, zero, suc, List, [], ◌∷◌, Option, None, Some, refl, sym, subst, ◌∙◌}
use Rattle.std.specs.Prelude.{slice_get, slice_set}
use Rattle.std.specs.List.{AllZip}
use Rattle.std.proofs.lemmas.Option.{same_Some}
use Rattle.qu_base.specs.declared.party.ClientId.{ClientId}
use Rattle.qu_base.specs.declared.party.Party.{Party}
use Rattle.qu_base.specs.declared.party.Party.TheVariants as party
use Rattle.qu_base.specs.declared.party.ReplicaId.{ReplicaId}
use Rattle.qu_frames.specs.declared.frame.Letter.{Letter}
use Rattle.qu_rows.specs.State.{ReplicaState}
use Rattle.qu_replica.specs.Growth.{Grows}
use Rattle.qu_replica.specs.Step.{replica_step}
use Rattle.qu_replica.proofs.States.Growth.{grows-self, grows-chain, step-grows}
use Rattle.qu_client.specs.declared.state.ClientState.{ClientState}
use Rattle.qu_client.specs.State.{Stepped}
use Rattle.qu_client.specs.Steps.{client_invoke, client_step, client_tick}
use Rattle.qu_trace.specs.declared.event.Event.{Event}
use Rattle.qu_trace.specs.declared.event.Event.TheVariants.{Invoke, Deliver, Tick, Inject}
use Rattle.qu_world.specs.State.{WorldState, numbered, letter_of}
use Rattle.qu_world.proofs.Steps.{step_cases}
use Rattle.qu_world.specs.Step.{moved, world_step, at_replica, at_client, received, delivered}
use Rattle.qu_world.specs.Growth.{GrowsTo}
use Rattle.qu_world.specs.Run.{run_from}

each-self : (replicas : List ReplicaState) → AllZip Grows replicas replicas
each-self [] = tt
each-self (replica ∷ later) = (grows-self replica, each-self later)

each-chain : (first second third : List ReplicaState) → AllZip Grows first second → AllZip Grows second third
    → AllZip Grows first third
each-chain [] [] third one two = two
each-chain [] (y ∷ ys) third one two = absurd one
each-chain (x ∷ xs) [] third one two = absurd one
each-chain (x ∷ xs) (y ∷ ys) [] one two = absurd two
each-chain (x ∷ xs) (y ∷ ys) (z ∷ zs) one two = (grows-chain x y z one.0 two.0, each-chain xs ys zs one.1 two.1)

each-set : (replicas : List ReplicaState) (place : ℕ) (old new : ReplicaState)
    → slice_get replicas place ≡ Some old → Grows old new → AllZip Grows replicas (slice_set replicas place new)
each-set [] place old new found grows = tt
each-set (replica ∷ later) zero old new found grows =
    let same : replica ≡ old = same_Some replica old found in
    (rw (same) grows, each-self later)
each-set (replica ∷ later) (suc place) old new found grows =
    (grows-self replica, each-set later place old new found grows)

pub grows_to-self : (world : WorldState) → GrowsTo world world
grows_to-self world = record { setup = refl; replicas = each-self world.replicas }

pub grows_to-chain : (first second third : WorldState) → GrowsTo first second → GrowsTo second third
    → GrowsTo first third
grows_to-chain first second third one two = record {
  setup = two.setup ∙ one.setup;
  replicas = each-chain first.replicas second.replicas third.replicas one.replicas two.replicas;
}

at_client-grows : (world : WorldState) (event : Event) (me : ClientId) (move : ClientState → Stepped)
    (found : Option ClientState) → GrowsTo world (at_client world event me move found)
at_client-grows world event me move None = record { setup = refl; replicas = each-self world.replicas }
at_client-grows world event me move (Some state) = record { setup = refl; replicas = each-self world.replicas }

at_replica-grows : (world : WorldState) (event : Event) (me : ReplicaId) (text : List ℕ)
    (found : Option ReplicaState) → slice_get world.replicas me.0 ≡ found
    → GrowsTo world (at_replica world event me text found)
at_replica-grows world event me text None is = record { setup = refl; replicas = each-self world.replicas }
at_replica-grows world event me text (Some state) is = record {
  setup = refl;
  replicas = each-set world.replicas me.0 state (replica_step state text).0 is (step-grows state text);
}

received-grows : (world : WorldState) (event : Event) (to : Party) (text : List ℕ)
    → GrowsTo world (received world event to text)
received-grows world event (party.Replica me) text =
    at_replica-grows world event me text (slice_get world.replicas me.0) refl
received-grows world event (party.Client me) text =
    at_client-grows world event me (λ (state : ClientState). client_step state text) (numbered world.clients me.0)

delivered-grows : (world : WorldState) (event : Event) (letter : Option Letter)
    → GrowsTo world (delivered world event letter)
delivered-grows world event None = record { setup = refl; replicas = each-self world.replicas }
delivered-grows world event (Some letter) = received-grows world event letter.to letter.text

moved-grows : (world : WorldState) (event : Event) → GrowsTo world (moved world event)
moved-grows world (Invoke client op) =
    at_client-grows world (Invoke client op) client (λ (state : ClientState). client_invoke state op)
    (numbered world.clients client.0)
moved-grows world (Deliver number) = delivered-grows world (Deliver number) (letter_of world number)
moved-grows world (Tick client) =
    at_client-grows world (Tick client) client client_tick (numbered world.clients client.0)
moved-grows world (Inject who text) = received-grows world (Inject who text) who text

pub world_step-grows : (world : WorldState) (event : Event) → GrowsTo world (world_step world event)
world_step-grows world event =
    step_cases (GrowsTo world) world event (record { setup = refl; replicas = each-self world.replicas })
    (λ correct. moved-grows world event)

-- what a step made of a world grew out of it
pub step_made-grows : (old new : WorldState) (event : Event) → new ≡ world_step old event → GrowsTo old new
step_made-grows old new event made = subst (GrowsTo old) (sym made) (world_step-grows old event)

pub run_from-grows : (world : WorldState) (events : List Event) → GrowsTo world (run_from world events)
unfolding run_from
run_from-grows world [] = grows_to-self world
run_from-grows world (event ∷ later) =
    grows_to-chain world (world_step world event) (run_from (world_step world event) later)
    (world_step-grows world event) (run_from-grows (world_step world event) later)

pub ruleset growth_laws = (grows_to-self, world_step-grows)
