-- The actors of a world in which nothing happened yet.
use Rattle.std.proofs.Common.{◌≡◌, ℕ, zero, suc, ◌+◌, Bool, true, false, cond, List, [], Option, None, Some, refl, sym, ap, ◌∙◌, arith, inl, inr}
use Rattle.std.specs.Prelude.{slice_get, option_map, nat_lt}
use Rattle.std.proofs.lemmas.Bool.{cases_Bool, lt-ltb, le-ltb, ltb-true, ltb-false}
use Rattle.qu_base.specs.declared.party.Party.{Party}
use Rattle.qu_base.specs.declared.party.Party.TheVariants as party
use Rattle.qu_base.specs.Bounds.{replicas}
use Rattle.qu_seal.specs.Keys.{Ring}
use Rattle.qu_objects.specs.declared.kind.KindName.{KindName}
use Rattle.qu_fitting.specs.Holding as replica
use Rattle.qu_rows.specs.State.{ReplicaState}
use Rattle.qu_client.specs.State as client
use Rattle.qu_client.specs.declared.state.ClientState.{ClientState}
use Rattle.qu_trace.specs.Faulty.{is_faulty}
use Rattle.qu_trace.specs.declared.trace.Setup.{Setup}
use Rattle.qu_world.specs.State.{numbered, opening_world, opening_replicas, opening_clients, ring_of, kinds_at}
use Rattle.qu_replay.specs.Steps.{Replicates, Asks}
use Rattle.qu_replay.specs.Replays.{actor_at, opening_actor, opening_client, opening_replica}

opening_replicas_at : (number count : ℕ) (keys : Ring) (kinds : ℕ → List KindName) (place : ℕ)
    → slice_get (opening_replicas number count keys kinds) place
    ≡ cond (nat_lt place count)
    (Some (replica.replica_at_start (record { 0 = number + place }) keys (kinds (number + place))))
    None
unfolding opening_replicas
opening_replicas_at number zero keys kinds place =
    let none : nat_lt place 0 ≡ false = le-ltb place 0 (omega arith) in rw none refl
opening_replicas_at number (suc count) keys kinds zero =
    let some : nat_lt 0 (suc count) ≡ true = lt-ltb 0 (suc count) (omega arith) in
    let sum : number + 0 ≡ number = omega arith in
    rw (some, sum) refl
opening_replicas_at number (suc count) keys kinds (suc place) =
    let sum : (number + 1) + place ≡ number + suc place = omega arith in
    let test : nat_lt place count ≡ nat_lt (suc place) (suc count) =
    elim (cases_Bool (nat_lt place count)) [
      | inl less ↦ less ∙ sym (lt-ltb (suc place) (suc count) (let l = ltb-true place count less in omega (arith, l)))
      | inr most ↦ most ∙ sym (le-ltb (suc place) (suc count) (let l = ltb-false place count most in omega (arith, l)))
    ] in
    opening_replicas_at (number + 1) count keys kinds place
    ∙ ap (λ (it : ℕ). cond (nat_lt place count)
    (Some (replica.replica_at_start (record { 0 = it }) keys (kinds it))) None) sum
    ∙ ap (λ (it : Bool). cond it
    (Some (replica.replica_at_start (record { 0 = number + suc place }) keys (kinds (number + suc place)))) None) test

opening_clients_at : (number count : ℕ) (keys : Ring) (place : ℕ)
    → slice_get (opening_clients number count keys) place
    ≡ cond (nat_lt place count) (Some (client.client_at_start (record { 0 = number + place }) keys keys.seed)) None
unfolding opening_clients
opening_clients_at number zero keys place =
    let none : nat_lt place 0 ≡ false = le-ltb place 0 (omega arith) in rw none refl
opening_clients_at number (suc count) keys zero =
    let some : nat_lt 0 (suc count) ≡ true = lt-ltb 0 (suc count) (omega arith) in
    let sum : number + 0 ≡ number = omega arith in
    rw (some, sum) refl
opening_clients_at number (suc count) keys (suc place) =
    let sum : (number + 1) + place ≡ number + suc place = omega arith in
    let test : nat_lt place count ≡ nat_lt (suc place) (suc count) =
    elim (cases_Bool (nat_lt place count)) [
      | inl less ↦ less ∙ sym (lt-ltb (suc place) (suc count) (let l = ltb-true place count less in omega (arith, l)))
      | inr most ↦ most ∙ sym (le-ltb (suc place) (suc count) (let l = ltb-false place count most in omega (arith, l)))
    ] in
    opening_clients_at (number + 1) count keys place
    ∙ ap (λ (it : ℕ). cond (nat_lt place count)
    (Some (client.client_at_start (record { 0 = it }) keys keys.seed)) None) sum
    ∙ ap (λ (it : Bool). cond it
    (Some (client.client_at_start (record { 0 = number + suc place }) keys keys.seed)) None) test

opening_numbered : (setup : Setup) (number : ℕ)
    → numbered (opening_clients 1 setup.clients (ring_of setup)) number ≡ opening_client setup number
opening_numbered setup zero = refl
opening_numbered setup (suc before) =
    let sum : 1 + before ≡ suc before = omega arith in
    opening_clients_at 1 setup.clients (ring_of setup) before
    ∙ ap (λ (it : ℕ). cond (nat_lt before setup.clients)
    (Some (client.client_at_start (record { 0 = it }) (ring_of setup) setup.seed)) None) sum

pub opening_actor_is : (setup : Setup) (me : Party) → actor_at (opening_world setup) me ≡ opening_actor setup me
opening_actor_is setup (party.Replica me) =
    elim (cases_Bool (is_faulty setup (party.Replica me))) [
      | inl faulty ↦ rw faulty refl
      | inr correct ↦
          let place : 0 + me.0 ≡ me.0 = omega arith in
          let kinds : kinds_at setup me.0 ≡ setup.kinds = ap (λ (it : Bool). cond it [] setup.kinds) correct in
          let found : slice_get (opening_world setup).replicas me.0 ≡ opening_replica setup me =
          opening_replicas_at 0 (replicas setup.bounds) (ring_of setup) (kinds_at setup) me.0
          ∙ ap (λ (it : ℕ). cond (nat_lt me.0 (replicas setup.bounds))
          (Some (replica.replica_at_start (record { 0 = it }) (ring_of setup) (kinds_at setup it))) None) place
          ∙ ap (λ (it : List KindName). cond (nat_lt me.0 (replicas setup.bounds))
          (Some (replica.replica_at_start me (ring_of setup) it)) None) kinds in
          ap (λ (it : Option ReplicaState). option_map (λ (state : ReplicaState). Replicates state)
          (cond (is_faulty setup (party.Replica me)) None it)) found
    ]
opening_actor_is setup (party.Client me) =
    ap (λ (it : Option ClientState). option_map (λ (state : ClientState). Asks state)
    (cond (is_faulty setup (party.Client me)) None it)) (opening_numbered setup me.0)
