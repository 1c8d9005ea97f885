-- How the correct parties of a setup begin.
use Rattle.std.proofs.Common.{◌≡◌, ℕ, zero, suc, ◌<◌, ◌≤◌, Bool, true, false, cond, List, [], ◌∷◌, length, get_or, None, Some, Option, refl, sym, ap, subst, ◌∙◌, arith, inl, inr}
use Rattle.std.specs.Prelude.{option_map, nat_lt}
use Rattle.std.specs.List.{AllByRecursion}
use Rattle.std.proofs.lemmas.Bool.{cases_Bool, lt-ltb}
use Rattle.qu_base.specs.declared.party.ClientId.{ClientId}
use Rattle.qu_base.specs.declared.party.ReplicaId.{ReplicaId}
use Rattle.qu_base.specs.declared.party.Party.TheVariants as party
use Rattle.qu_base.specs.Bounds.{replicas}
use Rattle.qu_base.proofs.EachItem.{each_push, each_weaker}
use Rattle.qu_seal.specs.Keys.{Ring}
use Rattle.qu_fitting.specs.Holding as replica
use Rattle.qu_rows.specs.State.{ReplicaState}
use Rattle.qu_client.specs.State as client
use Rattle.qu_client.specs.declared.state.ClientState.{ClientState}
use Rattle.qu_trace.specs.Faulty.{is_faulty}
use Rattle.qu_trace.specs.declared.trace.Setup.{Setup}
use Rattle.qu_world.specs.State.{ring_of}
use Rattle.qu_replay.specs.Steps.{Replicates, Asks}
use Rattle.qu_replay.specs.Replays.{opening_actor, opening_client, opening_replica}
use Rattle.qu_gather.specs.Correct.{replica_at, client_at, correct_replicas, correct_clients}

all_at : {X : Type 0} (P : X → Type 0) (xs : List X) (at : ℕ) (x : X) → AllByRecursion P xs → at < length xs
    → x ≡ get_or xs at x → P x
all_at P [] at x all within is = absurd (omega arith)
all_at P (first ∷ later) zero x all within is = subst P (sym is) all.0
all_at P (first ∷ later) (suc at) x all within is =
    all_at P later at x all.1 (let less : suc at < suc (length later) = within in omega (arith, less)) is

-- a correct replica with a number below this one
record IsReplicaBelow (setup : Setup) (count : ℕ) (me : ReplicaId) : Type 0 where
  below : me.0 < count
  good : is_faulty setup (party.Replica me) ≡ false

replicas_below : (setup : Setup) (count : ℕ)
    → AllByRecursion (IsReplicaBelow setup count) (correct_replicas setup count)
unfolding correct_replicas
replicas_below setup zero = tt
replicas_below setup (suc place) =
    let before : AllByRecursion (IsReplicaBelow setup (suc place)) (correct_replicas setup place) =
    each_weaker (IsReplicaBelow setup place) (IsReplicaBelow setup (suc place)) (correct_replicas setup place)
    (λ (me : ReplicaId) is. record { below = (let less = is.below in omega (arith, less)); good = is.good })
    (replicas_below setup place) in
    elim (cases_Bool (is_faulty setup (party.Replica (replica_at place)))) [
      | inl faulty ↦ rw faulty before
      | inr correct ↦ rw correct
          (each_push (IsReplicaBelow setup (suc place)) (correct_replicas setup place) (replica_at place) before
          (record { below = omega arith; good = correct }))
    ]

pub replica_opens : (setup : Setup) (keys : Ring) (correct : List ReplicaId) (at : ℕ) (me : ReplicaId)
    (state : ReplicaState) → correct ≡ correct_replicas setup (replicas setup.bounds) → at < length correct
    → me ≡ get_or correct at me → keys ≡ ring_of setup
    → state ≡ replica.replica_at_start me keys setup.kinds
    → opening_actor setup (party.Replica me) ≡ Some (Replicates state)
replica_opens setup keys correct at me state correct_is within me_is keys_are state_is =
    let here : IsReplicaBelow setup (replicas setup.bounds) me =
    all_at (IsReplicaBelow setup (replicas setup.bounds)) correct at me
    (subst (AllByRecursion (IsReplicaBelow setup (replicas setup.bounds))) (sym correct_is)
    (replicas_below setup (replicas setup.bounds))) within me_is in
    let less : nat_lt me.0 (replicas setup.bounds) ≡ true = lt-ltb me.0 (replicas setup.bounds) here.below in
    ap (λ (it : Bool). option_map (λ (state : ReplicaState). Replicates state)
    (cond it None (opening_replica setup me))) here.good
    ∙ ap (λ (it : Bool). option_map (λ (state : ReplicaState). Replicates state)
    (cond it (Some (replica.replica_at_start me (ring_of setup) setup.kinds)) None)) less
    ∙ ap (λ (it : Ring). Some (Replicates (replica.replica_at_start me it setup.kinds))) (sym keys_are)
    ∙ ap (λ (it : ReplicaState). Some (Replicates it)) (sym state_is)

-- a correct client with a number up to this one
record IsClientUpTo (setup : Setup) (count : ℕ) (me : ClientId) : Type 0 where
  first : 1 ≤ me.0
  last : me.0 ≤ count
  good : is_faulty setup (party.Client me) ≡ false

clients_up_to : (setup : Setup) (count : ℕ) → AllByRecursion (IsClientUpTo setup count) (correct_clients setup count)
unfolding correct_clients
clients_up_to setup zero = tt
clients_up_to setup (suc place) =
    let before : AllByRecursion (IsClientUpTo setup (suc place)) (correct_clients setup place) =
    each_weaker (IsClientUpTo setup place) (IsClientUpTo setup (suc place)) (correct_clients setup place)
    (λ (me : ClientId) is.
    record { first = is.first; last = (let most = is.last in omega (arith, most)); good = is.good })
    (clients_up_to setup place) in
    elim (cases_Bool (is_faulty setup (party.Client (client_at place)))) [
      | inl faulty ↦ rw faulty before
      | inr correct ↦ rw correct
          (each_push (IsClientUpTo setup (suc place)) (correct_clients setup place) (client_at place) before
          (record { first = omega arith; last = omega arith; good = correct }))
    ]

numbered_client : ℕ → ClientId
numbered_client number = record { 0 = number }

client_opened : (setup : Setup) (me : ClientId) (number : ℕ) → me.0 ≡ number → 1 ≤ number → number ≤ setup.clients
    → opening_client setup number ≡ Some (client.client_at_start me (ring_of setup) setup.seed)
unfolding numbered_client
client_opened setup me zero is first last = absurd (omega arith)
client_opened setup me (suc before) is first last =
    let less : nat_lt before setup.clients ≡ true = lt-ltb before setup.clients (omega (arith, last)) in
    ap (λ (it : Bool). cond it (Some (client.client_at_start (numbered_client (suc before)) (ring_of setup) setup.seed))
    None) less
    ∙ ap (λ (it : ClientId). Some (client.client_at_start it (ring_of setup) setup.seed)) (ap numbered_client (sym is))

pub client_opens : (setup : Setup) (keys : Ring) (correct : List ClientId) (at : ℕ) (me : ClientId)
    (state : ClientState) → correct ≡ correct_clients setup setup.clients → at < length correct
    → me ≡ get_or correct at me → keys ≡ ring_of setup
    → state ≡ client.client_at_start me keys setup.seed
    → opening_actor setup (party.Client me) ≡ Some (Asks state)
client_opens setup keys correct at me state correct_is within me_is keys_are state_is =
    let here : IsClientUpTo setup setup.clients me =
    all_at (IsClientUpTo setup setup.clients) correct at me
    (subst (AllByRecursion (IsClientUpTo setup setup.clients)) (sym correct_is)
    (clients_up_to setup setup.clients)) within me_is in
    ap (λ (it : Bool). option_map (λ (state : ClientState). Asks state)
    (cond it None (opening_client setup me.0))) here.good
    ∙ ap (λ (it : Option ClientState). option_map (λ (state : ClientState). Asks state) it)
    (client_opened setup me me.0 refl here.first here.last)
    ∙ ap (λ (it : Ring). Some (Asks (client.client_at_start me it setup.seed))) (sym keys_are)
    ∙ ap (λ (it : ClientState). Some (Asks it)) (sym state_is)
