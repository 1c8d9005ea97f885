-- One more party is started.
use Rattle.std.proofs.Common.{◌≡◌, ℕ, suc, ◌+◌, ◌-◌, ◌<◌, ◌≤◌, List, [], ◌∷◌, ◌++◌, refl, sym, ap, ◌∙◌, append_assoc, append-nil, arith}
use Rattle.qu_seal.specs.Keys.{Ring}
use Rattle.qu_objects.specs.declared.kind.KindName.{KindName}
use Rattle.qu_fitting.specs.Holding as replica
use Rattle.qu_rows.specs.State.{ReplicaState}
use Rattle.qu_client.specs.State as client
use Rattle.qu_client.specs.declared.state.ClientState.{ClientState}
use Rattle.qu_world.specs.State.{opening_replicas, opening_clients}

-- the first of those that are left, and the others
pub replicas_more : (number count at : ℕ) (keys : Ring) (kinds : ℕ → List KindName) → at < count
    → opening_replicas number (count - at) keys kinds
    ≡ replica.replica_at_start (record { 0 = number }) keys (kinds number) ∷ opening_replicas (number + 1)
    (count - (at + 1)) keys kinds
unfolding opening_replicas
replicas_more number count at keys kinds more =
    let e : count - at ≡ suc (count - (at + 1)) = omega arith in rw e refl

pub replicas_none : (number count at : ℕ) (keys : Ring) (kinds : ℕ → List KindName) → count ≤ at
    → opening_replicas number (count - at) keys kinds ≡ []
unfolding opening_replicas
replicas_none number count at keys kinds none = let e : count - at ≡ 0 = omega arith in rw e refl

pub clients_more : (number count at : ℕ) (keys : Ring) → at < count
    → opening_clients number (count - at) keys
    ≡ client.client_at_start (record { 0 = number }) keys keys.seed
    ∷ opening_clients (number + 1) (count - (at + 1)) keys
unfolding opening_clients
clients_more number count at keys more =
    let e : count - at ≡ suc (count - (at + 1)) = omega arith in rw e refl

pub clients_none : (number count at : ℕ) (keys : Ring) → count ≤ at
    → opening_clients number (count - at) keys ≡ []
unfolding opening_clients
clients_none number count at keys none = let e : count - at ≡ 0 = omega arith in rw e refl

-- one more replica was started
pub replica_started : (started new all : List ReplicaState) (state : ReplicaState)
    (number count : ℕ) (keys : Ring) (kinds : ℕ → List KindName) → number < count
    → started ++ opening_replicas number (count - number) keys kinds ≡ all
    → state ≡ replica.replica_at_start (record { 0 = number }) keys (kinds number) → new ≡ started ++ state ∷ []
    → new ++ opening_replicas (number + 1) (count - (number + 1)) keys kinds ≡ all
replica_started started new all state number count keys kinds more so_far is new_is =
    ap (λ front. front ++ opening_replicas (number + 1) (count - (number + 1)) keys kinds) new_is
    ∙ append_assoc started (state ∷ []) (opening_replicas (number + 1) (count - (number + 1)) keys kinds)
    ∙ ap (λ first. started ++ first ∷ opening_replicas (number + 1) (count - (number + 1)) keys kinds) is
    ∙ ap (λ rest. started ++ rest) (sym (replicas_more number count number keys kinds more))
    ∙ so_far

pub replicas_started : (started all : List ReplicaState) (number count : ℕ) (keys : Ring)
    (kinds : ℕ → List KindName) → count ≤ number
    → started ++ opening_replicas number (count - number) keys kinds ≡ all → started ≡ all
replicas_started started all number count keys kinds none so_far =
    sym (append-nil started) ∙ ap (λ rest. started ++ rest)
    (sym (replicas_none number count number keys kinds none)) ∙ so_far

-- one more client was started
pub client_started : (started new all : List ClientState) (state : ClientState) (before count : ℕ) (keys : Ring)
    → before < count
    → started ++ opening_clients (before + 1) (count - before) keys ≡ all
    → state ≡ client.client_at_start (record { 0 = before + 1 }) keys keys.seed → new ≡ started ++ state ∷ []
    → new ++ opening_clients (before + 1 + 1) (count - (before + 1)) keys ≡ all
client_started started new all state before count keys more so_far is new_is =
    ap (λ front. front ++ opening_clients (before + 1 + 1) (count - (before + 1)) keys) new_is
    ∙ append_assoc started (state ∷ []) (opening_clients (before + 1 + 1) (count - (before + 1)) keys)
    ∙ ap (λ first. started ++ first ∷ opening_clients (before + 1 + 1) (count - (before + 1)) keys) is
    ∙ ap (λ rest. started ++ rest) (sym (clients_more (before + 1) count before keys more))
    ∙ so_far

pub clients_started : (started all : List ClientState) (before count : ℕ) (keys : Ring) → count ≤ before
    → started ++ opening_clients (before + 1) (count - before) keys ≡ all → started ≡ all
clients_started started all before count keys none so_far =
    sym (append-nil started) ∙ ap (λ rest. started ++ rest)
    (sym (clients_none (before + 1) count before keys none)) ∙ so_far
