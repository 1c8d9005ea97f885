-- The correct parties of a setup, by rising number.
use Rattle.std.specs.Prelude.{ℕ, zero, suc, ◌+◌, if◌then◌else◌, List, [], ◌∷◌, ◌++◌}
use Rattle.qu_base.specs.declared.party.ClientId.{ClientId}
use Rattle.qu_base.specs.declared.party.ReplicaId.{ReplicaId}
use Rattle.qu_base.specs.declared.party.Party.TheVariants as party
use Rattle.qu_trace.specs.Faulty.{is_faulty}
use Rattle.qu_trace.specs.declared.trace.Setup.{Setup}

abbrev pub replica_at : ℕ → ReplicaId
replica_at place = record { 0 = place }

-- clients are numbered from 1
abbrev pub client_at : ℕ → ClientId
client_at place = record { 0 = place + 1 }

-- the correct ones of the first so many replicas
unfoldable pub correct_replicas : Setup → ℕ → List ReplicaId
correct_replicas setup zero = []
correct_replicas setup (suc place) =
    if is_faulty setup (party.Replica (replica_at place)) then correct_replicas setup place
    else correct_replicas setup place ++ replica_at place ∷ []

-- the correct ones of the first so many clients
unfoldable pub correct_clients : Setup → ℕ → List ClientId
correct_clients setup zero = []
correct_clients setup (suc place) =
    if is_faulty setup (party.Client (client_at place)) then correct_clients setup place
    else correct_clients setup place ++ client_at place ∷ []
