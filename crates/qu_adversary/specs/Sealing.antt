-- Histories of a faulty replica's choice. It has its own keys and no others, so its HMACs are right for those
-- replicas that it chooses (Query/Update: a faulty replica may make an authenticator that only some accept).
use Rattle.std.specs.Prelude.{ℕ, Bool, ◌==◌, if◌then◌else◌, List, map}
use Rattle.std.specs.List.{list_any, range_with_len}
use Rattle.qu_base.specs.declared.party.Digest.{Digest}
use Rattle.qu_base.specs.declared.party.Party.TheVariants.{Replica}
use Rattle.qu_base.specs.declared.party.ReplicaId.{ReplicaId}
use Rattle.qu_base.specs.Bounds.{replicas}
use Rattle.qu_seal.specs.Keys.{Ring, seal_of}
use Rattle.qu_history.specs.declared.sealed.Sealed.{Sealed}
use Rattle.qu_history.specs.Culling.{history_digest}
use Rattle.qu_history.specs.History.{ObjectHistory}
use Rattle.qu_frames.specs.Blank.{blank_mac}

abbrev pub is_number_in : List ReplicaId → ℕ → Bool
is_number_in good number = list_any (λ (other : ReplicaId). other.0 == number) good

-- the HMAC of a digest for the replica with this number: right for the chosen ones, and else zero bytes
unfoldable pub mac_for : Ring → ReplicaId → List ReplicaId → Digest → ℕ → List ℕ
mac_for ring me good text number =
    if is_number_in good number then seal_of ring (Replica me) (Replica (record { 0 = number })) text else blank_mac

-- one for each replica
unfoldable pub authenticator_for : Ring → ReplicaId → List ReplicaId → Digest → List (List ℕ)
authenticator_for ring me good text =
    map (λ number. mac_for ring me good text number) (range_with_len 0 (replicas ring.bounds))

-- the history with these HMACs by this replica
abbrev pub sealed_for : Ring → ReplicaId → List ReplicaId → ObjectHistory → Sealed
sealed_for ring me good history =
    record { history = history; macs = authenticator_for ring me good (history_digest history) }
