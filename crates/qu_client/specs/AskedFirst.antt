-- The replicas that are asked first: a quorum, from the replica with the object's number on and round again.
use Rattle.std.specs.Prelude.{ℕ, ◌+◌, ◌-◌, ◌%◌, Bool, nat_lt, count_by}
use Rattle.std.specs.List.{range_with_len}
use Rattle.qu_base.specs.declared.party.ObjectId.{ObjectId}
use Rattle.qu_base.specs.declared.party.ReplicaId.{ReplicaId}
use Rattle.qu_base.specs.Bounds.{replicas, quorum}

-- how many steps the replica is behind the first one, going round
unfoldable pub place : ℕ → ℕ → ℕ → ℕ
place count first replica = (replica + count - first % count) % count

abbrev pub is_preferred : ℕ → ObjectId → ReplicaId → Bool
is_preferred b first replica = nat_lt (place (replicas b) first.0 replica.0) (quorum b)

-- how many of the replicas are
unfoldable pub how_many_preferred : ℕ → ObjectId → ℕ
how_many_preferred b first =
    count_by (λ number. is_preferred b first (record { 0 = number })) (range_with_len 0 (replicas b))
