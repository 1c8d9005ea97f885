-- What replicas answered, and how many of them answered alike.
use Rattle.std.specs.Prelude.{ℕ, zero, suc, ◌+◌, ◌==◌, Bool, true, not, ◌&&◌, nat_lt, if◌then◌else◌, List, [], ◌∷◌}
use Rattle.std.specs.List.{list_any}
use Rattle.qu_base.specs.declared.limits.TheConstants.{REPLICA_IDS}
use Rattle.qu_base.specs.declared.party.ReplicaId.{ReplicaId}
use Rattle.qu_waiting.specs.declared.vote.Vote.{Vote}

-- the replica answered
abbrev pub has_voted : {T : Type 0} → ReplicaId → List (Vote T) → Bool
has_voted replica votes = list_any (λ vote. (vote.replica).0 == replica.0) votes

-- each vote is of another replica
unfoldable pub is_once : {T : Type 0} → List (Vote T) → Bool
is_once [] = true
is_once (vote ∷ later) = nat_lt (vote.replica).0 REPLICA_IDS && (not (has_voted vote.replica later) && is_once later)

-- the vote is of the replica with this number, and its answer passes the test
abbrev pub is_for : {T : Type 0} → (T → Bool) → ℕ → Vote T → Bool
is_for test number vote = (vote.replica).0 == number && test vote.value

-- how many of the first so many replicas gave an answer that passes the test
unfoldable pub replicas_for : {T : Type 0} → (T → Bool) → ℕ → List (Vote T) → ℕ
replicas_for test zero votes = 0
replicas_for test (suc number) votes =
    (if list_any (is_for test number) votes then 1 else 0) + replicas_for test number votes

-- how many replicas gave an answer that is the same as this one
unfoldable pub count_of : {T : Type 0} → (T → T → Bool) → T → List (Vote T) → ℕ
count_of same value votes = replicas_for (λ answer. same answer value) REPLICA_IDS votes
