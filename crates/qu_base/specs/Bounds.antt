-- How many replicas there are and how many answer, where b of them may lie. The sizes are those of
-- the Query/Update protocol (Abd-El-Malek, Ganger, Goodson, Reiter, Wylie, SOSP 2005); the four
-- facts are all that a proof may use of them.
use Rattle.std.specs.Prelude.{ℕ, Bool, ◌+◌, ◌*◌, ◌==◌, ◌||◌, ◌<◌, ◌≤◌}

-- the number of replicas
unfoldable pub replicas : ℕ → ℕ
replicas b = 5 * b + 1

-- the number of replicas for some number of faults, from 1 to 3
unfoldable pub is_replica_count : ℕ → Bool
is_replica_count count = count == replicas 1 || (count == replicas 2 || count == replicas 3)

-- the number of replicas in a quorum
unfoldable pub quorum : ℕ → ℕ
quorum b = 4 * b + 1

-- the number of replicas that have to show a candidate before it may be repaired
unfoldable pub repair : ℕ → ℕ
repair b = 2 * b + 1

pub record AreThresholds (b : ℕ) : Type 0 where
  -- a quorum and a repairing set share a correct replica
  pub quorum_meets_repair : replicas b + b < quorum b + repair b
  -- the correct replicas that two quorums share are enough for a repair: 2q - b - n is at least r
  pub quorums_share_repair : replicas b + b + repair b ≤ 2 * quorum b
  -- the correct replicas make a quorum
  pub correct_make_quorum : quorum b + b ≤ replicas b
  -- among those that repair, the correct ones outnumber the lying ones
  pub repair_outnumbers : 2 * b + 1 ≤ repair b
