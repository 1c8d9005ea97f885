-- What stays as candidates are accepted.
use Rattle.std.proofs.Common.{◌≡◌, cond, List, []}
use Rattle.std.specs.Prelude.{find, nat_le, is_none}
use Rattle.qu_history.specs.declared.sets.SetOf.{SetOf}
use Rattle.qu_history.specs.Culling.{left_out}
use Rattle.qu_mends.specs.declared.accepted.Accepted.{Accepted}
use Rattle.qu_rows.specs.State.{ReplicaState}
use Rattle.qu_fitting.specs.Holding.{accept_all}
use Rattle.qu_rows.specs.Named.{named}
use Rattle.qu_replica.specs.Growth.{Grows}
use Rattle.qu_replica.proofs.States.Growth.{accept_all-grows, accept_all-me, accept_all-keys, accept_all-bounds}

-- a replica names the same once it accepted something
pub accept_all-named : (state : ReplicaState) (accepted : List Accepted) (sets : List SetOf)
    → named (accept_all state accepted) sets ≡ named state sets
unfolding named
accept_all-named state accepted sets =
    let grows : Grows state (accept_all state accepted) = accept_all-grows state accepted in
    λ i. cond (is_none (find (λ (set : SetOf). nat_le (grows.number i) (set.object).0) sets))
    (left_out (grows.keys i) (grows.me i) sets) []

pub ruleset answers = (accept_all-me, accept_all-keys, accept_all-bounds, accept_all-named)
