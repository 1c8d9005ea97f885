-- The histories of replicas over the whole of a run.
use Rattle.std.specs.Prelude.{◌≡◌, ℕ, ◌≤◌, length, slice_get, Some}
use Rattle.qu_rows.specs.State.{ReplicaState, AreHistories}
use Rattle.qu_trace.specs.declared.trace.Trace.{Trace}
use Rattle.qu_world.specs.Growth.{GrowsTo}
use Rattle.qu_claims.specs.Times.{world_after}

-- at any time each history of a replica rises strictly from the opening candidate
abbrev pub HistoriesRise : Trace → Type 0
HistoriesRise trace = (time : ℕ) → time ≤ length trace.entries → (place : ℕ) (state : ReplicaState)
    → slice_get (world_after trace time).replicas place ≡ Some state → AreHistories state

-- what a replica has accepted and stored is a front of what it has at each later time
abbrev pub ForgetsNothing : Trace → Type 0
ForgetsNothing trace = (earlier later : ℕ) → earlier ≤ later
    → GrowsTo (world_after trace earlier) (world_after trace later)
