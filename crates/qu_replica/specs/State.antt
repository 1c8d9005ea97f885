-- How what a replica holds changes by a step.
use Rattle.std.specs.Prelude.{◌++◌, unwrap_or}
use Rattle.qu_rows.specs.State.{ReplicaState}
use Rattle.qu_fitting.specs.Holding.{with_histories}
use Rattle.qu_replica.specs.declared.planned.Gain.{Gain}
use Rattle.qu_waiting.specs.Slots.{with_turn}

-- the state with what it gains
abbrev pub with_gain : ReplicaState → Gain → ReplicaState
with_gain state gain = record state {
  histories = with_histories gain.histories state.histories;
  versions = (state.versions ++ gain.found) ++ gain.versions;
  waiting = with_turn gain.turn state.waiting;
  fetching = unwrap_or gain.fetching state.fetching;
}
