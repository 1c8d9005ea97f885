-- The worlds of a run, one after each event.
use Rattle.std.specs.Prelude.{ℕ, take}
use Rattle.qu_trace.specs.declared.trace.Trace.{Trace}
use Rattle.qu_world.specs.State.{WorldState}
use Rattle.qu_world.specs.Run.{run, events_of}

-- the world after so many events of a trace
abbrev pub world_after : Trace → ℕ → WorldState
world_after trace count = run trace.setup (events_of (take count trace.entries))
