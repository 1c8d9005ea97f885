-- The world in which the events of a run are told: it follows them as they are told.
use Rattle.std.specs.Prelude.{List, [], ◌∷◌, Option, None, Some}
use Rattle.qu_trace.specs.declared.event.Event.{Event}
use Rattle.qu_trace.specs.declared.trace.Entry.{Entry}
use Rattle.qu_trace.specs.declared.trace.Setup.{Setup}
use Rattle.qu_world.specs.declared.fail.WorldFail.{WorldFail}
use Rattle.qu_world.specs.Refusals.{cause_of}
use Rattle.qu_world.specs.State.{WorldState, opening_world}
use Rattle.qu_world.specs.Step.{world_step}

abbrev pub unless_barred : Option WorldFail → WorldState → Event → WorldState
unless_barred None world event = world_step world event
unless_barred (Some fail) world event = world

-- an event that cannot happen in it, which no run has, changes nothing
abbrev pub followed : WorldState → Event → WorldState
followed world event = unless_barred (cause_of world event) world event

unfoldable pub world_from : WorldState → List Entry → WorldState
world_from world [] = world
world_from world (entry ∷ later) = world_from (followed world entry.event) later

-- behind these entries
unfoldable pub world_behind : Setup → List Entry → WorldState
world_behind setup entries = world_from (opening_world setup) entries
