-- The world as events are told one behind another.
use Rattle.std.proofs.Common.{◌≡◌, List, [], ◌∷◌, ◌++◌, refl}
use Rattle.qu_trace.specs.declared.trace.Entry.{Entry}
use Rattle.qu_trace.specs.declared.trace.Setup.{Setup}
use Rattle.qu_world.specs.State.{WorldState, opening_world}
use Rattle.qu_listed.specs.World.{followed, world_from, world_behind}

from_more : (world : WorldState) (earlier : List Entry) (entry : Entry)
    → world_from world (earlier ++ entry ∷ []) ≡ followed (world_from world earlier) entry.event
unfolding world_from
from_more world [] entry = refl
from_more world (first ∷ earlier) entry = from_more (followed world first.event) earlier entry

-- behind one entry more
pub world_more : (setup : Setup) (earlier : List Entry) (entry : Entry)
    → world_behind setup (earlier ++ entry ∷ []) ≡ followed (world_behind setup earlier) entry.event
unfolding world_behind
world_more setup earlier entry = from_more (opening_world setup) earlier entry
