-- The entries of a request that a reply names.
use Rattle.std.specs.Prelude.{if◌then◌else◌, List, [], is_none}
use Rattle.qu_base.specs.declared.party.ObjectId.{ObjectId}
use Rattle.qu_base.specs.declared.party.ReplicaId.{ReplicaId}
use Rattle.qu_history.specs.declared.sets.SetOf.{SetOf}
use Rattle.qu_history.specs.Culling.{left_out}
use Rattle.qu_rows.specs.Rows.{unknown_in}
use Rattle.qu_rows.specs.State.{ReplicaState}

-- those that are culled, none where the replica does not have an object of the sets
unfoldable pub named : ReplicaState → List SetOf → List (ObjectId × ReplicaId)
named state sets = if is_none (unknown_in state sets) then left_out state.keys state.me sets else []
