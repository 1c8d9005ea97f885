-- What the replicas of a world accepted.
use Rattle.std.specs.Prelude.{Bool}
use Rattle.std.specs.List.{list_any}
use Rattle.qu_base.specs.declared.party.ObjectId.{ObjectId}
use Rattle.qu_stamp.specs.declared.candidate.Candidate.{Candidate}
use Rattle.qu_history.specs.History.{holds}
use Rattle.qu_rows.specs.State.{ReplicaState, own_candidates}
use Rattle.qu_world.specs.State.{WorldState}

-- a replica accepted the candidate: the opening one from the start, another when it was added
abbrev pub accepts : ObjectId → Candidate → ReplicaState → Bool
accepts object candidate replica = holds candidate (own_candidates replica object)

abbrev pub is_accepted : WorldState → ObjectId → Candidate → Bool
is_accepted world object candidate = list_any (accepts object candidate) world.replicas
