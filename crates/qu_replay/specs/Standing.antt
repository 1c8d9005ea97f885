-- What stands under the lock of one actor: its state is where its steps lead from its opening.
use Rattle.std.specs.Prelude.{List, Some}
use Rattle.qu_base.specs.declared.party.Party.{Party}
use Rattle.qu_base.specs.declared.party.Party.TheVariants as party
use Rattle.qu_rows.specs.State.{ReplicaState}
use Rattle.qu_trace.specs.declared.trace.Setup.{Setup}
use Rattle.qu_replay.specs.Steps.{Actor, Replicates}
use Rattle.qu_replay.specs.declared.kept_step.KeptStep.{KeptStep}
use Rattle.qu_replay.specs.Replays.{IsReplayOf, RisesFrom, opening_actor}

-- the actor with this name is where these steps lead from its opening, and their tickets rise
pub record StandsWell (setup : Setup) (me : Party) (actor : Actor) (steps : List KeptStep) : Type 0 where
  pub replay : IsReplayOf me (opening_actor setup me) steps (Some actor)
  pub rise : RisesFrom 0 steps

-- a replica stands well under its own name
abbrev pub ReplicaStands : Setup → ReplicaState → List KeptStep → Type 0
ReplicaStands setup state steps = StandsWell setup (party.Replica state.me) (Replicates state) steps
