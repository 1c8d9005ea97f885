-- What stands behind the lock of a client.
use Rattle.std.specs.Prelude.{List}
use Rattle.qu_base.specs.declared.party.ClientId.{ClientId}
use Rattle.qu_base.specs.declared.party.Party.TheVariants as party
use Rattle.qu_objects.specs.declared.op.Op.{Op}
use Rattle.qu_client.specs.declared.state.ClientState.{ClientState}
use Rattle.qu_trace.specs.declared.trace.Setup.{Setup}
use Rattle.qu_replay.specs.declared.kept_step.KeptStep.{KeptStep}
use Rattle.qu_replay.specs.Steps.{Asks}
use Rattle.qu_replay.specs.Standing.{StandsWell}
use Rattle.qu_lock.specs.Calls.{calls_by, AreFirstCalls}

-- a client stands well under its own name, and began the first of its calls
pub record ClientStands (setup : Setup) (calls : List (ClientId × Op)) (state : ClientState) (steps : List KeptStep)
    : Type 0 where
  pub well : StandsWell setup (party.Client state.me) (Asks state) steps
  pub first_calls : AreFirstCalls (calls_by state.me calls) steps
