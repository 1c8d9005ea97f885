-- The numbers by which texts name why an event does not happen.
use Rattle.std.specs.Prelude.{ℕ, Option, None, Some}
use Rattle.qu_client.specs.declared.refusal_number.TheConstants.{BUSY}
use Rattle.qu_world.specs.declared.fail.WorldFail.{WorldFail}
use Rattle.qu_world.specs.declared.fail.WorldFail.TheVariants.{NoSuchLetter, NoSuchActor, Busy, TooManyEvents, TooManyBytes, NoMemory}
use Rattle.qu_world.specs.declared.refusal_number.TheConstants.{NO_SUCH_LETTER, NO_SUCH_ACTOR, TOO_MANY_EVENTS, TOO_MANY_BYTES}

abbrev pub world_fail_number : WorldFail → Option ℕ
world_fail_number (NoSuchLetter number) = Some NO_SUCH_LETTER
world_fail_number (NoSuchActor party) = Some NO_SUCH_ACTOR
world_fail_number Busy = Some BUSY
world_fail_number TooManyEvents = Some TOO_MANY_EVENTS
world_fail_number TooManyBytes = Some TOO_MANY_BYTES
world_fail_number NoMemory = None
