-- The numbers of a client's requests are at most as many as its steps.
use Rattle.std.proofs.Common.{ℕ, ◌-◌, ◌^◌, ◌<◌, ◌≤◌, List, length, Option, None, Some, IfSome, arith}
use Rattle.qu_base.specs.declared.party.Party.TheVariants as party
use Rattle.qu_client.specs.declared.state.ClientState.{ClientState}
use Rattle.qu_trace.specs.declared.trace.Setup.{Setup}
use Rattle.qu_replay.specs.declared.kept_step.KeptStep.{KeptStep}
use Rattle.qu_replay.specs.Steps.{Asks}
use Rattle.qu_replay.specs.Operations.{begun_operations}
use Rattle.qu_replay.specs.Standing.{StandsWell}
use Rattle.qu_replay.proofs.Operations.{balanced_from_opening}
use Rattle.qu_lock.proofs.Calling.{begun_most}

last_below : (last : Option (ℕ × ℕ)) (most : ℕ) → IfSome last (λ last. last.0 ≤ most) → most < 2 ^ 63
    → IfSome last (λ last. last.0 < 2 ^ 64 - 1)
last_below None most within few = tt
last_below (Some last) most within few = omega (arith, within, few)

-- the number of the last request of a client with these steps, of which memory holds no more
pub last_number_below : (setup : Setup) (state : ClientState) (steps : List KeptStep)
    → StandsWell setup (party.Client state.me) (Asks state) steps → length steps < 2 ^ 63
    → IfSome state.last_request (λ last. last.0 < 2 ^ 64 - 1)
last_number_below setup state steps well few =
    let most = begun_most steps in
    last_below state.last_request (length (begun_operations steps))
    (balanced_from_opening setup state.me steps state well.replay).numbers.last (omega (arith, most, few))
