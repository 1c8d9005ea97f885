-- What a command has to write is told, and so is how its call ends.
use Rattle.std.proofs.Common.{refl}
use Rattle.qu_notation.specs.declared.command.Command.TheVariants.{Live}
use Rattle.qu_cli.proofs.ToldFacts.{ends}
use Rattle.qu_cli.proofs.answering_live.answer_live.Goals as goal

pub returns : goal.returns
returns g c =
    ends _ _ _ _ _ _ _ _ c.tell.result Live c.live_output_for.result refl c.live_output_for.ensures.outputs
    c.live_output_for.ensures.torn c.live_output_for.ensures.few (λ nothing. absurd nothing)
    c.live_output_for.ensures.fault c.live_output_for.ensures.calm c.tell.ensures.told c.tell.ensures.untold
