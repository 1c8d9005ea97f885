-- What is told of a run's events is what the command of them wants.
use Rattle.std.proofs.Common.{◌≡◌, ℕ, List}
use Rattle.qu_trace.specs.declared.trace.Trace.{Trace}
use Rattle.qu_notation.specs.declared.command.Telling.{Telling}
use Rattle.qu_notation.specs.declared.command.Telling.TheVariants.{Events}
use Rattle.qu_cli.specs.Ends.{Lists, TellsRun}

pub tells_listing : (telling : Telling) (trace : Trace) (text : List ℕ) → telling ≡ Events → Lists trace text
    → TellsRun telling trace text
tells_listing telling trace text is lists = rw is lists
