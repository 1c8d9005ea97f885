-- The exit status of each outcome.
use Rattle.std.specs.Prelude.{ℕ}
use Rattle.qu_cli.specs.declared.report.End.{End}
use Rattle.qu_cli.specs.declared.report.End.TheVariants.{Done, BadWords, BadScript, ReadFault, WriteFault, NoMemory, Torn}

abbrev pub status_of : End → ℕ
status_of Done = 0
status_of BadWords = 2
status_of BadScript = 3
status_of ReadFault = 4
status_of WriteFault = 5
status_of NoMemory = 6
status_of Torn = 7
