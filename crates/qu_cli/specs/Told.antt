-- What a call reports of what it had to write, or of why there was nothing. The sink stands as `sink` before it is
-- told, and as `sink'` behind it.
use Rattle.std.specs.Prelude.{◌≡◌, ℕ, List, None, Some, Result, Ok, Err, ◌⊎◌}
use Rattle.qu_io.specs.Streams.{StreamView, IsCalm}
use Rattle.qu_io.specs.Transfer.{Writes, WritesShort, WritesOrFails}
use Rattle.qu_cli.specs.declared.output.Output.{Output}
use Rattle.qu_cli.specs.declared.output.Output.TheVariants as output
use Rattle.qu_cli.specs.declared.output.NoOutput.{NoOutput}
use Rattle.qu_cli.specs.declared.output.NoOutput.TheVariants as no_output
use Rattle.qu_cli.specs.declared.report.End.TheVariants.{Done, BadScript, ReadFault, WriteFault, NoMemory, Torn}
use Rattle.qu_cli.specs.declared.report.Report.{Report}
use Rattle.qu_cli.specs.Report.{status_of}

-- the text is written whole, or stays short by a fault of the sink, as the status says
abbrev pub IsWrittenOut : List ℕ → StreamView → StreamView → ℕ → Type 0
IsWrittenOut text sink sink' status =
    ((status ≡ status_of Done) × (Writes sink sink' text × IsCalm sink sink'))
    ⊎ ((status ≡ status_of WriteFault) × WritesShort sink sink' text)

-- a report has its run, and nothing else has one; what does not fit together is told as it is
abbrev pub IsTold : Result Output NoOutput → StreamView → StreamView → Report → Type 0
IsTold (Ok (output.Report trace text)) sink sink' report =
    (report.trace ≡ trace) × ((report.torn ≡ None) × IsWrittenOut text sink sink' report.status)
IsTold (Ok (output.Refusal text hint)) sink sink' report =
    (report.trace ≡ None)
    × ((report.torn ≡ None) × ((report.status ≡ status_of BadScript) × WritesOrFails sink sink' text))
IsTold (Err no_output.ReadFault) sink sink' report =
    (report.trace ≡ None) × ((report.torn ≡ None) × (report.status ≡ status_of ReadFault))
IsTold (Err no_output.NoMemory) sink sink' report =
    (report.trace ≡ None) × ((report.torn ≡ None) × (report.status ≡ status_of NoMemory))
IsTold (Err (no_output.Torn torn)) sink sink' report =
    (report.trace ≡ None) × ((report.torn ≡ Some torn) × (report.status ≡ status_of Torn))
