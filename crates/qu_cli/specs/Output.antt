-- What a command has to write, of its input.
use Rattle.std.specs.Prelude.{◌≡◌, ⊤, ℕ, List}
use Rattle.qu_gather.specs.declared.torn.LiveFail.{LiveFail}
use Rattle.qu_gather.specs.declared.torn.LiveFail.TheVariants as fail
use Rattle.qu_io.specs.Streams.{StreamView}
use Rattle.qu_script_words.specs.declared.bad.Bad.{Bad}
use Rattle.qu_cli.specs.declared.output.Output.{Output}
use Rattle.qu_cli.specs.declared.output.Output.TheVariants.{Report, Refusal}
use Rattle.qu_cli.specs.declared.output.NoOutput.{NoOutput}
use Rattle.qu_cli.specs.declared.output.NoOutput.TheVariants as no_output
use Rattle.qu_io.specs.declared.reading.NoScript.{NoScript}
use Rattle.qu_io.specs.declared.reading.NoScript.TheVariants as no_script
use Rattle.qu_notation.specs.declared.command.Command.{Command}
use Rattle.qu_notation.specs.declared.command.Command.TheVariants.{Live}
use Rattle.qu_cli.specs.Ends.{MakesText, TellsBad, IsScriptFor, Refuses, HasScript}

abbrev pub output_error : NoScript → NoOutput
output_error no_script.Fault = no_output.ReadFault
output_error no_script.NoMemory = no_output.NoMemory

-- the text tells why the command refuses the script
pub record TellsRefusal (command : Command) (script text : List ℕ) : Type 0 where
  pub bad : Bad
  pub refuses : Refuses command script bad
  pub tells : TellsBad command script bad text

-- what the command has to write of a script
abbrev pub IsOutput : Command → List ℕ → Output → Type 0
IsOutput command script (Report trace text) = MakesText command script trace text
IsOutput command script (Refusal text hint) = TellsRefusal command script text

-- what the command has to write of its script
pub record Outputs (command : Command) (before now : StreamView) (output : Output) : Type 0 where
  pub script : List ℕ
  pub takes : HasScript command before now script
  pub output_is : IsOutput command script output

-- ---- where there is nothing to write

-- why a command makes nothing of a script: only a run on threads is torn, and only that of a good script
abbrev pub MayFail : Command → List ℕ → LiveFail → Type 0
MayFail command script (fail.Torn torn) = (command ≡ Live) × IsScriptFor command script
MayFail command script fail.NoMemory = ⊤

-- the run on threads of the script that was taken is torn
pub record Tears (command : Command) (before now : StreamView) : Type 0 where
  pub script : List ℕ
  pub takes : HasScript command before now script
  pub lives : command ≡ Live
  pub accepts : IsScriptFor command script

-- no run on threads is torn
abbrev pub IsWhole : NoOutput → Type 0
IsWhole no_output.ReadFault = ⊤
IsWhole no_output.NoMemory = ⊤
IsWhole (no_output.Torn torn) = ⊥

-- why there is nothing to write
abbrev pub HasNoOutput : Command → StreamView → StreamView → NoOutput → Type 0
HasNoOutput command before now no_output.ReadFault = ⊤
HasNoOutput command before now no_output.NoMemory = ⊤
HasNoOutput command before now (no_output.Torn torn) = Tears command before now
