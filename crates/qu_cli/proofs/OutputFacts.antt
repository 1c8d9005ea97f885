-- What is written of the script of a number is what is told of its run.
use Rattle.std.proofs.Common.{◌≡◌, ℕ, List, None, Some, refl}
use Rattle.qu_gen.specs.Script.{generated_script}
use Rattle.qu_io.specs.Streams.{StreamView}
use Rattle.qu_notation.specs.declared.command.Command.{Command}
use Rattle.qu_notation.specs.declared.command.Command.TheVariants.{Sim, SimGen}
use Rattle.qu_notation.specs.declared.command.Telling.TheVariants.{Summary}
use Rattle.qu_cli.specs.declared.output.Output.{Output}
use Rattle.qu_cli.specs.declared.output.Output.TheVariants.{Report, Refusal}
use Rattle.qu_cli.specs.Output.{IsOutput, Outputs}

pub summed_output : (number : ℕ) (script : List ℕ) (output : Output) → IsOutput (Sim (Summary number)) script output
    → IsOutput (SimGen number) script output
summed_output number script (Report None text) is = absurd is
summed_output number script (Report (Some trace) text) is = is
summed_output number script (Refusal text hint) is = record { bad = is.bad; refuses = is.refuses; tells = is.tells }

-- the script of a number is not read
pub summed_outputs : (command : Command) (number : ℕ) (source : StreamView) (output : Output) → command ≡ SimGen number
    → IsOutput (SimGen number) (generated_script number) output → Outputs command source source output
summed_outputs command number source output is made =
    rw is (record { script = generated_script number; takes = refl; output_is = made })
