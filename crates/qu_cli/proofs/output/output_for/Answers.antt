-- A command that has a number works upon the script of the number.
use Rattle.qu_cli.proofs.OutputFacts.{summed_outputs}
use Rattle.qu_cli.proofs.output.output_for.Goals as goal

pub returns-in_ok-summary_output-in-SimGen-clause-outputs :
    goal.returns-in_ok-summary_output-in-SimGen-clause-outputs
returns-in_ok-summary_output-in-SimGen-clause-outputs g c =
    summed_outputs c.args.command c.in-SimGen.number _ _ c.in-SimGen.is c.in_ok-summary_output-in-SimGen.ensures
