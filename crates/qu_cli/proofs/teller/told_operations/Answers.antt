-- Each command is told what it wants.
use Rattle.qu_cli.proofs.SimulationFacts.{tells_report, tells_sums}
use Rattle.qu_cli.proofs.teller.told_operations.Goals as goal

pub returns-in_ok-text-in-Operations : goal.returns-in_ok-text-in-Operations
returns-in_ok-text-in-Operations c = tells_report _ _ _ c.in-Operations.is c.in_ok-text-in-Operations.ensures

pub returns-in_ok-text-in-Summary : goal.returns-in_ok-text-in-Summary
returns-in_ok-text-in-Summary c =
    tells_sums _ c.in-Summary.number _ _ c.in-Summary.is c.in_ok-text-in-Summary.ensures
