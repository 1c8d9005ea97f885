-- Each command is told what it wants.
use Rattle.qu_cli_letters.proofs.TellingFacts.{tells_listing}
use Rattle.qu_cli_letters.proofs.teller.told_letters.Goals as goal

pub returns-in_ok-text-in-Events : goal.returns-in_ok-text-in-Events
returns-in_ok-text-in-Events c = tells_listing _ _ _ c.in-Events.is c.in_ok-text-in-Events.ensures
