-- What is found is what the set has.
use Rattle.std.specs.Prelude.{map, string_bytes}
use Rattle.qu_notation.proofs.AskFacts.{alone_listed}
use Rattle.qu_notation.proofs.service.alone_command.Goals as goal

pub returns-clause-listed : goal.returns-clause-listed
returns-clause-listed c = rw c.command_of-command.ensures.value (alone_listed (map string_bytes c.args.words.now))
