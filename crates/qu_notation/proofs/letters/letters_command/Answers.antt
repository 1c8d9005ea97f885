-- What is found is what is listed.
use Rattle.std.specs.Prelude.{map, string_bytes}
use Rattle.qu_notation.proofs.WordFacts.{letters_listed}
use Rattle.qu_notation.proofs.letters.letters_command.Goals as goal

pub returns-clause-listed : goal.returns-clause-listed
returns-clause-listed c =
    rw c.letters_command_of-command.ensures.value (letters_listed (map string_bytes c.args.words.now))
