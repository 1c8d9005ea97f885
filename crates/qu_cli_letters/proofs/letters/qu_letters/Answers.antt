-- What was asked is what the words ask.
use Rattle.qu_notation.specs.Words.{letters_usage_text}
use Rattle.qu_cli_letters.proofs.letters.qu_letters.Goals as goal

pub returns-clause-ends : goal.returns-clause-ends
unfolding letters_usage_text
returns-clause-ends g c = rw c.letters_command.ensures.value at c.answer.ensures.ends
