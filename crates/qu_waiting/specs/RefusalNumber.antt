-- The number by which texts name the refusal of a vote.
use Rattle.std.specs.Prelude.{ℕ, Option, None, Some}
use Rattle.qu_waiting.specs.declared.refusal_number.TheConstants.{TWICE}
use Rattle.qu_waiting.specs.declared.tally.VoteFail.{VoteFail}
use Rattle.qu_waiting.specs.declared.tally.VoteFail.TheVariants.{Twice, NoMemory}

abbrev pub vote_fail_number : VoteFail → Option ℕ
vote_fail_number (Twice replica) = Some TWICE
vote_fail_number NoMemory = None
