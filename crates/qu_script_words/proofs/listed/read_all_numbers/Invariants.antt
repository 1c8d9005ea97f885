-- The numbers so far, and those of the words that are left.
use Rattle.std.proofs.Common.{◌≡◌, length}
use Rattle.qu_script_words.specs.Rules.{number_rule}
use Rattle.qu_script_words.specs.Words.{all_of}
use Rattle.qu_script_words.proofs.ListedFacts.{listed_with}
use Rattle.qu_script_words.proofs.listed.read_all_numbers.Given as goal

abbrev pub invariant-words : goal.invariant-words
invariant-words l = listed_with number_rule l.numbers l.words ≡ all_of number_rule l.initial.words

abbrev pub decreases-words : goal.decreases-words
decreases-words l = length l.words
