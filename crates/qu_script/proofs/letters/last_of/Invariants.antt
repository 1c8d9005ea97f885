-- The last letter so far, and the last one of the others.
use Rattle.std.proofs.Common.{◌≡◌, drop}
use Rattle.std.specs.Option.{option_copied}
use Rattle.qu_script.specs.Letters.{last_of}
use Rattle.qu_script.proofs.LetterFacts.{last_or}
use Rattle.qu_script.proofs.letters.last_of.Given as goal

abbrev pub invariant-loop-letter : goal.invariant-loop-letter
invariant-loop-letter l =
    last_or l.fn.from l.fn.to (option_copied l.found) (drop l.letter-index l.letters) ≡ last_of l.fn.from l.fn.to
    l.letters
