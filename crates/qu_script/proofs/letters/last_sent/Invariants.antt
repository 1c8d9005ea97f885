-- The last letter so far, and the last one of the later events.
use Rattle.std.proofs.Common.{◌≡◌, drop}
use Rattle.std.specs.Option.{option_copied}
use Rattle.qu_script.specs.Letters.{last_sent}
use Rattle.qu_script.proofs.LetterFacts.{sent_or}
use Rattle.qu_script.proofs.letters.last_sent.Given as goal

abbrev pub invariant-loop-entry : goal.invariant-loop-entry
invariant-loop-entry l =
    sent_or l.fn.from l.fn.to (option_copied l.found) (drop l.entry-index l.entries) ≡ last_sent l.fn.from l.fn.to
    l.entries
