-- Flow takes none of the letters so far.
use Rattle.std.proofs.Common.{◌+◌, ◌-◌, length}
use Rattle.qu_trace.specs.Letters.{letters_of}
use Rattle.qu_script.specs.Waiting.{IsSearched}
use Rattle.qu_script.proofs.waiting.find_lowest.Given as goal

abbrev pub invariant-search : goal.invariant-search
invariant-search l = IsSearched l.setup l.entries l.outage l.from.event l.next l.number

abbrev pub decreases-search : goal.decreases-search
decreases-search l = length (letters_of l.entries) + 1 - l.number
