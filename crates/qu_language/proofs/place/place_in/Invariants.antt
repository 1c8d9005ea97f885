-- One line after another, each read as a script's lines are.
use Rattle.std.proofs.Common.{length}
use Rattle.qu_language.specs.Phase.{IsGood}
use Rattle.qu_language.proofs.place.place_in.Given as goal

abbrev pub invariant-lines : goal.invariant-lines
invariant-lines l = IsGood l.phase

abbrev pub decreases-lines : goal.decreases-lines
decreases-lines l = length l.rest
