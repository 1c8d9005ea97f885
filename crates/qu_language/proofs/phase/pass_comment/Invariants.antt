-- The words so far were ASCII.
use Rattle.std.proofs.Common.{◌≡◌, length}
use Rattle.qu_language.specs.Phase.{comment_of}
use Rattle.qu_language.proofs.phase.pass_comment.Given as goal

abbrev pub invariant-words : goal.invariant-words
invariant-words l = comment_of l.words ≡ comment_of l.initial.words

abbrev pub decreases-words : goal.decreases-words
decreases-words l = length l.words
