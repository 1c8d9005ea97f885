-- the letters so far and those of the rest are those of all
use Rattle.std.proofs.Common.{◌≡◌, ◌++◌, drop}
use Rattle.qu_post.specs.Letters.{letters_to, named_from}
use Rattle.qu_post.proofs.letters.letters_to.Given as goal

abbrev pub invariant-loop-place : goal.invariant-loop-place
invariant-loop-place l =
    l.letters ++ letters_to l.owner (named_from l.step.actor l.step.ticket l.place (drop l.place l.sent))
    ≡ letters_to l.owner (named_from l.step.actor l.step.ticket 0 l.sent)
