use Rattle.std.proofs.Common.{◌≡◌, take}
use Rattle.qu_frames.proofs.frame.Letter.copy_all.Given as goal

abbrev pub invariant-loop-letter : goal.invariant-loop-letter
invariant-loop-letter l = l.copies ≡ take l.letter-index l.letters
