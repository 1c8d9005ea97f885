-- the letters so far are the same
use Rattle.std.proofs.Common.{◌≡◌, length, take}
use Rattle.qu_journal.proofs.alike.same_letters.Given as goal

abbrev pub invariant-loop-place : goal.invariant-loop-place
invariant-loop-place l = (length l.one ≡ length l.other) × (take l.place l.one ≡ take l.place l.other)
