use Rattle.std.proofs.Common.{◌≡◌, ◌++◌, take}
use Rattle.std.specs.Prelude.{map}
use Rattle.qu_audit.specs.Forging.{letter_shown}
use Rattle.qu_audit.proofs.shown.ShownSoFar.add.Given as goal

-- what the letters so far show
abbrev pub invariant-loop-place : goal.invariant-loop-place
invariant-loop-place l = l.self-inside.shown.items ≡ l.fn.self ++ map letter_shown (take l.place l.letters)
