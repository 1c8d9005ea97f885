-- The texts so far stand behind the others.
use Rattle.std.proofs.Common.{◌≡◌, ◌++◌}
use Rattle.qu_audit.proofs.texts.append.Given as goal

abbrev pub invariant-loop-text : goal.invariant-loop-text
invariant-loop-text l = l.texts ≡ l.fn.texts ++ l.yielded
