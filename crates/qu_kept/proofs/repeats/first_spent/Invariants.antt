use Rattle.std.proofs.Common.{◌≡◌, drop, length}
use Rattle.qu_kept.specs.Standing.{first_spent}
use Rattle.qu_kept.proofs.repeats.first_spent.Given as goal

abbrev pub invariant-loop-object : goal.invariant-loop-object
invariant-loop-object l =
    first_spent l.by l.number (drop (length l.yielded) l.parts) (drop (length l.yielded) l.states)
    ≡ first_spent l.by l.number l.parts l.states
