use Rattle.std.proofs.Common.{◌≡◌, take}
use Rattle.qu_objects.proofs.state.ObjState.copy_all.Given as goal

abbrev pub invariant-loop-state : goal.invariant-loop-state
invariant-loop-state l = l.copies ≡ take l.state-index l.states
