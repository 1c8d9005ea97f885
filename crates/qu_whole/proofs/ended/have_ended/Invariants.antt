-- the clients so far have ended
use Rattle.std.proofs.Common.{take}
use Rattle.qu_gather.specs.Gathered.{HaveEnded}
use Rattle.qu_whole.proofs.ended.have_ended.Given as goal

abbrev pub invariant-loop-kept : goal.invariant-loop-kept
invariant-loop-kept g l = HaveEnded g.N.RunName.calls (take l.kept-index l.held)
