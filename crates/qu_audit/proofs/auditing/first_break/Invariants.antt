use Rattle.qu_audit.specs.Past.{IsPast}
use Rattle.qu_audit.proofs.auditing.first_break.Given as goal

-- the events so far break nothing
abbrev pub invariant-loop-index : goal.invariant-loop-index
invariant-loop-index l = IsPast l.trace l.index l.past
