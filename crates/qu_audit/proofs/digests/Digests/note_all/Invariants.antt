use Rattle.std.proofs.Common.{take}
use Rattle.qu_audit.specs.Digests.{look, Notes}
use Rattle.qu_audit.proofs.digests.Digests.note_all.Given as goal

-- the texts so far are noted
abbrev pub invariant-loop-text : goal.invariant-loop-text
invariant-loop-text l = Notes (look l.initial.self) (look l.self) l.event (take l.text-index l.texts)
