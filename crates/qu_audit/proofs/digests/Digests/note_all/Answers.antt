use Rattle.qu_audit.specs.Digests.{look}
use Rattle.qu_audit.proofs.Noting.{notes_more}
use Rattle.qu_audit.proofs.digests.Digests.note_all.Goals as goal

pub loop-text-preserved : goal.loop-text-preserved
loop-text-preserved c =
    notes_more (look c.args.self.now) (look c.loop-text.self) (look c.note.new.self) c.args.event c.args.texts.now
    c.loop-text.text-index c.text-item.result c.loop-text-test.true c.text-item.is c.loop-text.invariant
    c.in_ok-note.ensures
