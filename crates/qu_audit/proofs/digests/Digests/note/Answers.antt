use Rattle.std.proofs.Common.{sym, ◌∙◌}
use Rattle.qu_audit.specs.Digests.{look}
use Rattle.qu_audit.proofs.Noting.{notes_new}
use Rattle.qu_audit.proofs.digests.Digests.note.Goals as goal

pub returns : goal.returns
returns c =
    notes_new (look c.args.self.now) (look (record { seen = c.insert-2.new.self; sampled = c.insert.new.self }))
    c.args.event c.args.text.now
    c.in_ok-text.text c.digest-digest.result c.digest-digest.ensures c.in_ok-text.ensures
    (sym c.contains_key.ensures ∙ c.if-contains_key.false) c.in_ok-insert-2.ensures.updates.0
