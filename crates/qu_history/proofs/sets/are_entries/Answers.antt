use Rattle.std.proofs.Common.{◌+◌, drop, sym, ◌∙◌, ap}
use Rattle.qu_base.specs.declared.party.ReplicaId.{ReplicaId}
use Rattle.qu_history.specs.Sets.{are_entries, histories}
use Rattle.qu_history.proofs.SetLaws.{are_entries_all, are_entries_no, are_entries_more}
use Rattle.qu_history.proofs.Histories.{histories_within, histories_whole, history_at}
use Rattle.qu_history.proofs.sets.are_entries.Goals as goal

pub returns-then-not-is_entry : goal.returns-then-not-is_entry
returns-then-not-is_entry c =
    are_entries_no c.args.object (histories c.args.entries.now) c.loop-entry.least c.loop-entry.entry-index
    c.loop-entry.invariant c.entry-item.result.history
    (histories_within c.args.entries.now _ c.loop-entry-test.true)
    (history_at c.args.entries.now _ c.entry-item.result c.loop-entry-test.true c.entry-item.is)
    (sym c.is_entry.ensures ∙ c.if-not-is_entry.true)

pub loop-entry-preserved : goal.loop-entry-preserved
loop-entry-preserved c =
    are_entries_more c.args.object (histories c.args.entries.now) c.loop-entry.least c.loop-entry.entry-index
    c.loop-entry.invariant c.entry-item.result.history
    (histories_within c.args.entries.now _ c.loop-entry-test.true)
    (history_at c.args.entries.now _ c.entry-item.result c.loop-entry-test.true c.entry-item.is)
    (sym c.is_entry.ensures ∙ c.if-not-is_entry.false) ∙
    ap (λ (replica : ReplicaId). are_entries c.args.object (replica.0 + 1)
    (drop (c.loop-entry.entry-index + 1) (histories c.args.entries.now))) (sym c.replica-least.ensures)

pub returns : goal.returns
returns c = are_entries_all c.args.object (histories c.args.entries.now) c.loop-entry.least
    c.loop-entry.entry-index c.loop-entry.invariant (histories_whole c.args.entries.now _ c.loop-entry-test.false)
