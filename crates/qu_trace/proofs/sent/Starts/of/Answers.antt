-- The letters of an entry begin behind those of the earlier ones.
use Rattle.std.proofs.Common.{ℕ, ◌+◌, ◌-◌, ◌^◌, min, take, ap, ◌∙◌}
use Rattle.qu_trace.proofs.LetterLaws.{taken_more}
use Rattle.qu_trace.proofs.StartLaws.{are_more}
use Rattle.qu_trace.proofs.sent.Starts.of.Goals as goal

pub loop-entry-preserved : goal.loop-entry-preserved
loop-entry-preserved c =
    are_more (take c.loop-entry.entry-index c.args.entries.now) _ c.entry-item.result c.loop-entry.starts _
    c.loop-entry.invariant
    (taken_more c.args.entries.now c.loop-entry.entry-index c.entry-item.result c.loop-entry-test.true c.entry-item.is)
    c.in_ok-push.ensures.items
    (c.saturating_add.ensures ∙ ap (λ (count : ℕ). min (c.loop-entry.starts.next + count) (2 ^ 64 - 1)) c.len.ensures)
