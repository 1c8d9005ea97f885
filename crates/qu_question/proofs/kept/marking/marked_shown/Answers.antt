use Rattle.std.proofs.Common.{◌∙◌, arith}
use Rattle.qu_question.proofs.Marks.{shown_up_to, shown_up_to_more, shown_up_to_all, all_written}
use Rattle.qu_question.proofs.kept.marking.marked_shown.Goals as goal

pub loop-held-init : goal.loop-held-init
unfolding shown_up_to
loop-held-init c = c.deref_mut-held-items.ensures.value ∙ c.into_vec-all.ensures

pub loop-held-preserved : goal.loop-held-preserved
loop-held-preserved c =
    shown_up_to_more _ _ _ _ _ _ c.loop-held.invariant (omega arith) c.mark_in-held.ensures

pub returns : goal.returns
returns c =
    c.from.ensures ∙ all_written _ _ _ (c.loop-held.auto.held-items ∙ c.deref_mut-held-items.ensures.len) ∙
    shown_up_to_all _ _ _ _ c.loop-held.invariant (omega arith)
