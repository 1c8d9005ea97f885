use Rattle.std.proofs.Common.{◌+◌, List, sym, subst}
use Rattle.qu_claims.specs.Times.{world_after}
use Rattle.qu_known.specs.declared.tracked.Tracked.{Tracked}
use Rattle.qu_marks.specs.Tracker.{with_all, AreAccepted}
use Rattle.qu_marks.proofs.Marking.{accepted_learned, tells_with_all, tracks_still}
use Rattle.qu_marks.proofs.findings.follow.Goals as goal

pub returns-then-is_empty-clause-tracked : goal.returns-then-is_empty-clause-tracked
returns-then-is_empty-clause-tracked c =
    tracks_still c.args.trace.now c.args.index c.args.tracker.now (c.see_entry.new.known, (c.in_ok-told.told).news)
    c.requires.tracked c.in_ok-told.ensures.learned (c.is_empty.ensures.0 c.if-is_empty.true)

pub mark-requires-clause-accepted : goal.mark-requires-clause-accepted
mark-requires-clause-accepted c =
    subst (λ (news : List Tracked). AreAccepted (world_after c.args.trace.now (c.args.index + 1))
    (with_all news c.args.tracker.now)) (sym c.as_slice.ensures)
    (accepted_learned c.args.trace.now c.args.index c.args.tracker.now (c.see_entry.new.known, (c.in_ok-told.told).news)
    c.requires.tracked c.in_ok-told.ensures.learned)

pub mark-requires-clause-tells : goal.mark-requires-clause-tells
mark-requires-clause-tells c =
    tells_with_all c.args.trace.now c.args.index c.as_slice.result.now c.args.tracker.now c.requires.tracked
