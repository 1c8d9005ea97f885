use Rattle.std.proofs.Common.{◌≡◌, List, [], length, sym, ap, subst, ◌∙◌}
use Rattle.std.specs.List.{All}
use Rattle.qu_trace.specs.declared.trace.Trace.{Trace}
use Rattle.qu_claims.specs.Times.{world_after}
use Rattle.qu_known.specs.declared.tracked.Tracked.{Tracked}
use Rattle.qu_known.specs.Known.{rows_tracked}
use Rattle.qu_marks.specs.Tracker.{with_all, TellsOf, AreAccepted}
use Rattle.qu_marks.proofs.Marking.{accepted_begun, tells_opening}
use Rattle.qu_marks.proofs.findings.begin.Goals as goal

pub mark-requires-clause-accepted : goal.mark-requires-clause-accepted
mark-requires-clause-accepted c =
    let all : c.as_slice.result.now ≡ rows_tracked c.objects.result c.args.known.now =
    c.as_slice.ensures ∙ c.in_ok-all.ensures in
    subst (λ (it : List Tracked). AreAccepted (world_after c.args.trace.now 0) (with_all c.as_slice.result.now it))
    (sym c.new-tracker.ensures)
    (subst (λ (it : List Tracked). AreAccepted (world_after c.args.trace.now 0) (with_all it [])) (sym all)
    (accepted_begun c.args.trace.now c.objects.result c.args.known.now
    (c.objects.ensures ∙ ap (λ (run : Trace). length run.setup.kinds) c.trace.ensures) c.requires.known))

pub mark-requires-clause-tells : goal.mark-requires-clause-tells
mark-requires-clause-tells c =
    subst (λ (it : List Tracked). All (TellsOf c.args.trace.now 0) (with_all c.as_slice.result.now it))
    (sym c.new-tracker.ensures)
    (tells_opening c.args.trace.now c.as_slice.result.now)
