use Rattle.std.proofs.Common.{List, sym, subst}
use Rattle.std.specs.List.{AllZip, All}
use Rattle.qu_trace.specs.declared.trace.Trace.{Trace}
use Rattle.qu_claims.specs.Times.{world_after}
use Rattle.qu_known.specs.declared.tracked.Tracked.{Tracked}
use Rattle.qu_marks.specs.Tracker.{IsDecidedMark, IsSettled, AreAccepted}
use Rattle.qu_marks.proofs.Marking.{all_sound_by_tells, tracks_settled}
use Rattle.qu_marks.proofs.findings.mark.Goals as goal

pub settle-requires-clause-accepted : goal.settle-requires-clause-accepted
settle-requires-clause-accepted c =
    subst (λ (run : Trace). AreAccepted (world_after run c.args.event) c.add_all.new.self) (sym c.trace.ensures)
    (subst (λ (it : List Tracked). AreAccepted (world_after c.args.trace.now c.args.event) it)
    (sym (c.in_ok-add_all.ensures)) c.requires.accepted)

pub settle-requires-clause-sound : goal.settle-requires-clause-sound
settle-requires-clause-sound c =
    subst (λ (run : Trace). All (IsDecidedMark (world_after run c.args.event)) c.add_all.new.self)
    (sym c.trace.ensures)
    (subst (λ (it : List Tracked). All (IsDecidedMark (world_after c.args.trace.now c.args.event)) it)
    (sym (c.in_ok-add_all.ensures))
    (all_sound_by_tells c.args.trace.now c.requires.run c.args.event _ c.requires.tells))

pub returns : goal.returns
returns c =
    tracks_settled c.args.trace.now c.requires.run c.args.event _ c.settle.new.self c.requires.accepted
    c.requires.tells
    (subst (λ (it : List Tracked). AllZip (IsSettled (world_after c.args.trace.now c.args.event) c.args.event) it
    c.settle.new.self) (c.in_ok-add_all.ensures)
    (subst (λ (run : Trace). AllZip (IsSettled (world_after run c.args.event) c.args.event) c.add_all.new.self
    c.settle.new.self) c.trace.ensures c.settle.ensures))
