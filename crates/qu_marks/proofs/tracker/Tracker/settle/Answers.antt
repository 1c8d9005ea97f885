use Rattle.std.proofs.Common.{◌≡◌, List, Some, get_or, refl, sym, ap, ◌∙◌}
use Rattle.std.specs.Prelude.{position}
use Rattle.qu_world.specs.State.{WorldState}
use Rattle.qu_claims.specs.Times.{world_after}
use Rattle.qu_known.specs.declared.tracked.Tracked.{Tracked}
use Rattle.qu_marks.specs.Tracker.{is_next}
use Rattle.qu_marks.proofs.Known.{position_known}
use Rattle.qu_marks.proofs.Marking.{bounds_after}
use Rattle.qu_marks.proofs.Settling.{marks-self, marks-set, all_settled, fewer_left}
use Rattle.qu_marks.proofs.tracker.Tracker.settle.Goals as goal

pub loop-index-init : goal.loop-index-init
loop-index-init c = marks-self (world_after c.args.trace.now c.args.event) c.args.event c.args.self.now

pub loop-index-smaller : goal.loop-index-smaller
loop-index-smaller c =
    let world : WorldState = world_after c.args.trace.now c.args.event in
    let all : List Tracked = c.loop-index.self in
    let items : c.self.inside.tracked.items ≡ all = c.self.view_is in
    let is : c.index_mut.result.now ≡ get_or all c.in-Some.index c.index_mut.result.now =
    c.index_mut.ensures.value ∙ ap (λ (held : List Tracked). get_or held c.in-Some.index c.index_mut.result.now)
    items in
    let next : position (is_next world all) all ≡ Some c.in-Some.index =
    sym (position_known world c.args.trace.now.setup.bounds c.args.known.now all
    (bounds_after c.args.trace.now c.args.event world refl) c.requires.known) ∙ sym c.in-Some.ensures in
    rw items (fewer_left world c.args.event all c.in-Some.index c.index_mut.result.now next is)

pub loop-index-preserved : goal.loop-index-preserved
loop-index-preserved c =
    let world : WorldState = world_after c.args.trace.now c.args.event in
    let all : List Tracked = c.loop-index.self in
    let items : c.self.inside.tracked.items ≡ all = c.self.view_is in
    let is : c.index_mut.result.now ≡ get_or all c.in-Some.index c.index_mut.result.now =
    c.index_mut.ensures.value ∙ ap (λ (held : List Tracked). get_or held c.in-Some.index c.index_mut.result.now)
    items in
    let next : position (is_next world all) all ≡ Some c.in-Some.index =
    sym (position_known world c.args.trace.now.setup.bounds c.args.known.now all
    (bounds_after c.args.trace.now c.args.event world refl) c.requires.known) ∙ sym c.in-Some.ensures in
    rw items (marks-set world c.args.event c.args.self.now all c.in-Some.index c.index_mut.result.now
    c.requires.accepted c.requires.sound c.loop-index.invariant next is)

pub returns : goal.returns
returns c =
    let world : WorldState = world_after c.args.trace.now c.args.event in
    all_settled world c.args.event c.args.self.now c.loop-index.self c.requires.accepted c.loop-index.invariant
    (sym (position_known world c.args.trace.now.setup.bounds c.args.known.now c.loop-index.self
    (bounds_after c.args.trace.now c.args.event world refl) c.requires.known) ∙ sym c.next.ensures ∙ c.in_default.is)
