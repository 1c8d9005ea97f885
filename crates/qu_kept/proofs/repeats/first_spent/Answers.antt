use Rattle.std.proofs.Common.{◌∙◌, sym}
use Rattle.std.proofs.lemmas.Slice.Zip.{zip_end}
use Rattle.qu_kept.proofs.StandingLaws.{none_left}
use Rattle.qu_kept.proofs.repeats.first_spent.Goals as goal

pub returns : goal.returns
returns c =
    let passed = zip_end c.args.parts.now c.args.states.now c.loop-object.yielded c.into_iter-object-iterator.result _
    c.next.new.self _ (cc) (cc) c.loop-object.yielded_by c.in-None.is c.next.ensures.steps in
    sym (none_left c.args.by c.args.number _ c.args.parts.now c.args.states.now passed) ∙ c.loop-object.invariant
