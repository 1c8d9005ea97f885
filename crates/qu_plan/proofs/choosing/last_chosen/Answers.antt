use Rattle.std.proofs.Common.{ap, ◌∙◌, sym, filter, arith}
use Rattle.qu_history.specs.Sets.{greatest}
use Rattle.qu_history.proofs.Shown.{found_last}
use Rattle.qu_plan.specs.Chosen.{may_be_chosen}
use Rattle.qu_plan.specs.Linking.{linking}
use Rattle.qu_plan.proofs.choosing.last_chosen.Goals as goal

pub returns-then-may_be_chosen-clause-value : goal.returns-then-may_be_chosen-clause-value
returns-then-may_be_chosen-clause-value c =
    let test = may_be_chosen c.args.known.now.bounds c.args.known.now.sets (linking c.args.known.now.facts)
    c.args.object in
    found_last test c.as_slice-candidates.result.now
    c.loop-place.place _ _ _ (rw c.as_slice-candidates.ensures c.candidates.ensures.rising)
    (omega (arith, c.loop-place-test.true)) (omega (arith, c.loop-place.auto.place)) c.index-candidates-place.is
    (sym c.may_be_chosen.ensures ∙ c.if-may_be_chosen.true)
    (ap (λ candidates. greatest (filter test candidates))
    (sym (c.as_slice-candidates.ensures ∙ c.candidates.ensures.value)) ∙ c.loop-place.invariant)
