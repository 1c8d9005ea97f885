use Rattle.std.proofs.Common.{ap, ◌∙◌, sym, filter, arith}
use Rattle.qu_history.specs.Sets.{entries_of, greatest}
use Rattle.qu_history.proofs.Shown.{found_last}
use Rattle.qu_class.specs.Repairable.{is_shown_of_kind}
use Rattle.qu_class.proofs.repairable.last_of_kind.Goals as goal

pub returns-then-is_shown_of_kind-clause-value : goal.returns-then-is_shown_of_kind-clause-value
returns-then-is_shown_of_kind-clause-value c =
    let test = is_shown_of_kind c.args.barrier c.args.least (entries_of c.args.object c.args.sets.now) in
    found_last test c.as_slice-candidates.result.now
    c.loop-place.place _ _ _ (rw c.as_slice-candidates.ensures c.candidates.ensures.rising)
    (omega (arith, c.loop-place-test.true)) (omega (arith, c.loop-place.auto.place)) c.index-candidates-place.is
    (sym c.is_shown_of_kind.ensures ∙ c.if-is_shown_of_kind.true)
    (ap (λ candidates. greatest (filter test candidates))
    (sym (c.as_slice-candidates.ensures ∙ c.candidates.ensures.value)) ∙ c.loop-place.invariant)
