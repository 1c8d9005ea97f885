use Rattle.std.proofs.Common.{ap, ◌∙◌, sym, filter, arith}
use Rattle.std.proofs.lemmas.Bool.{le-leb}
use Rattle.qu_history.specs.Sets.{histories, greatest}
use Rattle.qu_history.specs.Trimming.{is_held_by}
use Rattle.qu_history.proofs.Shown.{found_last}
use Rattle.qu_history.proofs.trimming.last_shown.Goals as goal

pub returns-then-order_of-least : goal.returns-then-order_of-least
returns-then-order_of-least c =
    found_last (is_held_by (histories c.args.entries.now) c.args.least) c.as_slice-candidates.result.now
    c.loop-place.place _ _ _ (rw c.as_slice-candidates.ensures c.candidates.ensures.rising)
    (omega (arith, c.loop-place-test.true)) (omega (arith, c.loop-place.auto.place)) c.index-candidates-place.is
    (le-leb _ _ (omega (arith, c.if-order_of-least.true, c.order_of.ensures.value)))
    (ap (λ candidates. greatest (filter (is_held_by (histories c.args.entries.now) c.args.least) candidates))
    (sym (c.as_slice-candidates.ensures ∙ c.candidates.ensures.value)) ∙ c.loop-place.invariant)
