use Rattle.std.proofs.Common.{◌≡◌, true, false, eqb, sym, ap, ◌∙◌}
use Rattle.qu_history.proofs.SetLaws.{entries_of_all, entries_of_found, entries_of_more}
use Rattle.qu_history.specs.Sets.{histories}
use Rattle.qu_history.proofs.sets.entries_in.Goals as goal

pub returns-then-eq : goal.returns-then-eq
returns-then-eq c =
    let found : eqb (c.set-item.result.object).0 c.args.object.0 ≡ true = sym c.eq.ensures ∙ c.if-eq.true in
    ap histories c.as_slice.ensures ∙ entries_of_found c.args.object c.args.objects.now c.loop-set.set-index
    c.loop-set.invariant c.set-item.result c.loop-set-test.true c.set-item.is found

pub loop-set-preserved : goal.loop-set-preserved
loop-set-preserved c =
    let other : eqb (c.set-item.result.object).0 c.args.object.0 ≡ false = sym c.eq.ensures ∙ c.if-eq.false in
    entries_of_more c.args.object c.args.objects.now c.loop-set.set-index c.loop-set.invariant c.set-item.result
    c.loop-set-test.true c.set-item.is other

pub returns : goal.returns
returns c = entries_of_all c.args.object c.args.objects.now c.loop-set.set-index c.loop-set.invariant
    c.loop-set-test.false
