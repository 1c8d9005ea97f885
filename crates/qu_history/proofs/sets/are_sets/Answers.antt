use Rattle.std.proofs.Common.{◌≡◌, length, sym, ◌∙◌, arith}
use Rattle.std.proofs.lemmas.Bool.{eqb-true, eqb-false}
use Rattle.qu_history.proofs.SetLaws.{are_sets_all, are_sets_none, are_sets_many, are_sets_no, are_sets_more}
use Rattle.qu_history.proofs.sets.are_sets.Goals as goal
use Rattle.qu_history.proofs.sets.are_sets.Goals.{then-is_empty-via-then-is_empty, then-is_empty-via-else-is_empty+then-objects-gt-OBJECTS_LIMIT}

pub returns-then-is_empty : goal.returns-then-is_empty
returns-then-is_empty c =
    elim c.then-is_empty.branch [
      | then-is_empty-via-then-is_empty w ↦
          are_sets_none c.args.objects.now
          (eqb-true (length c.args.objects.now) 0 (sym c.is_empty.ensures ∙ w.if-is_empty.true))
      | then-is_empty-via-else-is_empty+then-objects-gt-OBJECTS_LIMIT w ↦
          are_sets_many c.args.objects.now w.if-objects-gt-OBJECTS_LIMIT.true
    ]

pub returns-then-not-is_set : goal.returns-then-not-is_set
returns-then-not-is_set c =
    are_sets_no c.args.objects.now c.loop-set.least c.loop-set.set-index c.loop-set.invariant c.set-item.result
    c.loop-set-test.true c.set-item.is
    (sym c.is_set.ensures ∙ c.if-not-is_set.true)

pub loop-set-preserved : goal.loop-set-preserved
loop-set-preserved c =
    are_sets_more c.args.objects.now c.loop-set.least c.loop-set.set-index c.loop-set.invariant c.set-item.result
    c.loop-set-test.true c.set-item.is
    (sym c.is_set.ensures ∙ c.if-not-is_set.false)

pub returns : goal.returns
returns c =
    let some : length c.args.objects.now ≡ 0 → ⊥ =
    eqb-false (length c.args.objects.now) 0 (sym c.is_empty.ensures ∙ c.if-is_empty.false) in
    are_sets_all c.args.objects.now c.loop-set.least c.loop-set.set-index c.loop-set.invariant
    c.loop-set-test.false (omega arith) c.if-objects-gt-OBJECTS_LIMIT.false
