use Rattle.std.proofs.Common.{◌≡◌, IfOk, List, subst}
use Rattle.qu_base.specs.declared.party.ObjectId.{ObjectId}
use Rattle.qu_question.proofs.Building.{built_here, built_with, built_at_zero}
use Rattle.qu_question.proofs.needed.+named_within.Goals as goal

pub returns-then-more-eq0-clause-named : goal.returns-then-more-eq0-clause-named
returns-then-more-eq0-clause-named t c = built_at_zero _ _ _ _ _ c.if-more-eq0.true

pub returns-in_ok-grown-in-Some-clause-named : goal.returns-in_ok-grown-in-Some-clause-named
returns-in_ok-grown-in-Some-clause-named t c =
    subst (λ (it : List ObjectId). IfOk c.named_within.result (λ built. built.0 ≡ it))
    (built_with c.args.more c.args.bounds c.args.round c.args.kept.now c.args.named c.objects.result.now
    c.objects-2.result.now c.in_ok-sets.sets c.objects.ensures.value c.objects-2.ensures.value c.in_ok-sets.ensures
    c.in-Some.object c.in_ok-grown-in-Some.grown c.if-more-eq0.false c.in-Some.ensures c.in_ok-grown-in-Some.ensures)
    c.named_within.ensures.named

pub returns-in-None-clause-named : goal.returns-in-None-clause-named
returns-in-None-clause-named t c =
    built_here c.args.more c.args.bounds c.args.round c.args.kept.now c.args.named c.objects.result.now
    c.objects-2.result.now c.in_ok-sets.sets c.objects.ensures.value c.objects-2.ensures.value c.in_ok-sets.ensures
    c.in-None.ensures
