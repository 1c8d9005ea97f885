-- How an object is mended is by its class, and has its ground there.
use Rattle.std.proofs.Common.{◌≡◌, IfOk, subst}
use Rattle.qu_class.specs.declared.class.Class.{Class}
use Rattle.qu_plan.specs.Copying.{plan_of}
use Rattle.qu_plan.specs.Linking.{linking}
use Rattle.qu_mends.specs.Remedy.{course_by, course_of}
use Rattle.qu_mends.proofs.Seeing.{ok_grounded}
use Rattle.qu_mends.proofs.course.course_of.Goals as goal

pub returns-clause-value : goal.returns-clause-value
unfolding course_of
returns-clause-value c =
    subst (λ (class : Class). IfOk c.course_by.result (λ course. course
    ≡ course_by c.args.bounds.now c.args.sets.now c.args.target
    (plan_of c.args.bounds.now c.args.sets.now (linking c.args.facts.now) c.args.target) class))
    c.classify-class.ensures.value c.course_by.ensures.value

pub returns-clause-grounds : goal.returns-clause-grounds
returns-clause-grounds c =
    ok_grounded c.args.bounds.now c.args.sets.now c.args.target c.course_by.result
    (plan_of c.args.bounds.now c.args.sets.now (linking c.args.facts.now) c.args.target) c.classify-class.result
    c.course_by.ensures.value c.classify-class.ensures.method (c.classify-class.ensures.tells c.requires.quorum)
    c.course_by.ensures.copied
