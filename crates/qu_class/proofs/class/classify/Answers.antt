use Rattle.std.proofs.Common.{◌≡◌, ◌↔◌, Some, ap, subst, sym, ◌∙◌}
use Rattle.qu_stamp.specs.declared.candidate.Candidate.{Candidate}
use Rattle.qu_history.specs.Sets.{entries_of, method_at}
use Rattle.qu_class.specs.declared.class.Class.{Class}
use Rattle.qu_class.specs.declared.class.Class.TheVariants.{Method}
use Rattle.qu_class.specs.Class.{with_members, class_in}
use Rattle.qu_class.specs.Rows.{IsClassIn, HasGroup}
use Rattle.qu_class.proofs.GroupRule.{class_in_tells, method_in_is}
use Rattle.qu_class.proofs.class.classify.Goals as goal

pub returns-clause-value : goal.returns-clause-value
unfolding class_in
returns-clause-value c =
    c.with_members.ensures.value
    ∙ ap (with_members c.args.bounds.now c.args.sets.now) c.class_of-class.ensures.value

pub returns-clause-tells : goal.returns-clause-tells
returns-clause-tells c = λ enough.
    subst (IsClassIn c.args.bounds.now c.args.sets.now c.args.object) (sym (returns-clause-value c))
    (class_in_tells c.args.bounds.now c.args.sets.now c.args.object c.class_of-class.ensures.formed enough
    (subst HasGroup c.class_of-class.ensures.value c.with_members.ensures.group))

pub returns-clause-method : goal.returns-clause-method
returns-clause-method c =
    subst (λ (class : Class). (candidate : Candidate) → (class ≡ Method candidate)
    ↔ (method_at c.args.bounds.now (entries_of c.args.object c.args.sets.now) ≡ Some candidate))
    (sym (returns-clause-value c))
    (method_in_is c.args.bounds.now c.args.sets.now c.args.object c.class_of-class.ensures.formed)
