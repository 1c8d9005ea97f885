use Rattle.std.proofs.lemmas.Result.{IfOk-weaker}
use Rattle.qu_kept.proofs.StandingLaws.{fresh_where, already_where, spent_where}
use Rattle.qu_kept.proofs.repeats.standing_of.Goals as goal

pub returns-clause-fresh : goal.returns-clause-fresh
returns-clause-fresh c = λ fit.
    IfOk-weaker c.stands.result _ _
    (λ standing is. rw is (fresh_where c.args.by c.args.number c.args.digest.now c.args.act.now c.args.states.now
    c.stands.ensures.in_order fit))
    c.stands.ensures.value

pub returns-clause-already : goal.returns-clause-already
returns-clause-already c = λ fit.
    IfOk-weaker c.stands.result _ _
    (λ standing is. rw is (already_where c.args.by c.args.number c.args.digest.now c.args.act.now c.args.states.now
    c.stands.ensures.in_order fit))
    c.stands.ensures.value

pub returns-clause-spent : goal.returns-clause-spent
returns-clause-spent c = λ fit object kept.
    IfOk-weaker c.stands.result _ _
    (λ standing is. rw is (spent_where c.args.by c.args.number c.args.digest.now c.args.act.now c.args.states.now
    c.stands.ensures.in_order fit object kept))
    c.stands.ensures.value
