-- What a request of parts is decided, the replica may accept.
use Rattle.std.proofs.Common.{◌≡◌, refl, subst, sym}
use Rattle.std.proofs.lemmas.Result.{IfOk-weaker}
use Rattle.qu_frames.specs.declared.frame.Body.TheVariants as body
use Rattle.qu_rows.specs.declared.decision.Decision.{Decision}
use Rattle.qu_rows.specs.Rows.{decision_on}
use Rattle.qu_rows.specs.Allowed.{MayDecide}
use Rattle.qu_rows.proofs.Allowed.{decision_on-may}
use Rattle.qu_rows.proofs.tables.decide.Goals as goal

pub returns-in-Act-clause-may : goal.returns-in-Act-clause-may
returns-in-Act-clause-may c =
    IfOk-weaker c.decide_act.result
    (λ (decision : Decision). decision ≡ decision_on c.args.rows.now c.args.asked.now (body.Act c.in-Act.act))
    (λ (decision : Decision). MayDecide c.args.rows.now decision)
    (λ decision is. subst (MayDecide c.args.rows.now) (sym is)
    (decision_on-may c.args.rows.now c.args.asked.now (body.Act c.in-Act.act) c.decide_act.ensures.parts))
    c.decide_act.ensures.value

pub returns-in-Ask-clause-may : goal.returns-in-Ask-clause-may
returns-in-Ask-clause-may c =
    IfOk-weaker c.decide_ask.result
    (λ (decision : Decision). decision ≡ decision_on c.args.rows.now c.args.asked.now
    (body.Ask c.in-Ask.query)) (λ (decision : Decision). MayDecide c.args.rows.now decision)
    (λ decision is. subst (MayDecide c.args.rows.now) (sym is)
    (decision_on-may c.args.rows.now c.args.asked.now (body.Ask c.in-Ask.query) c.decide_ask.ensures.parts))
    c.decide_ask.ensures.value

pub returns-in-Mend-clause-may : goal.returns-in-Mend-clause-may
returns-in-Mend-clause-may c =
    IfOk-weaker c.decide_repair.result
    (λ (decision : Decision). decision ≡ decision_on c.args.rows.now c.args.asked.now (body.Mend c.in-Mend.target))
    (λ (decision : Decision). MayDecide c.args.rows.now decision)
    (λ decision is. subst (MayDecide c.args.rows.now) (sym is)
    (decision_on-may c.args.rows.now c.args.asked.now (body.Mend c.in-Mend.target) refl))
    c.decide_repair.ensures
