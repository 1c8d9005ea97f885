-- What was planned is what a text makes of what the replica holds and sends.
use Rattle.std.proofs.Common.{sym, subst, ◌∙◌}
use Rattle.std.specs.List.{AllByRecursion}
use Rattle.qu_rows.specs.State.{AreHistories}
use Rattle.qu_replica.specs.Growth.{Grows}
use Rattle.qu_fitting.specs.Fits.{StateFits, LetterFits}
use Rattle.qu_replica.proofs.States.Growth.{step-grows}
use Rattle.qu_replica.proofs.Fits.FitSteps.{step-fits}
use Rattle.qu_replica.proofs.replica.Replica.step.Goals as goal

pub returns-in_err-planned-clause-histories : goal.returns-in_err-planned-clause-histories
returns-in_err-planned-clause-histories c = c.plan.ensures.histories

pub returns-clause-histories : goal.returns-clause-histories
returns-clause-histories c = subst AreHistories (sym c.carry_out.ensures.state) c.in_ok-planned.ensures.may.own

pub returns-clause-grows : goal.returns-clause-grows
returns-clause-grows c =
    subst (Grows c.args.self.now) (sym (c.carry_out.ensures.state ∙ c.in_ok-planned.ensures.state))
    (step-grows c.args.self.now c.args.text.now)

pub returns-clause-holds_what_fits : goal.returns-clause-holds_what_fits
returns-clause-holds_what_fits c = λ fits.
    subst StateFits (sym (c.carry_out.ensures.state ∙ c.in_ok-planned.ensures.state))
    (step-fits c.args.self.now c.args.text.now c.are_bytes.ensures fits).0

pub returns-clause-sends_what_fits : goal.returns-clause-sends_what_fits
returns-clause-sends_what_fits c = λ fits.
    subst (AllByRecursion LetterFits) (sym (c.carry_out.ensures.letters ∙ c.in_ok-planned.ensures.letters))
    (step-fits c.args.self.now c.args.text.now c.are_bytes.ensures fits).1
