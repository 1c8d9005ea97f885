use Rattle.std.proofs.Common.{None, sym, ap, refl, ◌∙◌}
use Rattle.qu_known.specs.declared.answers.Answered.{Answered}
use Rattle.qu_points.specs.Points.{first_answer}
use Rattle.qu_points.proofs.Taken.AnsweredRounds.{first_answered}
use Rattle.qu_points.proofs.Taken.Taking.{answered, unanswered}
use Rattle.qu_points.proofs.effects.first_answer_of.Goals as goal

pub returns-in-Some : goal.returns-in-Some
returns-in-Some c =
    let asked : Answered = record { client = c.args.client; number = c.args.number; round = c.in-Some.round } in
    answered c.args.trace.now c.args.client c.args.number c.args.reply c.in-Some.round c.first_answer.result
    (sym c.in-Some.is ∙ c.delivered_round.ensures)
    (c.first_answer.ensures ∙ ap (first_answer asked) c.requires.answered
    ∙ first_answered asked c.args.trace.now.entries)

pub returns-in-None : goal.returns-in-None
returns-in-None c =
    unanswered c.args.trace.now c.args.client c.args.number c.args.reply None
    (sym c.in-None.is ∙ c.delivered_round.ensures) refl
