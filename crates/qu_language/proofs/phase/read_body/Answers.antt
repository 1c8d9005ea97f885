-- A line of a faulty party or of events.
use Rattle.std.proofs.Common.{rules, ◌∙◌, sym}
use Rattle.qu_language.proofs.PhaseFacts.{body_is_later}
use Rattle.qu_language.proofs.phase.read_body.Goals as goal

pub returns-else-has_none-clause-value : goal.returns-else-has_none-clause-value
returns-else-has_none-clause-value c =
    rw (body_is_later c.args.live c.args.script c.args.number c.args.word.now c.args.words.now
    (search rules) (sym c.has_none.ensures ∙ c.if-has_none.false))
    c.read_later.ensures.value
