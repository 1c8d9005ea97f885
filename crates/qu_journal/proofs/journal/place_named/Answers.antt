-- The named step is the next, or none is named.
use Rattle.qu_journal.proofs.Senders.{named_there, named_nowhere}
use Rattle.qu_journal.proofs.journal.place_named.Goals as goal

pub returns-then-is_named : goal.returns-then-is_named
returns-then-is_named c =
    named_there c.args.name c.args.steps.now c.loop-place.place c.index-steps-place.result c.is_named.result
    c.loop-place-test.true c.index-steps-place.is c.is_named.ensures c.if-is_named.true c.loop-place.invariant

pub returns : goal.returns
returns c =
    named_nowhere c.args.name c.args.steps.now c.loop-place.place c.loop-place-test.false c.loop-place.invariant
