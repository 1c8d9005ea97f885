-- The part stands behind the others, and is of the right size.
use Rattle.qu_language.proofs.operation.read_part_behind.Goals as goal

pub returns-clause-built : goal.returns-clause-built
returns-clause-built c = λ least most built.
    c.in_ok-with.ensures.built least most built c.in_ok-verb.ensures.known c.in_ok-verb.ensures.above
    c.in_ok-part.ensures.sized
