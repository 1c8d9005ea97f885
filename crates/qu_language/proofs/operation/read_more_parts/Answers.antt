use Rattle.std.proofs.Common.{rules, ◌≡◌, Err}
use Rattle.qu_language.proofs.PartFacts.{more_refused}
use Rattle.qu_language.proofs.operation.read_more_parts.Goals as goal

-- src/operation.rt:71:17
pub returns-in_err-parts-clause-value : goal.returns-in_err-parts-clause-value
returns-in_err-parts-clause-value c =
    let is : c.from_residual.result ≡ Err c.in_err-parts.field-0.0 = search rules in
    more_refused c.from_residual.result c.in_err-parts.field-0.0 _ c.loop.counter c.args.objects c.loop.parts
    c.loop.words is c.loop.invariant.meant (search rules) c.in_err-parts.ensures.value
