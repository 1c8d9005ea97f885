use Rattle.std.proofs.Common.{rules, ◌≡◌, ◌+◌, subst}
use Rattle.qu_language.specs.Parts.{with_part, AreBuilt}
use Rattle.qu_language.proofs.PartFacts.{built_with}
use Rattle.qu_language.proofs.parts.Parts.with.Goals as goal

-- src/parts.rt:50:5
pub returns-clause-built : goal.returns-clause-built
returns-clause-built c = λ least most built known below sized.
    let is : with_part c.args.self c.args.object c.args.part ≡ c.match-part.parts = search rules in
    subst (AreBuilt (least + 1) (most + 1)) is
    (built_with least most c.args.self c.args.object c.args.part built known below sized)
