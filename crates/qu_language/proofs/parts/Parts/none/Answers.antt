use Rattle.qu_language.proofs.PartFacts.{built_none}
use Rattle.qu_language.proofs.parts.Parts.none.Goals as goal

-- src/parts.rt:21:5
pub returns-clause-built : goal.returns-clause-built
returns-clause-built c = built_none _ c.new.ensures c.new-2.ensures
