-- What the versions of the evidence tell decides how the target is mended.
use Rattle.std.proofs.Common.{List, ap, ◌∙◌}
use Rattle.qu_plan.specs.declared.fact.Fact.{Fact}
use Rattle.qu_plan.specs.Linking.{linking}
use Rattle.qu_mends.specs.Remedy.{course_of}
use Rattle.qu_rows.specs.Rows.{facts_of}
use Rattle.qu_rows.proofs.Facts.{facts_decide}
use Rattle.qu_rows.proofs.rows.Rows.mend.Goals as goal

pub mending-requires-clause-facts : goal.mending-requires-clause-facts
mending-requires-clause-facts c =
    ap (λ (facts : List Fact). course_of c.args.self.now.keys.bounds c.args.asked.now.sets (linking facts)
    c.args.target)
    (c.as_slice.ensures ∙ c.in_ok-facts.ensures ∙ ap (facts_of c.args.self.now) c.requires.evidence)
    ∙ facts_decide c.args.self.now c.args.asked.now c.args.target
