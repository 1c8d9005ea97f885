use Rattle.std.proofs.Common.{List, subst, ◌∙◌}
use Rattle.std.specs.Prelude.{All, IsTrue}
use Rattle.std.proofs.lemmas.List.{take_all}
use Rattle.std.proofs.lemmas.List.Elements.{All-more}
use Rattle.qu_base.specs.declared.party.ObjectId.{ObjectId}
use Rattle.qu_objects.specs.declared.act.Method.{Method}
use Rattle.qu_objects.specs.Digesting.{PartsFit}
use Rattle.qu_objects.specs.Parts.{are_parts}
use Rattle.qu_points.specs.Points.{ActFits}
use Rattle.qu_points.proofs.updates.acts_fit.Goals as goal

pub loop-act-preserved : goal.loop-act-preserved
loop-act-preserved c =
    All-more ActFits c.args.acts.now c.loop-act.act-index c.loop-act-item.result c.loop-act-test.true
    c.loop-act.invariant
    (subst ActFits c.loop-act-item.is (
      subst (λ (parts : List (ObjectId × Method)). IsTrue (are_parts parts)) c.parts.ensures.parts
          c.parts.ensures.in_order,
      subst PartsFit (c.as_slice.ensures ∙ c.parts.ensures.parts) c.parts_fit.ensures,
    ))

pub returns : goal.returns
returns c =
    subst (All ActFits) (take_all c.loop-act.act-index c.args.acts.now c.loop-act-test.false) c.loop-act.invariant
