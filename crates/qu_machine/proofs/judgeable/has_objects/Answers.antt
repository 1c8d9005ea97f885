use Rattle.std.proofs.Common.{◌↔◌, ◌<◌, ◌∙◌, List, IsTrue, sym, subst}
use Rattle.std.specs.List.{All}
use Rattle.qu_base.specs.declared.party.ObjectId.{ObjectId}
use Rattle.qu_objects.specs.declared.act.Method.{Method}
use Rattle.qu_objects.specs.declared.query.Ask.{Ask}
use Rattle.qu_objects.specs.declared.op.Op.{Op}
use Rattle.qu_machine.specs.Serial.{HasObjects}
use Rattle.qu_machine.proofs.judgeable.has_objects.Goals as goal

pub returns-in-Act : goal.returns-in-Act
returns-in-Act c =
    subst (λ (it : Op). IsTrue c.are_within.result ↔ HasObjects c.args.count it) (sym c.in-Act.is)
    (subst (λ (parts : List (ObjectId × Method)). IsTrue c.are_within.result ↔ All
    (λ part. (part.0).0 < c.args.count) parts)
    (c.as_slice.ensures ∙ c.parts.ensures.parts) c.are_within.ensures)

pub returns-in-Query : goal.returns-in-Query
returns-in-Query c =
    subst (λ (it : Op). IsTrue c.are_within-in-Query.result ↔ HasObjects c.args.count it) (sym c.in-Query.is)
    (subst (λ (parts : List (ObjectId × Ask)). IsTrue c.are_within-in-Query.result ↔ All
    (λ part. (part.0).0 < c.args.count) parts)
    (c.as_slice-in-Query.ensures ∙ c.parts-in-Query.ensures.parts) c.are_within-in-Query.ensures)
