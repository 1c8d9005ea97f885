use Rattle.std.proofs.Common.{List, subst}
use Rattle.std.specs.List.{AllByRecursion}
use Rattle.std.proofs.lemmas.List.{take_all}
use Rattle.qu_base.specs.declared.party.ObjectId.{ObjectId}
use Rattle.qu_objects.specs.declared.act.Method.{Method}
use Rattle.qu_points.specs.Points.{NumbersFit}
use Rattle.qu_points.proofs.Handled.SizedParts.{parts_fit_if}
use Rattle.qu_points.proofs.updates.parts_fit.Goals as goal

pub returns : goal.returns
returns c =
    parts_fit_if c.args.parts.now c.requires
    (subst (λ (parts : List (ObjectId × Method)). AllByRecursion (λ part. NumbersFit part.1) parts)
    (take_all c.loop-method.method-index c.args.parts.now c.loop-method-test.false) c.loop-method.invariant)
